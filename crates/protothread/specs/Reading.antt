-- The meaning of a thread's block, statement by statement. The meaning refers to statements, blocks,
-- threads and sights, but not to the way in which a thread stores its place.
use Rattle.std.specs.Prelude.{ℕ, ◌≡◌, true, false, List, [], ◌∷◌, ◌++◌, slice_set, Option, None, Some, if◌then◌else◌}
use Rattle.program_tree.specs.declared.event.Event.{Event}
use Rattle.program_tree.specs.declared.event.Proc.TheVariants.{Own}
use Rattle.program_tree.specs.declared.event.SystemEvent.TheVariants.{Continue}
use Rattle.program_tree.specs.declared.event.Target.TheVariants.{One}
use Rattle.program_tree.specs.Events.{system_number}
use Rattle.program_tree.specs.EventNames.{sent, cast, continue}
use Rattle.program_tree.specs.Tree.{Expression, is, Action, yield, yield_until, spawn, restart, exit, pause, Statement}
use Rattle.program_tree.specs.Tree.{does, branch, while, Body, Otherwise, listed}
use Rattle.program_tree.specs.Code.{Code}
use Rattle.protothread.specs.declared.answer.PtState.{PtState}
use Rattle.protothread.specs.declared.answer.PtState.TheVariants.{Waiting}
use Rattle.protothread.specs.declared.effect.StatementEffect.{StatementEffect}
use Rattle.protothread.specs.declared.effect.StatementEffect.TheVariants.{Passes, Assigns, Operates, Waits}
use Rattle.protothread.specs.declared.step.Op.{Op}
use Rattle.protothread.specs.declared.step.Op.TheVariants.{Post}
use Rattle.protothread.specs.Looks.{Looks}
use Rattle.protothread.specs.Value.{value, holds}
use Rattle.protothread.specs.Remainder.{thread_block}
use Rattle.protothread.specs.Step.{effect_of, other_block}

-- The sight of a thread each time it is advanced: the answer to its last operation, the event, and its view of its
-- mote. Each operation may change this view.
pub record Sight : Type 0 where
  pub answer : ℕ
  pub event : Event
  pub looks : Looks

-- the actions of a thread that its caller sees, in order: its operations, and its answers when it gives up control
pub data Happening : Type 0 where
  operates : Op → Happening
  gives_up : PtState → Happening

-- The outcome of statements. Either they were executed, or the thread left them because it restarts or exits. In both
-- cases the thread continues in the sight `now`, with the later ones after it. Or the thread is still in the
-- statements, and no sight is left.
pub data Completion : Type 0 where
  done : (now : Sight) → (later : List Sight) → (variables : List ℕ) → Completion
  restarts : (now : Sight) → (later : List Sight) → (variables : List ℕ) → Completion
  exits : (now : Sight) → (later : List Sight) → (variables : List ℕ) → Completion
  in_state : (variables : List ℕ) → Completion

-- the statements were executed
abbrev pub IsDone : Completion → Type 0
IsDone (done now later vars) = Unit {0}
IsDone out = ⊥

-- the thread left the statements because it restarts
abbrev pub Restarts : Completion → Type 0
Restarts (restarts now later vars) = Unit {0}
Restarts out = ⊥

-- the variable after `into`, if there is one, gets the answer
abbrev pub with_answer : (into : Option ℕ) → (variables : List ℕ) → (answer : ℕ) → List ℕ
with_answer None vars answer = vars
with_answer (Some i) vars answer = slice_set vars i answer

-- the outcome of a statement after which the thread continues in the next sight
abbrev pub resumed : (into : Option ℕ) → (later : List Sight) → (variables : List ℕ) → Completion
resumed into [] vars = in_state vars
resumed into (next ∷ later) vars = done next later (with_answer into vars next.answer)

-- the immediate effect of a statement that is reached
abbrev pub effect : Code → Action ℕ → Sight → (variables : List ℕ) → StatementEffect
effect code a now vars = effect_of code.number false vars now.event now.looks a

-- the value of an expression in a sight
abbrev pub meaning : Expression ℕ → Sight → (variables : List ℕ) → ℕ
meaning e now vars = value vars now.event now.looks e

-- a thread that has yielded continues in the first sight in which the condition holds, and yields in each earlier
-- sight
pub data Awaits (yields : PtState) (c : Expression ℕ) : (now : Sight) → (later : List Sight) → (variables : List ℕ)
    → List Happening → Completion → Type 0 where
  met : (now : Sight) (later : List Sight) (vars : List ℕ) → holds (meaning c now vars) ≡ true
      → Awaits yields c now later vars [] (done now later vars)
  again : (now next : Sight) (later : List Sight) (vars : List ℕ) (h : List Happening) (out : Completion)
      → holds (meaning c now vars) ≡ false → Awaits yields c next later vars h out
      → Awaits yields c now (next ∷ later) vars (gives_up yields ∷ h) out
  never : (now : Sight) (vars : List ℕ) → holds (meaning c now vars) ≡ false
      → Awaits yields c now [] vars (gives_up yields ∷ []) (in_state vars)

mutual
  -- The effect of one statement. If the thread yields, the caller of its part gets the answer `yields`: YIELDED, or
  -- WAITING from a spawned thread.
  pub data Reads (code : Code) : (yields : PtState) → Statement ℕ → (now : Sight) → (later : List Sight)
      → (variables : List ℕ) → List Happening → Completion → Type 0 where
    passes : (y : PtState) (a : Action ℕ) (now : Sight) (later : List Sight) (vars : List ℕ)
        → effect code a now vars ≡ Passes → Reads code y (does a) now later vars [] (done now later vars)
    assigns : (y : PtState) (a : Action ℕ) (i v : ℕ) (now : Sight) (later : List Sight) (vars : List ℕ)
        → effect code a now vars ≡ Assigns i v
        → Reads code y (does a) now later vars [] (done now later (slice_set vars i v))
    performs : (y : PtState) (a : Action ℕ) (o : Op) (into : Option ℕ) (now : Sight) (later : List Sight)
        (vars : List ℕ)
        → effect code a now vars ≡ Operates o into
        → Reads code y (does a) now later vars (operates o ∷ []) (resumed into later vars)
    -- `wait_until`, `wait_while` and `acquire`: the answer WAITING, and then the statement again in the next sight
    waits : (y : PtState) (a : Action ℕ) (now next : Sight) (later : List Sight) (vars : List ℕ) (h : List Happening)
        (out : Completion)
        → effect code a now vars ≡ Waits → Reads code y (does a) next later vars h out
        → Reads code y (does a) now (next ∷ later) vars (gives_up Waiting ∷ h) out
    waits_last : (y : PtState) (a : Action ℕ) (now : Sight) (vars : List ℕ)
        → effect code a now vars ≡ Waits → Reads code y (does a) now [] vars (gives_up Waiting ∷ []) (in_state vars)
    -- the thread gives up control once
    yields : (y : PtState) (now : Sight) (later : List Sight) (vars : List ℕ)
        → Reads code y (does yield) now later vars (gives_up y ∷ []) (resumed None later vars)
    yields_until : (y : PtState) (c : Expression ℕ) (now next : Sight) (later : List Sight) (vars : List ℕ)
        (h : List Happening) (out : Completion)
        → Awaits y c next later vars h out
        → Reads code y (does (yield_until c)) now (next ∷ later) vars (gives_up y ∷ h) out
    yields_until_last : (y : PtState) (c : Expression ℕ) (now : Sight) (vars : List ℕ)
        → Reads code y (does (yield_until c)) now [] vars (gives_up y ∷ []) (in_state vars)
    -- a post of CONTINUE to the thread's own process, and then the same as for `yield_until is(continue)`
    pauses : (y : PtState) (now next second : Sight) (later : List Sight) (vars : List ℕ) (h : List Happening)
        (out : Completion)
        → Awaits y (is (sent (cast continue))) second later vars h out
        → Reads code y (does pause) now (next ∷ second ∷ later) vars
        (operates (Post (One (Own code.number)) (system_number Continue) 0) ∷ gives_up y ∷ h) out
    pauses_last : (y : PtState) (now next : Sight) (vars : List ℕ)
        → Reads code y (does pause) now (next ∷ []) vars
        (operates (Post (One (Own code.number)) (system_number Continue) 0) ∷ gives_up y ∷ []) (in_state vars)
    posts_last : (y : PtState) (now : Sight) (vars : List ℕ)
        → Reads code y (does pause) now [] vars
        (operates (Post (One (Own code.number)) (system_number Continue) 0) ∷ []) (in_state vars)
    -- the block of the spawned thread, in the same call; if that thread ends or exits, its spawner continues
    spawn_ends : (y : PtState) (t : ℕ) (now : Sight) (later : List Sight) (vars : List ℕ) (h : List Happening)
        (call : Sight) (calls : List Sight) (changed : List ℕ)
        → ReadsThread code Waiting (thread_block code t) now later vars h (done call calls changed)
        → Reads code y (does (spawn t)) now later vars h (done call calls changed)
    spawn_exits : (y : PtState) (t : ℕ) (now : Sight) (later : List Sight) (vars : List ℕ) (h : List Happening)
        (call : Sight) (calls : List Sight) (changed : List ℕ)
        → ReadsThread code Waiting (thread_block code t) now later vars h (exits call calls changed)
        → Reads code y (does (spawn t)) now later vars h (done call calls changed)
    spawn_in_state : (y : PtState) (t : ℕ) (now : Sight) (later : List Sight) (vars : List ℕ) (h : List Happening)
        (changed : List ℕ)
        → ReadsThread code Waiting (thread_block code t) now later vars h (in_state changed)
        → Reads code y (does (spawn t)) now later vars h (in_state changed)
    restarted : (y : PtState) (now next : Sight) (later : List Sight) (vars : List ℕ)
        → Reads code y (does restart) now (next ∷ later) vars (gives_up Waiting ∷ []) (restarts next later vars)
    restarted_last : (y : PtState) (now : Sight) (vars : List ℕ)
        → Reads code y (does restart) now [] vars (gives_up Waiting ∷ []) (in_state vars)
    exited : (y : PtState) (now : Sight) (later : List Sight) (vars : List ℕ)
        → Reads code y (does exit) now later vars [] (exits now later vars)
    -- the block that the condition chooses
    chooses : (y : PtState) (c : Expression ℕ) (a : Body ℕ) (o : Otherwise ℕ) (now : Sight) (later : List Sight)
        (vars : List ℕ) (h : List Happening) (out : Completion)
        → ReadsAll code y (if holds (meaning c now vars) then listed a else other_block o) now later vars h out
        → Reads code y (branch c a o) now later vars h out
    -- the body, and then the loop again
    repeats : (y : PtState) (c : Expression ℕ) (a : Body ℕ) (now : Sight) (later : List Sight) (vars : List ℕ)
        (h : List Happening) (out : Completion)
        → holds (meaning c now vars) ≡ true → ReadsAll code y (listed a ++ while c a ∷ []) now later vars h out
        → Reads code y (while c a) now later vars h out
    leaves : (y : PtState) (c : Expression ℕ) (a : Body ℕ) (now : Sight) (later : List Sight) (vars : List ℕ)
        → holds (meaning c now vars) ≡ false → Reads code y (while c a) now later vars [] (done now later vars)

  -- the effect of statements, one after another, up to one that isn't finished
  pub data ReadsAll (code : Code) : (yields : PtState) → List (Statement ℕ) → (now : Sight) → (later : List Sight)
      → (variables : List ℕ) → List Happening → Completion → Type 0 where
    nothing_left : (y : PtState) (now : Sight) (later : List Sight) (vars : List ℕ)
        → ReadsAll code y [] now later vars [] (done now later vars)
    in_turn : (y : PtState) (s : Statement ℕ) (ss : List (Statement ℕ)) (now : Sight) (later : List Sight)
        (vars : List ℕ) (h k : List Happening)
        (call : Sight) (calls : List Sight) (changed : List ℕ) (out : Completion)
        → Reads code y s now later vars h (done call calls changed) → ReadsAll code y ss call calls changed k out
        → ReadsAll code y (s ∷ ss) now later vars (h ++ k) out
    breaks_off : (y : PtState) (s : Statement ℕ) (ss : List (Statement ℕ)) (now : Sight) (later : List Sight)
        (vars : List ℕ) (h : List Happening) (out : Completion)
        → (IsDone out → ⊥) → Reads code y s now later vars h out → ReadsAll code y (s ∷ ss) now later vars h out

  -- the effect of a thread with this block; after a `restart`, the whole block is read again
  pub data ReadsThread (code : Code) : (yields : PtState) → List (Statement ℕ) → (now : Sight) → (later : List Sight)
      → (variables : List ℕ) → List Happening → Completion → Type 0 where
    once : (y : PtState) (block : List (Statement ℕ)) (now : Sight) (later : List Sight) (vars : List ℕ)
        (h : List Happening) (out : Completion)
        → (Restarts out → ⊥) → ReadsAll code y block now later vars h out
        → ReadsThread code y block now later vars h out
    block_again : (y : PtState) (block : List (Statement ℕ)) (now : Sight) (later : List Sight) (vars : List ℕ)
        (h k : List Happening)
        (call : Sight) (calls : List Sight) (changed : List ℕ) (out : Completion)
        → ReadsAll code y block now later vars h (restarts call calls changed)
        → ReadsThread code y block call calls changed k out
        → ReadsThread code y block now later vars (h ++ k) out

-- The step of a protothread: from its remainder to its next operation, or to the state that it returns.
use Rattle.std.specs.Prelude.{ℕ, zero, suc, ◌-◌, ◌==◌, nat_lt, Bool, true, false, not, ◌&&◌, if◌then◌else◌, List, []}
use Rattle.std.specs.Prelude.{◌∷◌, ◌++◌, None, Some, slice_set, slice_index, ◌<◌, ◌≤◌}
use Rattle.program_tree.specs.declared.event.Event.{Event}
use Rattle.program_tree.specs.declared.event.Proc.TheVariants.{Own}
use Rattle.program_tree.specs.declared.event.SystemEvent.TheVariants.{Continue}
use Rattle.program_tree.specs.declared.event.Target.TheVariants.{One, All}
use Rattle.program_tree.specs.Tree.{Action, assign, print, send, wait_until, wait_while, yield, yield_until, spawn}
use Rattle.program_tree.specs.Tree.{restart, exit, pause, acquire, signal, post, broadcast, synch, poll, start, kill}
use Rattle.program_tree.specs.Tree.{set, reset, restart_timer, stop, Statement, does, branch, while, listed}
pub use Rattle.program_tree.specs.Tree.{other_block}
use Rattle.program_tree.specs.Code.{Code}
use Rattle.program_tree.specs.Events.{system_number}
use Rattle.program_tree.specs.EventNames.{cast_number, sent_number}
use Rattle.protothread.specs.declared.answer.PtState.{PtState}
use Rattle.protothread.specs.declared.answer.PtState.TheVariants.{Waiting, Yielded, Exited, Ended}
use Rattle.protothread.specs.declared.part.Part.{Part}
use Rattle.protothread.specs.declared.thread.LastAction.{LastAction}
use Rattle.protothread.specs.declared.thread.LastAction.TheVariants.{AtRest, UnderWay, Pausing, RunAway}
use Rattle.protothread.specs.declared.effect.StatementEffect.{StatementEffect}
use Rattle.protothread.specs.declared.effect.StatementEffect.TheVariants.{Passes, Assigns, Operates, Pauses, Waits}
use Rattle.protothread.specs.declared.effect.StatementEffect.TheVariants.{Yields, Spawns}
use Rattle.protothread.specs.declared.effect.StatementEffect.TheVariants.{Restarts, Exits}
use Rattle.protothread.specs.declared.step.Op.{Op}
use Rattle.protothread.specs.declared.step.Op.TheVariants as op
use Rattle.protothread.specs.declared.step.Step.{Step}
use Rattle.protothread.specs.declared.step.Step.TheVariants as step
use Rattle.protothread.specs.Looks.{Looks}
use Rattle.protothread.specs.Value.{value, holds}
use Rattle.protothread.specs.Remainder.{Place, ended, at, within, before, settled, Remainder, thread_block, whole_of}
use Rattle.protothread.specs.Remainder.{fresh_of}

-- a step, and the remainder, the variables and the units of work that it leaves
pub record Advanced : Type 0 where
  pub step : Step
  pub remainder : Remainder
  pub variables : List ℕ
  pub units : ℕ

-- `Passes` if the test holds, and otherwise the other effect
abbrev pub passes_where : Bool → (other : StatementEffect) → StatementEffect
passes_where test other = if test then Passes else other

-- The effect of a statement without blocks in the process with this number. The thread has just reached the statement,
-- or is resumed at it because it has yielded. In `pt.h`, `wait_until` is PT_WAIT_UNTIL, `wait_while` is PT_WAIT_WHILE,
-- `yield` is PT_YIELD, `yield_until` is PT_YIELD_UNTIL, `spawn` is PT_SPAWN, `restart` is PT_RESTART, and `exit` is
-- PT_EXIT; `pause` is PROCESS_PAUSE of `process.h`, which posts CONTINUE to its own process and then waits for a
-- CONTINUE; `acquire` and `signal` are PT_SEM_WAIT and PT_SEM_SIGNAL of `pt-sem.h`.
abbrev pub effect_of : (process : ℕ) → (is_yielded : Bool) → (variables : List ℕ) → Event → Looks → Action ℕ
    → StatementEffect
effect_of process yielded vars event looks (assign i e) = Assigns i (value vars event looks e)
effect_of process yielded vars event looks (print e) = Operates (op.Print (value vars event looks e)) None
effect_of process yielded vars event looks (send e) = Operates (op.Send (value vars event looks e)) None
effect_of process yielded vars event looks (wait_until c) = passes_where (holds (value vars event looks c)) Waits
effect_of process yielded vars event looks (wait_while c) = passes_where (not (holds (value vars event looks c))) Waits
effect_of process yielded vars event looks yield = passes_where yielded Yields
effect_of process yielded vars event looks (yield_until c) =
    passes_where (yielded && holds (value vars event looks c)) Yields
effect_of process yielded vars event looks (spawn t) = Spawns t
effect_of process yielded vars event looks restart = Restarts
effect_of process yielded vars event looks exit = Exits
effect_of process yielded vars event looks pause =
    if yielded then passes_where (event.number == system_number Continue) Yields else Pauses
    (op.Post (One (Own process)) (system_number Continue) 0)
effect_of process yielded vars event looks (acquire s) =
    if slice_index looks.counts s == 0 then Waits else Operates (op.Take s) None
effect_of process yielded vars event looks (signal s) = Operates (op.Signal s) None
effect_of process yielded vars event looks (post p e w into) =
    Operates (op.Post (One (Own p)) (sent_number e) (value vars event looks w)) into
effect_of process yielded vars event looks (broadcast e w into) =
    Operates (op.Post All (cast_number e) (value vars event looks w)) into
effect_of process yielded vars event looks (synch p e w) =
    Operates (op.Synch (Own p) (sent_number e) (value vars event looks w)) None
effect_of process yielded vars event looks (poll p) = Operates (op.Poll (Own p)) None
effect_of process yielded vars event looks (start p) = Operates (op.Start (Own p)) None
effect_of process yielded vars event looks (kill p) = Operates (op.Kill (Own p)) None
effect_of process yielded vars event looks (set t e) = Operates (op.Set t (value vars event looks e)) None
effect_of process yielded vars event looks (reset t) = Operates (op.Reset t) None
effect_of process yielded vars event looks (restart_timer t) = Operates (op.RestartTimer t) None
effect_of process yielded vars event looks (stop t) = Operates (op.Stop t) None

-- the effect of one statement on a thread: the thread continues with these variables from a place, stops with an
-- operation and this last action, or gives up control
pub data Reached : Type 0 where
  goes_on : (variables : List ℕ) → Place → Reached
  operates : Op → LastAction → Place → Reached
  answers : PtState → Place → Reached

-- the effect of an action on the thread whose block is `whole`, at the statement `s`; the rest is after this statement
abbrev pub performed : Code → (whole : List (Statement ℕ)) → (variables : List ℕ) → (s : Statement ℕ)
    → (rest : List (Statement ℕ)) → StatementEffect → Reached
performed code whole vars s rest Passes = goes_on vars (before false rest)
performed code whole vars s rest (Assigns i v) = goes_on (slice_set vars i v) (before false rest)
performed code whole vars s rest (Operates o into) = operates o (UnderWay into) (before false rest)
performed code whole vars s rest (Pauses o) = operates o Pausing (at true s rest)
performed code whole vars s rest Waits = answers Waiting (at false s rest)
performed code whole vars s rest Yields = answers Yielded (at true s rest)
-- the spawned thread is fresh, and is called at once
performed code whole vars s rest (Spawns t) = goes_on vars (within t (before false (thread_block code t)) rest)
performed code whole vars s rest Restarts = answers Waiting (before false whole)
performed code whole vars s rest Exits = answers Exited (before false whole)

-- the effect of the statement `s` on the thread whose block is `whole`; the rest is after this statement
abbrev pub statement_reached : Code → (whole : List (Statement ℕ)) → (is_yielded : Bool) → (variables : List ℕ)
    → Event → Looks → (s : Statement ℕ) → (rest : List (Statement ℕ)) → Reached
statement_reached code whole yielded vars event looks (does a) rest =
    performed code whole vars (does a) rest (effect_of code.number yielded vars event looks a)
statement_reached code whole yielded vars event looks (branch c a o) rest =
    goes_on vars (before false ((if holds (value vars event looks c) then listed a else other_block o) ++ rest))
statement_reached code whole yielded vars event looks (while c a) rest =
    goes_on vars (before false (if holds (value vars event looks c) then listed a ++ while c a ∷ rest else rest))

-- The effect of the spawned thread on its spawner (PT_WAIT_THREAD in PT_SPAWN): while the thread answers PT_WAITING or
-- PT_YIELDED, the spawner answers PT_WAITING; after PT_EXITED or PT_ENDED the spawner continues after the spawn.
abbrev pub spawner_reached : (thread : ℕ) → (rest : List (Statement ℕ)) → (variables : List ℕ) → Reached → Reached
spawner_reached thread rest vars (goes_on changed p) = goes_on changed (within thread p rest)
spawner_reached thread rest vars (operates o last_action p) = operates o last_action (within thread p rest)
spawner_reached thread rest vars (answers Waiting p) = answers Waiting (within thread p rest)
spawner_reached thread rest vars (answers Yielded p) = answers Waiting (within thread p rest)
spawner_reached thread rest vars (answers Exited p) = goes_on vars (before false rest)
spawner_reached thread rest vars (answers Ended p) = goes_on vars (before false rest)

-- the effect of the statement at the thread's position; the block of the thread is `whole`
abbrev pub reached : Code → (whole : List (Statement ℕ)) → (variables : List ℕ) → Event → Looks → Place → Reached
reached code whole vars event looks ended = answers Ended ended
reached code whole vars event looks (at yielded s rest) = statement_reached code whole yielded vars event looks s rest
reached code whole vars event looks (within t p rest) =
    spawner_reached t rest vars (reached code (thread_block code t) vars event looks p)

-- The step of a thread that continues from this place. Each statement that the thread reaches costs a unit. The end of
-- a block or of a spawned thread costs none.
abbrev pub continued : Code → Part → Event → Looks → Place → (variables : List ℕ) → (units : ℕ) → Advanced
continued code part event looks place vars zero =
    elim (settled place) [
      | ended ↦ record { step = step.Done Ended; remainder = fresh_of code part; variables = vars; units = 0 }
      | p ↦ record {
        step = step.Runaway;
        remainder = record { part = part; last_action = RunAway; place = p };
        variables = vars;
        units = 0;
      }
    ]
continued code part event looks place vars (suc units) =
    elim (settled place) [
      | ended ↦ record { step = step.Done Ended; remainder = fresh_of code part; variables = vars; units = suc units }
      | p ↦ elim (reached code (whole_of code part) vars event looks p) [
        | goes_on changed q ↦ continued code part event looks q changed units
        | operates o last_action q ↦ record {
          step = step.Op o;
          remainder = record { part = part; last_action = last_action; place = q };
          variables = vars;
          units = units;
        }
        | answers a q ↦ record {
          step = step.Done a;
          remainder = record { part = part; last_action = AtRest; place = q };
          variables = vars;
          units = units;
        }
      ]
    ]

-- the number of spawns that a call passes on its way to the thread's position
abbrev pub passed : Place → ℕ
passed (within t p rest) = suc (passed p)
passed p = 0

-- the answer of a thread that yields at this place; a spawner answers WAITING
abbrev pub yield_answer : Place → PtState
yield_answer (within t p rest) = Waiting
yield_answer p = Yielded

-- A step of a thread with this remainder. A call of a thread at rest pays a unit for each spawn that it passes. After
-- the post of a `pause`, the thread gives up control. A thread that has run away runs away again.
unfoldable pub advanced_of : Code → Event → Looks → Remainder → (variables : List ℕ) → (units : ℕ) → Advanced
advanced_of code event looks r vars units =
    elim r.last_action [
      | AtRest ↦
          if nat_lt units (passed r.place) then record {
            step = step.Runaway;
            remainder = record r { last_action = RunAway };
            variables = vars;
            units = 0;
          }
          else continued code r.part event looks r.place vars (units - passed r.place)
      | UnderWay into ↦ continued code r.part event looks r.place vars units
      | Pausing ↦ record {
        step = step.Done (yield_answer r.place);
        remainder = record r { last_action = AtRest };
        variables = vars;
        units = units;
      }
      | RunAway ↦ record { step = step.Runaway; remainder = r; variables = vars; units = units }
    ]

-- the remainder and the variables of a thread that has got the answer to a post
pub record Answered : Type 0 where
  pub remainder : Remainder
  pub variables : List ℕ

-- only the first answer counts: a variable named after `into` doesn't get a later one
abbrev pub action_answered : LastAction → LastAction
action_answered (UnderWay into) = UnderWay None
action_answered m = m

-- the variable that waits for an answer, if there is one, gets it
abbrev pub variables_answered : LastAction → (variables : List ℕ) → (answer : ℕ) → List ℕ
variables_answered (UnderWay (Some i)) vars answer = slice_set vars i answer
variables_answered m vars answer = vars

-- the thread gets this answer
abbrev pub answered_of : Remainder → (variables : List ℕ) → (answer : ℕ) → Answered
answered_of r vars answer =
    record {
      remainder = record r { last_action = action_answered r.last_action };
      variables = variables_answered r.last_action vars answer;
    }

-- an operation costs at least one unit of work, and no step adds units
abbrev pub PaysFor : Step → (before after : ℕ) → Type 0
PaysFor (step.Op o) before after = after < before
PaysFor (step.Done a) before after = after ≤ before
PaysFor step.Runaway before after = after ≤ before

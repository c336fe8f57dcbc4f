-- The effect of one statement of a thread's code on the thread.
use Rattle.std.specs.Prelude.{ℕ, ◌≡◌, ◌≤◌, List, [], ◌∷◌, Option, None, Some}
use Rattle.program_tree.specs.declared.event.Event.{Event}
use Rattle.program_tree.specs.declared.instruction.Instruction.{Instruction}
use Rattle.program_tree.specs.Code.{Code}
use Rattle.program_tree.specs.Flat.{IsFlat}
use Rattle.program_tree.specs.Tree.{Statement, does, spawn, listed}
use Rattle.protothread.specs.declared.answer.PtState.{PtState}
use Rattle.protothread.specs.declared.thread.Thread.{Thread}
use Rattle.protothread.specs.declared.thread.LastAction.TheVariants.{AtRest}
use Rattle.protothread.specs.declared.thread.Reach.{Reach}
use Rattle.protothread.specs.declared.thread.Reach.TheVariants.{GoesOn, Operates, Answers}
use Rattle.protothread.specs.declared.step.Op.{Op}
use Rattle.protothread.specs.declared.step.Step.{Step}
use Rattle.protothread.specs.declared.effect.StatementEffect.{StatementEffect}
use Rattle.protothread.specs.declared.effect.StatementEffect.TheVariants.{Spawns}
use Rattle.protothread.specs.declared.calls.Call.{Call}
use Rattle.protothread.specs.Looks.{Looks}
use Rattle.protothread.specs.Calls.{CanSpawn, SpawnsSo}
use Rattle.protothread.specs.Remainder.{at, thread_block, whole_of}
use Rattle.protothread.specs.Step.{Reached, goes_on, operates, answers, spawner_reached, performed, reached}
use Rattle.protothread.specs.Step.{advanced_of, continued, PaysFor}
use Rattle.protothread.specs.Places.{Caller, nested, body_of_thread, callers_of, thread_place, remainder_of}

-- the block of the innermost thread
abbrev pub home_of : Code → (whole : List (Statement ℕ)) → List Caller → List (Statement ℕ)
home_of code whole [] = whole
home_of code whole (c ∷ cs) = home_of code (thread_block code c.thread) cs

-- the effect of the innermost thread on the outermost
abbrev pub made_of : List Caller → (variables : List ℕ) → Reached → Reached
made_of [] vars r = r
made_of (c ∷ cs) vars r = spawner_reached c.thread c.rest vars (made_of cs vars r)

-- the effect of an action on the thread, at the statement `s`; the rest is after this statement
abbrev pub performed_at : Code → Thread → (variables : List ℕ) → (s : Statement ℕ) → (rest : List (Statement ℕ))
    → StatementEffect → Reached
performed_at code t vars s rest d =
    made_of (callers_of code t) vars (performed code (listed (body_of_thread code t)) vars s rest d)

-- the effect of the statement `s` on the thread; the rest is after this statement
abbrev pub reached_at : Code → Thread → (variables : List ℕ) → Event → Looks → (s : Statement ℕ)
    → (rest : List (Statement ℕ)) → Reached
reached_at code t vars event looks s rest =
    reached code (whole_of code t.part) vars event looks (nested (callers_of code t) (at t.is_yielded s rest))

-- if the effect spawns a thread, it is the thread that the statement names
abbrev pub IsDoneBy : Statement ℕ → StatementEffect → Type 0
IsDoneBy s (Spawns t) = s ≡ does (spawn t)
IsDoneBy s d = Unit {0}

-- an action spawns only threads that the innermost thread can spawn
abbrev pub EffectCanSpawn : List Call → StatementEffect → Type 0
EffectCanSpawn cs (Spawns t) = CanSpawn cs t
EffectCanSpawn cs d = Unit {0}

-- this flat code is that of the thread's innermost thread, which spawns only threads that it can spawn
pub record IsFoundIn (code : Code) (t : Thread) (flat : List Instruction) : Type 0 where
  pub flat_of : IsFlat (body_of_thread code t) flat
  pub earlier : SpawnsSo t.calls (body_of_thread code t)

-- a thread that executed a statement continues from its new position
pub record GoesOnAt (code : Code) (flat : List Instruction) (made : Reached) (old new : Thread)
    (after : List ℕ) : Type 0 where
  pub part : new.part ≡ old.part
  pub inside : IsFoundIn code new flat
  pub made_so : made ≡ goes_on after (thread_place code new)

-- the thread stops with an operation
pub record OperatesSo (code : Code) (made : Reached) (o : Op) (old new : Thread) (vars after : List ℕ) : Type 0 where
  pub part : new.part ≡ old.part
  pub variables : after ≡ vars
  pub made_so : made ≡ operates o new.last_action (thread_place code new)

-- the thread gives up control
pub record AnswersSo (code : Code) (made : Reached) (answer : PtState) (old new : Thread)
    (vars after : List ℕ) : Type 0 where
  pub part : new.part ≡ old.part
  pub last_action : new.last_action ≡ AtRest
  pub variables : after ≡ vars
  pub made_so : made ≡ answers answer (thread_place code new)

-- the outcome of the statement at the thread's position
abbrev pub Reaches : Code → (made : Reached) → Reach → (old new : Thread) → (vars after : List ℕ) → Type 0
Reaches code made (GoesOn flat) old new vars after = GoesOnAt code flat.now made old new after
Reaches code made (Operates o) old new vars after = OperatesSo code made o old new vars after
Reaches code made (Answers a) old new vars after = AnswersSo code made a old new vars after

-- a call that returns to the thread's position, and has paid for the spawns that it passed
pub record GoesOnFrom (old new : Thread) (units left : ℕ) : Type 0 where
  pub same : new ≡ old
  pub none_made : left ≤ units
  pub goes_on_so : (code : Code) (event : Event) (looks : Looks) (vars : List ℕ)
      → advanced_of code event looks (remainder_of code old) vars units
      ≡ continued code old.part event looks (thread_place code old) vars left

-- a call that stops before it reaches the thread's position
pub record StopsAtOnce (answer : Step) (old new : Thread) (units left : ℕ) : Type 0 where
  pub pays : PaysFor answer units left
  pub stops_so : (code : Code) (event : Event) (looks : Looks) (vars : List ℕ)
      → advanced_of code event looks (remainder_of code old) vars units ≡ record {
        step = answer;
        remainder = remainder_of code new;
        variables = vars;
        units = left;
      }

-- the return of a call to the thread's position: it succeeds, or the call stops with this answer
abbrev pub Resumes : Option Step → (old new : Thread) → (units left : ℕ) → Type 0
Resumes None old new units left = GoesOnFrom old new units left
Resumes (Some answer) old new units left = StopsAtOnce answer old new units left

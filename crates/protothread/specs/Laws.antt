-- Laws of the step of a protothread.
use Rattle.std.specs.Prelude.{ℕ, ◌≡◌, ◌≢◌, ◌+◌, List, [], ◌<◌, Bool, true, false, IsTrue, ◌⊎◌}
use Rattle.program_tree.specs.declared.event.Event.{Event}
use Rattle.program_tree.specs.Code.{Code}
use Rattle.program_tree.specs.Tree.{Statement, does, wait_until, wait_while, yield, yield_until, pause, acquire}
use Rattle.protothread.specs.declared.step.Step.TheVariants.{Runaway, Done}
use Rattle.protothread.specs.declared.answer.PtState.{PtState}
use Rattle.protothread.specs.declared.thread.LastAction.TheVariants.{AtRest, Pausing}
use Rattle.protothread.specs.State.{state_number}
use Rattle.protothread.specs.Looks.{Looks}
use Rattle.protothread.specs.Remainder.{Place, ended, at, within, before, Remainder, thread_block, whole_of}
use Rattle.protothread.specs.Step.{Advanced, advanced_of, PaysFor}

-- if a step doesn't run away, extra units don't change it, and are left after it
abbrev pub MoreUnitsChangeNothing : Type 0
MoreUnitsChangeNothing =
    (code : Code) (event : Event) (looks : Looks) (r : Remainder) (variables : List ℕ) (units more : ℕ)
    → let a : Advanced = advanced_of code event looks r variables units in
    a.step ≢ Runaway → advanced_of code event looks r variables (units + more) ≡ record a { units = a.units + more }

-- a step that ran away leaves a remainder from which every step runs away and changes nothing
abbrev pub RunAwayIsForGood : Type 0
RunAwayIsForGood =
    (code : Code) (event : Event) (looks : Looks) (r : Remainder) (variables : List ℕ) (units : ℕ)
    → let a : Advanced = advanced_of code event looks r variables units in
    a.step ≡ Runaway
    → (next : Event) (seen : Looks) (changed : List ℕ) (more : ℕ)
    → advanced_of code next seen a.remainder changed more ≡ record {
      step = Runaway;
      remainder = a.remainder;
      variables = changed;
      units = more;
    }

-- an operation costs at least one unit, and no step adds units
abbrev pub OperationsCostWork : Type 0
OperationsCostWork =
    (code : Code) (event : Event) (looks : Looks) (r : Remainder) (variables : List ℕ) (units : ℕ)
    → let a : Advanced = advanced_of code event looks r variables units in
    PaysFor a.step units a.units

-- the statements that wait
abbrev pub is_wait : Statement ℕ → Bool
is_wait (does (wait_until c)) = true
is_wait (does (wait_while c)) = true
is_wait (does yield) = true
is_wait (does (yield_until c)) = true
is_wait (does pause) = true
is_wait (does (acquire s)) = true
is_wait s = false

-- A place in a thread whose block is `whole`: the thread, or the innermost thread that it spawned, is at a waiting
-- statement or has restarted.
abbrev pub IsHeld : Code → (whole : List (Statement ℕ)) → Place → Type 0
IsHeld code whole ended = whole ≡ []
IsHeld code whole (at yielded s rest) = IsTrue (is_wait s) ⊎ (before false whole ≡ at yielded s rest)
IsHeld code whole (within t p rest) = IsHeld code (thread_block code t) p

-- after the post of a `pause`, a thread is held at its place
abbrev pub IsSound : Code → Remainder → Type 0
IsSound code r = r.last_action ≡ Pausing → IsHeld code (whole_of code r.part) r.place

-- A step that gives up control leaves the thread at rest and held at its place. The next call continues from there. Any
-- step leaves the thread sound.
pub record GivesUpAtAWait (code : Code) (a : Advanced) : Type 0 where
  pub gives_up : (answer : PtState) → a.step ≡ Done answer → state_number answer < 2
      → (a.remainder.last_action ≡ AtRest) × IsHeld code (whole_of code a.remainder.part) a.remainder.place
  pub stays_sound : IsSound code a.remainder

-- a sound thread, such as a fresh one, gives up control only at waits, and stays sound
abbrev pub ControlIsGivenUpAtWaits : Type 0
ControlIsGivenUpAtWaits =
    (code : Code) (event : Event) (looks : Looks) (r : Remainder) (variables : List ℕ) (units : ℕ)
    → IsSound code r → GivesUpAtAWait code (advanced_of code event looks r variables units)

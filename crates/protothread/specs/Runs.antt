-- Runs of a thread. The thread is advanced once for each sight, with enough units of work, until it answers 2 or 3 or
-- no sight is left.
use Rattle.std.specs.Prelude.{ℕ, ◌≡◌, ◌<◌, ◌↔◌, List, [], ◌∷◌}
use Rattle.program_tree.specs.Code.{Code}
use Rattle.protothread.specs.declared.answer.PtState.{PtState}
use Rattle.protothread.specs.declared.answer.PtState.TheVariants.{Yielded, Exited, Ended}
use Rattle.protothread.specs.declared.part.Part.{Part}
use Rattle.protothread.specs.declared.step.Op.{Op}
use Rattle.protothread.specs.declared.step.Step.{Step}
use Rattle.protothread.specs.declared.step.Step.TheVariants as step
use Rattle.protothread.specs.State.{state_number}
use Rattle.protothread.specs.Remainder.{Remainder, whole_of, fresh_of}
use Rattle.protothread.specs.Step.{advanced_of, answered_of}
use Rattle.protothread.specs.Reading.{Sight, Happening, operates, gives_up, Completion, done, exits, in_state}
use Rattle.protothread.specs.Reading.{ReadsThread}

-- with some number of units of work, the thread answers this step and leaves this remainder and these variables
abbrev pub Steps : Code → Sight → Remainder → (variables : List ℕ) → Step → (next : Remainder) → (changed : List ℕ)
    → Type 0
Steps code now r vars answer next changed =
    (units : ℕ) × (left : ℕ) × (advanced_of code now.event now.looks r vars units ≡ record {
      step = answer;
      remainder = next;
      variables = changed;
      units = left;
    })

-- a thread with this remainder and these variables has this run
pub data Runs (code : Code) : Remainder → (variables : List ℕ) → (now : Sight) → (later : List Sight) → List Happening
    → Completion → Type 0 where
  -- An operation. The thread gets the answer before it is advanced again, and keeps it only in a variable after
  -- `into`.
  operated : (r next : Remainder) (vars changed : List ℕ) (now resumed : Sight) (later : List Sight) (o : Op)
      (h : List Happening) (out : Completion)
      → Steps code now r vars (step.Op o) next changed
      → Runs code (answered_of next changed resumed.answer).remainder
      (answered_of next changed resumed.answer).variables resumed later h out
      → Runs code r vars now (resumed ∷ later) (operates o ∷ h) out
  operated_last : (r next : Remainder) (vars changed : List ℕ) (now : Sight) (o : Op)
      → Steps code now r vars (step.Op o) next changed
      → Runs code r vars now [] (operates o ∷ []) (in_state changed)
  -- an answer 0 or 1
  gave_up : (r next : Remainder) (vars changed : List ℕ) (now resumed : Sight) (later : List Sight) (answer : PtState)
      (h : List Happening) (out : Completion)
      → Steps code now r vars (step.Done answer) next changed → state_number answer < 2
      → Runs code next changed resumed later h out
      → Runs code r vars now (resumed ∷ later) (gives_up answer ∷ h) out
  gave_up_last : (r next : Remainder) (vars changed : List ℕ) (now : Sight) (answer : PtState)
      → Steps code now r vars (step.Done answer) next changed → state_number answer < 2
      → Runs code r vars now [] (gives_up answer ∷ []) (in_state changed)
  -- an answer 2 or 3
  has_exited : (r next : Remainder) (vars changed : List ℕ) (now : Sight) (later : List Sight)
      → Steps code now r vars (step.Done Exited) next changed → Runs code r vars now later [] (exits now later changed)
  has_ended : (r next : Remainder) (vars changed : List ℕ) (now : Sight) (later : List Sight)
      → Steps code now r vars (step.Done Ended) next changed → Runs code r vars now later [] (done now later changed)

-- the runs of a fresh thread are the runs of the text of its part
abbrev pub RunsAreTheText : Type 0
RunsAreTheText =
    (code : Code) (part : Part) (vars : List ℕ) (now : Sight) (later : List Sight) (h : List Happening)
    (out : Completion)
    → Runs code (fresh_of code part) vars now later h out
    ↔ ReadsThread code Yielded (whole_of code part) now later vars h out

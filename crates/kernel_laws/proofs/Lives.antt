-- The life so far of a process, and its continuations.
use Rattle.std.proofs.Common.{ℕ, ◌≡◌, ◌<◌, List, [], ◌∷◌, ◌++◌, refl, sym, ap, subst, append_assoc, append-nil}
use Rattle.program_tree.specs.declared.event.Proc.TheVariants.{Own}
use Rattle.program_tree.specs.Code.{Code}
use Rattle.protothread.specs.declared.part.Part.TheVariants.{Body}
use Rattle.protothread.specs.declared.answer.PtState.{PtState}
use Rattle.protothread.specs.declared.answer.PtState.TheVariants.{Exited, Ended}
use Rattle.protothread.specs.declared.step.Op.{Op}
use Rattle.protothread.specs.declared.step.Step.TheVariants as step
use Rattle.protothread.specs.State.{state_number}
use Rattle.protothread.specs.Remainder.{Remainder, fresh_of}
use Rattle.protothread.specs.Step.{answered_of}
use Rattle.protothread.specs.Reading.{Sight, Happening, operates, gives_up, Completion, done, exits, in_state}
use Rattle.protothread.specs.Runs.{Steps, Runs, operated, operated_last, gave_up, gave_up_last, has_exited, has_ended}
use Rattle.protothread.proofs.Splits.{reads_the_text}
use Rattle.trace_lines.specs.declared.line.Line.{Line}
use Rattle.trace_lines.specs.declared.line.What.TheVariants as what
use Rattle.kernel_laws.specs.Printed.{printed, prints}
use Rattle.kernel_laws.specs.Telling.{Next, AtStart, InCall, AtCall, CanCome, IsAnswered}
use Rattle.kernel_laws.specs.Telling as telling

module _ (p : ℕ) (code : Code) (mote : ℕ) (start : List ℕ) where
  abbrev HasLife : List Line → Completion → Type 0
  HasLife lines out = telling.HasLife p code mote start lines out

  abbrev ComesTo : List Line → Next → Remainder → List ℕ → Type 0
  ComesTo lines next r vars = telling.ComesTo p code mote start lines next r vars

  pub at_first : (moment : ℕ) → ComesTo (record { at = moment; what = what.Start (Own p) } ∷ []) (AtStart moment) (fresh_of code Body) start
  at_first moment = record {
    on = λ now later more out can answered shown runs. record {
      life = record { now = now; later = later; did = more; became = out; init = can.0; shown = shown; reads = reads_the_text code Body start now later more out runs };
      became_so = refl;
      has_lines = ap (λ m. record { at = m; what = what.Start (Own p) } ∷ prints (Own p) (now ∷ later) more) can.1;
    };
  }

  then_more : (lines more : List Line) (now : Sight) (h : Happening) (out : Completion) → HasLife (lines ++ (printed (Own p) now h ++ more)) out → HasLife ((lines ++ printed (Own p) now h) ++ more) out
  then_more lines more now h out life = subst (λ l. HasLife l out) (sym (append_assoc lines (printed (Own p) now h) more)) life

  -- with a sight that can come next
  module _ (lines : List Line) (next : Next) (r after : Remainder) (vars changed : List ℕ) (now : Sight) (can : CanCome next now.event now.looks.moment) (answered : IsAnswered next now.answer) (of_mote : now.looks.mote ≡ mote) (c : ComesTo lines next r vars) where
    -- the thread performs an operation, whose result the process gets next
    pub operates_on : (lines_so_far : ℕ) (o : Op) → lines_so_far < 2 → Steps code now r vars (step.Op o) after changed
        → ComesTo (lines ++ printed (Own p) now (operates o)) (InCall lines_so_far now.event now.looks.moment) (answered_of after changed lines_so_far).remainder (answered_of after changed lines_so_far).variables
    operates_on lines_so_far o small steps = record {
      on = λ resumed later more out same answer shown runs.
          then_more lines (prints (Own p) (resumed ∷ later) more) now (operates o) out
          (c.on now (resumed ∷ later) (operates o ∷ more) out can answered (of_mote, record { event = same.0; moment = same.1; answer = subst (λ n. n < 2) (sym answer) small }, shown)
          (operated r after vars changed now resumed later o more out steps
          (subst (λ n. Runs code (answered_of after changed n).remainder (answered_of after changed n).variables resumed later more out) (sym answer) runs)));
    }

    pub performs_there : (o : Op) → Steps code now r vars (step.Op o) after changed → HasLife (lines ++ printed (Own p) now (operates o)) (in_state changed)
    performs_there o steps =
        subst (λ l. HasLife (lines ++ l) (in_state changed)) (append-nil (printed (Own p) now (operates o))) (c.on now [] (operates o ∷ []) (in_state changed) can answered of_mote (operated_last r after vars changed now o steps))

    -- the thread waits or yields: the answer is 0 or 1
    pub gives_up_on : (a : PtState) → Steps code now r vars (step.Done a) after changed → state_number a < 2 → ComesTo lines AtCall after changed
    gives_up_on a steps small = record {
      on = λ resumed later more out coming answer shown runs.
          c.on now (resumed ∷ later) (gives_up a ∷ more) out can answered (of_mote, tt, shown) (gave_up r after vars changed now resumed later a more out steps small runs);
    }

    pub in_state_there : (a : PtState) → Steps code now r vars (step.Done a) after changed → state_number a < 2 → HasLife lines (in_state changed)
    in_state_there a steps small =
        subst (λ l. HasLife l (in_state changed)) (append-nil lines) (c.on now [] (gives_up a ∷ []) (in_state changed) can answered of_mote (gave_up_last r after vars changed now a steps small))

    -- the thread exits or ends: the answer is 2 or 3
    pub exits_there : Steps code now r vars (step.Done Exited) after changed → HasLife lines (exits now [] changed)
    exits_there steps =
        subst (λ l. HasLife l (exits now [] changed)) (append-nil lines) (c.on now [] [] (exits now [] changed) can answered of_mote (has_exited r after vars changed now [] steps))

    pub ends_there : Steps code now r vars (step.Done Ended) after changed → HasLife lines (done now [] changed)
    ends_there steps =
        subst (λ l. HasLife l (done now [] changed)) (append-nil lines) (c.on now [] [] (done now [] changed) can answered of_mote (has_ended r after vars changed now [] steps))

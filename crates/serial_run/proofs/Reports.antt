-- The result of the engine at the end is the report.
use Rattle.std.proofs.Common.{◌≡◌, ℕ, zero, suc, ◌<◌, ◌≤◌, List, [], ◌∷◌, ◌++◌, length, map, get_or, take, sym, ap, ◌∙◌, subst, refl, arith}
use Rattle.std.specs.Prelude.{All, Vec}
use Rattle.kernel_laws.specs.Going.{IsInOrder}
use Rattle.std.specs.declared.alloc.Global.{Global}
use Rattle.std.proofs.Math.Seq.{take-suc, take-length}
use Rattle.std.proofs.lemmas.List.{map-append}
use Rattle.trace_lines.specs.declared.line.Line.{Line}
use Rattle.mote_net.specs.Net.{NetModel}
use Rattle.mote_net.specs.declared.report.Report.{Report}
use Rattle.mote_net.specs.Report.{trace_lines_in, report_of}
use Rattle.radio_faults.specs.declared.fault.Fault.{Fault}
use Rattle.serial_run.specs.declared.engine.Engine.{Engine}
use Rattle.window_laws.specs.Agenda.{packets, up_to}
use Rattle.serial_run.specs.FaultRun.{packet_with, IsReportWith}
use Rattle.serial_run.specs.NetRun.{report_at}
use Rattle.serial_run.specs.IsInState.{IsWhole}
use Rattle.serial_run.specs.Ended.{HasEnded}
use Rattle.serial_run.specs.Lives.{AreLives, HaveLives}
use Rattle.serial_run.proofs.Handed.{one_life, traces_hand_on}

-- if a list has the values of a function at each place, it is the list of these values
pub family : {X Y : Type 0} (g : X → Y) (f : ℕ → Y) (xs : List X) → ((k : ℕ) → k < length xs → (d : X) → g (get_or xs k d) ≡ f k) → map g xs ≡ map f (up_to (length xs))
family {X} {Y} g f xs h = ap (map g) (sym (take-length xs)) ∙ upto xs h (length xs) (low (length xs))
  where
    low : (n : ℕ) → n ≤ n
    low n = omega arith

    upto : (xs : List X) → ((k : ℕ) → k < length xs → (d : X) → g (get_or xs k d) ≡ f k) → (n : ℕ) → n ≤ length xs → map g (take n xs) ≡ map f (up_to n)
    upto xs h zero le = refl
    upto [] h (suc n) le = absurd (omega arith)
    upto (x ∷ xs) h (suc n) le =
        let a : n < length (x ∷ xs) = omega arith in
        let b : n ≤ length (x ∷ xs) = omega arith in
        ap (map g) (take-suc (x ∷ xs) n x a)
        ∙ (map-append g (take n (x ∷ xs)) (get_or (x ∷ xs) n x ∷ [])
        ∙ (ap (λ l. l ++ g (get_or (x ∷ xs) n x) ∷ []) (upto (x ∷ xs) h n b)
        ∙ (ap (λ y. map f (up_to n) ++ y ∷ []) (h n a x) ∙ sym (map-append f (up_to n) (n ∷ [])))))

pub report_is : (faults : List Fault) (n : NetModel) (engine : Engine) (report : Report) → IsWhole n engine → (at : HasEnded faults n engine)
    → report.traces ≡ engine.traces → report.medium ≡ engine.log → report.left ≡ length (packets at.last.agenda) → IsReportWith faults n (report_of report)
report_is faults n engine report whole at traces log left = record {
  last = at.last;
  run = at.run;
  matches = rw (traces, log, left, all, at.in_state.log) refl;
}
  where
    all : map trace_lines_in engine.traces.items ≡ map at.last.traces (up_to (length n.motes))
    all =
        family trace_lines_in at.last.traces engine.traces.items (λ k h d. at.in_state.traces k (let e = whole.traces in omega arith) d)
        ∙ ap (λ j. map at.last.traces (up_to j)) whole.traces

pub all_live : (faults : List Fault) (n : NetModel) (engine : Engine) → IsWhole n engine → HasEnded faults n engine → HaveLives faults engine.traces.items
all_live faults n engine whole at k d h =
    let there : k < length n.motes = (let e = whole.traces in omega arith) in
    subst (AreLives faults k) (sym (at.in_state.traces k there d)) (traces_hand_on faults n (report_at (packet_with faults n.radio) n at.last) (record { last = at.last; run = at.run; matches = refl }) k there)

pub all_in_order : (traces : List (Vec Line Global)) → HaveLives [] traces → All (λ (v : Vec Line Global). IsInOrder v.items) traces
all_in_order traces lives k d h = one_life k _ (lives k d h)

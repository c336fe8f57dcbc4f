use Rattle.std.proofs.Common.{◌≡◌, ◌∙◌, sym, ap, arith, ℕ, ◌<◌, ◌≤◌, ◌+◌, List, length, get_or, drop, true}
use Rattle.std.specs.List.{enumerate_from}
use Rattle.std.proofs.lemmas.Bool.{ltb-true}
use Rattle.std.proofs.lemmas.List.{drop_all, get_or_default}
use Rattle.std.proofs.lemmas.List.FromFn.{length-enumerate_from}
use Rattle.mote_net.specs.Report.{report_of}
use Rattle.program_tree.specs.declared.event.Proc.TheVariants.{Own}
use Rattle.trace_lines.specs.declared.line.Line.{Line}
use Rattle.trace_lines.specs.declared.line.What.TheVariants.{Start}
use Rattle.claims.specs.Seen.{rises_from, reach}
use Rattle.claims.proofs.ScanLaws.{scan}
use Rattle.claims.proofs.TraceLaws.{scan_step, scan_beyond, extends_by}
use Rattle.claims.proofs.order.Order.known_from.Goals as goal

abbrev no_line : Line
no_line = record { at = 0; what = Start (Own 0) }

pub returns-then-is_passed_by : goal.returns-then-is_passed_by
returns-then-is_passed_by c =
    let lines = c.trace_of-lines.result.now in
    let sorted : rises_from 0 lines ≡ true = ap (rises_from 0) c.trace_of-lines.ensures.value ∙ c.requires c.if-is_sorted.true in
    let far : (d : Line) → reach c.args.self.now.relation c.args.line.now < (get_or lines c.loop-place.place d).at = λ d.
    omega (arith, ap (λ (x : Line). x.at) (get_or_default lines c.loop-place.place d no_line c.loop-place-test.true), ltb-true _ _ (sym c.is_passed_by.ensures.value ∙ c.if-is_passed_by.true)) in
    record {
      extends = extends_by c.args.self.now (report_of c.args.report.now) c.args.line.now c.args.start.from c.args.watch lines c.first_from-first.result c.args.start.event c.loop-place.known c.trace_of-lines.ensures.value c.first_from-first.ensures
          (sym (scan_beyond c.args.self.now c.args.line.now c.args.watch lines c.loop-place.place c.loop-place.known sorted far) ∙ c.loop-place.invariant);
    }

pub loop-place-preserved : goal.loop-place-preserved
loop-place-preserved c =
    let lines = c.trace_of-lines.result.now in
    ap (scan c.args.self.now c.args.line.now c.args.watch (drop (c.loop-place.place + 1) (enumerate_from 0 lines))) c.known_with-known.ensures.value
    ∙ sym (scan_step c.args.self.now c.args.line.now c.args.watch lines c.loop-place.place no_line c.loop-place.known c.loop-place-test.true)
    ∙ c.loop-place.invariant

pub returns : goal.returns
returns c =
    let lines = c.trace_of-lines.result.now in
    let past : length (enumerate_from 0 lines) ≤ c.loop-place.place = omega (arith, length-enumerate_from 0 lines) in
    record {
      extends = extends_by c.args.self.now (report_of c.args.report.now) c.args.line.now c.args.start.from c.args.watch lines c.first_from-first.result c.args.start.event c.loop-place.known c.trace_of-lines.ensures.value c.first_from-first.ensures
          (sym (ap (λ (xs : List (ℕ × Line)). scan c.args.self.now c.args.line.now c.args.watch xs c.loop-place.known) (drop_all c.loop-place.place (enumerate_from 0 lines) past)) ∙ c.loop-place.invariant);
    }

use Rattle.std.proofs.Common.{ap, ◌∙◌, sym, ◌≡◌, ◌≤◌, arith, length, map}
use Rattle.std.proofs.lemmas.List.{take_all, length-map}
use Rattle.std.specs.List.{sum_by}
use Rattle.mote_net.specs.Report.{trace_lines_in, line_model}
use Rattle.claims.proofs.ListLaws.{sum_by-map}
use Rattle.claims.proofs.count.rows.Goals as goal

pub returns : goal.returns
returns c = record {
  value =
      let end : length c.args.report.now.traces.items ≤ c.loop-trace.trace-index = rw (sym c.deref-trace-items.ensures.value) c.loop-trace-test.false in
      let total : c.loop-trace.lines ≡ sum_by (λ t. length t) (map trace_lines_in c.args.report.now.traces.items) =
      c.loop-trace.invariant.sum
      ∙ ap (sum_by (λ t. length (trace_lines_in t))) (take_all c.loop-trace.trace-index c.args.report.now.traces.items end)
      ∙ sym (sum_by-map (λ t. length t) trace_lines_in c.args.report.now.traces.items) in
      omega (arith, length-map c.args.report.now.traces.items trace_lines_in, length-map c.args.report.now.medium.items line_model);
}

use Rattle.std.proofs.Common.{◌≡◌, ◌≤◌, ◌*◌, length, take}
use Rattle.std.specs.List.{sum_by}
use Rattle.mote_net.specs.Report.{trace_lines_in}
use Rattle.claims.proofs.count.rows.Given as goal

abbrev pub invariant-loop-trace : goal.invariant-loop-trace
invariant-loop-trace l = record {
  sum : l.lines ≡ sum_by (λ t. length (trace_lines_in t)) (take l.trace-index l.report.traces.items);
  small : l.lines ≤ l.trace-index * 18446744073709551615;
}

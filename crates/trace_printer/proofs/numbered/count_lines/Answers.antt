use Rattle.std.proofs.Common.{◌≡◌, ◌+◌, length, drop, ap, arith, Vec, Global}
use Rattle.std.specs.List.{sum_by}
use Rattle.std.proofs.Math.ListN.{drop_of_length-le}
use Rattle.trace_lines.specs.declared.line.Line.{Line}
use Rattle.trace_printer.proofs.TraceLines.{lines_counted}
use Rattle.trace_printer.proofs.numbered.count_lines.Goals as goal

pub returns : goal.returns
returns c = record {
  count =
      λ net same.
      let none : sum_by (λ (t : Vec Line Global). length t.items + 1) (drop c.loop-trace.trace-index c.args.traces.now) ≡ 0 =
      ap (sum_by (λ (t : Vec Line Global). length t.items + 1)) (drop_of_length-le c.args.traces.now (omega arith)) in
      omega (arith, none, c.loop-trace.invariant, lines_counted 0 net.motes c.args.traces.now same);
}

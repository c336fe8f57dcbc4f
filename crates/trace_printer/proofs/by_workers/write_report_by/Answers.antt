use Rattle.std.proofs.Common.{length, List, map, ap, sym, ◌∙◌, Vec, Global}
use Rattle.trace_lines.specs.declared.line.Line.{Line}
use Rattle.mote_net.specs.Meaning.{net_of}
use Rattle.mote_net.specs.Report.{trace_lines_in}
use Rattle.trace_printer.specs.TraceLines.{net_lines}
use Rattle.trace_printer.proofs.by_workers.write_report_by.Goals as goal

pub write_by-requires-clause-lines : goal.write_by-requires-clause-lines
write_by-requires-clause-lines g c κs within =
    ap (λ (ts : List (Vec Line Global)). length (net_lines (net_of c.args.net.now) (map trace_lines_in ts))) (sym c.deref.ensures.value)
    ∙ c.in-Some.ensures.lines (net_of c.args.net.now) (c.deref.ensures.len ∙ c.requires.traces)

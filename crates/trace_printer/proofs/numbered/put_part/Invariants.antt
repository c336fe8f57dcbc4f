use Rattle.std.proofs.Common.{◌≡◌, ◌++◌, drop, map}
use Rattle.mote_net.specs.Meaning.{net_of}
use Rattle.mote_net.specs.Report.{trace_lines_in}
use Rattle.trace_printer.specs.TraceLines.{lines_from, net_lines, part_text}
use Rattle.trace_printer.proofs.numbered.put_part.Given as goal

-- the page, followed by the remaining part of the remaining motes' lines, is the final page
abbrev pub invariant-loop-mote : goal.invariant-loop-mote
invariant-loop-mote l = l.page ++ part_text (lines_from l.mote (drop l.mote (net_of l.net).motes) (map trace_lines_in (drop l.mote l.traces))) l.before l.left ≡ l.fn.page ++ part_text (net_lines (net_of l.net) (map trace_lines_in l.traces)) l.skip l.count

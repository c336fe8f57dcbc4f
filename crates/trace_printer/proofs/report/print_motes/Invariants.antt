use Rattle.std.proofs.Common.{◌++◌, drop, map}
use Rattle.mote_net.specs.Meaning.{net_of}
use Rattle.mote_net.specs.Report.{trace_lines_in}
use Rattle.trace_printer.specs.Page.{Written}
use Rattle.trace_printer.specs.ReportText.{motes_text}
use Rattle.trace_printer.proofs.report.print_motes.Given as goal

-- the waiting text of the page and the remaining motes are left to write
abbrev pub invariant-loop-mote : goal.invariant-loop-mote
invariant-loop-mote g l = Written (g.W.Write.contents l.fn.writer) (g.W.Write.contents l.writer) (l.fn.page ++ motes_text 0 (net_of l.net).motes (map trace_lines_in l.traces)) (l.page ++ motes_text l.mote (drop l.mote (net_of l.net).motes) (map trace_lines_in (drop l.mote l.traces)))

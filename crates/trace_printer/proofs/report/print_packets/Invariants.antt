use Rattle.std.proofs.Common.{◌++◌, drop, map}
use Rattle.std.specs.List.{flat_map}
use Rattle.mote_net.specs.Report.{line_model}
use Rattle.trace_printer.specs.Page.{Written}
use Rattle.trace_printer.specs.ReportText.{packet_text}
use Rattle.trace_printer.proofs.report.print_packets.Given as goal

-- the waiting text of the page and the remaining packets are left to write
abbrev pub invariant-loop-line : goal.invariant-loop-line
invariant-loop-line g l = Written (g.W.Write.contents l.fn.writer) (g.W.Write.contents l.writer) (l.fn.page ++ flat_map packet_text (map line_model l.log)) (l.page ++ flat_map packet_text (map line_model (drop l.line-index l.log)))

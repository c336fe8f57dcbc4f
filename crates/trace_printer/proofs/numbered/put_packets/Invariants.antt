use Rattle.std.proofs.Common.{◌≡◌, ◌++◌, drop, map}
use Rattle.std.specs.List.{flat_map}
use Rattle.mote_net.specs.Report.{line_model}
use Rattle.trace_printer.specs.ReportText.{packet_text}
use Rattle.trace_printer.proofs.numbered.put_packets.Given as goal

-- the page, followed by the remaining packets, is the final page
abbrev pub invariant-loop-line : goal.invariant-loop-line
invariant-loop-line l = l.page ++ flat_map packet_text (map line_model (drop l.line-index l.log)) ≡ l.fn.page ++ flat_map packet_text (map line_model l.log)

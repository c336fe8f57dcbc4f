use Rattle.std.proofs.Common.{◌∙◌, ◌++◌, ap, arith}
use Rattle.mote_net.specs.Report.{line_model}
use Rattle.mote_net.specs.declared.report.LogLine.{LogLine}
use Rattle.trace_printer.specs.ReportText.{packet_text}
use Rattle.trace_printer.proofs.Pieces.{mapped_more, mapped_end}
use Rattle.trace_printer.proofs.numbered.put_packets.Goals as goal

pub loop-line-preserved : goal.loop-line-preserved
loop-line-preserved c =
    mapped_more packet_text line_model c.args.log.now c.loop-line.line-index c.line-item.result c.loop-line.page _ _ (omega arith)
    (c.in_ok-put_packet.ensures.appended ∙ ap (λ (l : LogLine). c.loop-line.page ++ packet_text (line_model l)) c.line-item.is) c.loop-line.invariant

pub returns : goal.returns
returns c = record { appended = mapped_end packet_text line_model c.args.log.now c.loop-line.line-index c.loop-line.page _ (omega arith) c.loop-line.invariant }

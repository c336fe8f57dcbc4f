use Rattle.std.proofs.Common.{◌∙◌, ◌++◌, ap, arith}
use Rattle.std.proofs.lemmas.Result.{err_from_is_err_and}
use Rattle.mote_net.specs.Report.{line_model}
use Rattle.mote_net.specs.declared.report.LogLine.{LogLine}
use Rattle.trace_printer.specs.ReportText.{packet_text}
use Rattle.trace_printer.proofs.Pieces.{mapped-drop}
use Rattle.trace_printer.proofs.Written.{put_printed, put_stopped, printed_next, stopped_next}
use Rattle.trace_printer.proofs.report.print_packets.Goals as goal

pub returns-in_err-write_if_full : goal.returns-in_err-write_if_full
returns-in_err-write_if_full g c = record {
  prints =
      let p = err_from_is_err_and c.from_residual-in_err-write_if_full.result c.from_residual-in_err-write_if_full.ensures.1 in
      rw p.1 (stopped_next _ _ _ _ c.loop-line.page _ _ _ c.loop-line.invariant (mapped-drop packet_text line_model c.args.log.now c.loop-line.line-index c.line-item.result (omega arith))
      (put_stopped _ _ c.loop-line.page c.put_packet.new.page _ (c.in_ok-put_packet.ensures.appended ∙ ap (λ (l : LogLine). c.loop-line.page ++ packet_text (line_model l)) c.line-item.is) c.in_err-write_if_full.ensures.prints));
}

pub loop-line-preserved : goal.loop-line-preserved
loop-line-preserved g c =
    printed_next _ _ _ _ c.loop-line.page _ _ _ _ c.loop-line.invariant (mapped-drop packet_text line_model c.args.log.now c.loop-line.line-index c.line-item.result (omega arith))
    (put_printed _ _ c.loop-line.page c.put_packet.new.page _ _ (c.in_ok-put_packet.ensures.appended ∙ ap (λ (l : LogLine). c.loop-line.page ++ packet_text (line_model l)) c.line-item.is) c.in_ok-write_if_full.ensures.prints)

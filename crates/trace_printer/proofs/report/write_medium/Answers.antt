use Rattle.std.proofs.Common.{◌≡◌, ◌++◌, ap, sym, List, map}
use Rattle.std.proofs.lemmas.Result.{err_from_is_err_and}
use Rattle.mote_net.specs.Report.{line_model, report_of}
use Rattle.mote_net.specs.declared.report.LogLine.{LogLine}
use Rattle.mote_net.specs.declared.report.Report.{Report}
use Rattle.trace_printer.specs.ReportText.{medium_text, left_text}
use Rattle.trace_printer.proofs.Written.{written_none, written_then, printed_next, stopped_before}
use Rattle.trace_printer.proofs.report.write_medium.Goals as goal

-- the text of the log, and then the last line
medium_next : (r : Report) (log : List LogLine) → log ≡ r.medium.items → medium_text (report_of r).log ++ left_text r.left ≡ medium_text (map line_model log) ++ left_text r.left
medium_next r log is = ap (λ (l : List LogLine). medium_text (map line_model l) ++ left_text r.left) (sym is)

pub returns-in_err-print_medium : goal.returns-in_err-print_medium
returns-in_err-print_medium g c = record {
  writes =
      let p = err_from_is_err_and c.from_residual.result c.from_residual.ensures.1 in
      rw p.1 (stopped_before _ _ _ _ c.args.page.now (medium_text (map line_model c.deref.result.now)) 108 _ _ (written_none _ _)
      (medium_next c.args.report.now c.deref.result.now c.deref.ensures.value) c.in_err-print_medium.ensures.prints);
}

pub returns : goal.returns
returns g c = record {
  writes =
      written_then _ _ _ c.write_end.result _ _
      (printed_next _ _ _ _ c.args.page.now _ _ _ _ (written_none _ _) (medium_next c.args.report.now c.deref.result.now c.deref.ensures.value) c.in_ok-print_medium.ensures.prints)
      c.write_end.ensures.writes;
}

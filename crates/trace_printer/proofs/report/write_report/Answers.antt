use Rattle.std.proofs.Common.{◌≡◌, ◌++◌, ap, sym, List, map, Vec, Global}
use Rattle.std.proofs.lemmas.Result.{err_from_is_err_and}
use Rattle.trace_lines.specs.declared.line.Line.{Line}
use Rattle.mote_net.specs.Net.{NetModel}
use Rattle.mote_net.specs.Meaning.{net_of}
use Rattle.mote_net.specs.Report.{trace_lines_in, report_of}
use Rattle.mote_net.specs.declared.report.Report.{Report}
use Rattle.trace_printer.specs.ReportText.{motes_text, medium_text, left_text, report_text}
use Rattle.trace_printer.proofs.Written.{written_none, written_start, written_front, written_then, printed_next, stopped_before}
use Rattle.trace_printer.proofs.report.write_report.Goals as goal

-- the parts of a report's text
motes_first : (n : NetModel) (r : Report) (ts : List (Vec Line Global)) → ts ≡ r.traces.items
    → report_text n (report_of r) ≡ motes_text 0 n.motes (map trace_lines_in ts) ++ (medium_text (report_of r).log ++ left_text r.left)
motes_first n r ts is = ap (λ (l : List (Vec Line Global)). motes_text 0 n.motes (map trace_lines_in l) ++ (medium_text (report_of r).log ++ left_text r.left)) (sym is)

pub returns-in_err-page : goal.returns-in_err-page
returns-in_err-page g c = record {
  writes =
      let p = err_from_is_err_and c.from_residual.result c.from_residual.ensures.1 in
      rw p.1 (written_front _ _ _ (motes_text 0 (net_of c.args.net.now).motes (report_of c.args.report.now).traces) 109 _ (written_none _ _));
}

pub returns-in_err-print_motes : goal.returns-in_err-print_motes
returns-in_err-print_motes g c = record {
  writes =
      let p = err_from_is_err_and c.from_residual-in_err-print_motes.result c.from_residual-in_err-print_motes.ensures.1 in
      rw p.1 (stopped_before _ _ _ _ c.in_ok-page.page (motes_text 0 (net_of c.args.net.now).motes (map trace_lines_in c.deref.result.now)) 109 _ _
      (written_start _ c.in_ok-page.page _ c.in_ok-page.ensures.empty) (motes_first (net_of c.args.net.now) c.args.report.now c.deref.result.now c.deref.ensures.value) c.in_err-print_motes.ensures.prints);
}

pub returns : goal.returns
returns g c = record {
  writes =
      written_then _ _ _ c.write_medium.result _ _
      (printed_next _ _ _ _ c.in_ok-page.page _ _ _ _ (written_start _ c.in_ok-page.page _ c.in_ok-page.ensures.empty)
      (motes_first (net_of c.args.net.now) c.args.report.now c.deref.result.now c.deref.ensures.value) c.in_ok-print_motes.ensures.prints)
      c.write_medium.ensures.writes;
}

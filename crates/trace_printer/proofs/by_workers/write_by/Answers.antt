use mir.Syntax.{erased}
use Rattle.std.proofs.Common.{◌≡◌, ◌++◌, [], List, ℕ, ap, sym, subst, ◌∙◌, append_assoc}
use Rattle.std.specs.List.{concat}
use Rattle.std.proofs.lemmas.Result.{err_from_is_err_and}
use Rattle.mote_net.specs.Net.{NetModel}
use Rattle.mote_net.specs.Meaning.{net_of}
use Rattle.mote_net.specs.Report.{report_of}
use Rattle.mote_net.specs.declared.report.Report.{Report}
use Rattle.trace_printer.specs.Writes.{Writes}
use Rattle.trace_printer.specs.ReportText.{left_text, medium_text, motes_text, report_text}
use Rattle.trace_printer.specs.Parts.{texts_of_lines}
use Rattle.trace_printer.proofs.TraceLines.{all_text}
use Rattle.trace_printer.proofs.Written.{printed_next, stopped_before, written_front, written_none, written_then}
use Rattle.trace_printer.proofs.Crossing.{lines_sync}
use Rattle.trace_printer.proofs.by_workers.write_by.Goals as goal

-- a report's text is the text of its lines, and then the last line
lines_first : (n : NetModel) (r : Report) → report_text n (report_of r) ≡ concat (texts_of_lines n r) ++ left_text r.left
lines_first n r =
    sym (append_assoc (motes_text 0 n.motes (report_of r).traces) (medium_text (report_of r).log) (left_text r.left))
    ∙ ap (λ (l : List ℕ). l ++ left_text r.left) (sym (all_text n (report_of r).traces (report_of r).log))

pub returns-in_err-page : goal.returns-in_err-page
returns-in_err-page g c = record {
  writes =
      let p = err_from_is_err_and c.from_residual.result c.from_residual.ensures.1 in
      rw p.1 (written_front _ _ _ (motes_text 0 (net_of c.args.net.now).motes (report_of c.args.report.now).traces) 109 _ (written_none _ _));
}

pub returns-in_err-write_all : goal.returns-in_err-write_all
returns-in_err-write_all g c = record {
  writes =
      let p = err_from_is_err_and c.from_residual-in_err-write_all.result c.from_residual-in_err-write_all.ensures.1 in
      rw p.1 (stopped_before _ _ _ _ [] (concat (texts_of_lines (net_of c.args.net.now) c.args.report.now)) 108 _ _ (written_none _ _)
      (lines_first (net_of c.args.net.now) c.args.report.now) c.in_err-write_all.ensures.prints);
}

pub returns : goal.returns
returns g c = record {
  writes =
      written_then _ _ _ c.write_end.result _ _
      (printed_next _ _ _ _ [] [] _ _ _ (written_none _ _) (lines_first (net_of c.args.net.now) c.args.report.now) c.in_ok-write_all.ensures.prints)
      (subst (λ (l : List ℕ). Writes (g.W.Write.contents c.write_all.new.writer) (g.W.Write.contents c.write_end.new.writer) c.write_end.result (l ++ left_text c.args.report.now.left)) c.in_ok-page.ensures.empty c.write_end.ensures.writes);
}

-- the lifetime is that of the report; its name in a type doesn't matter for sharing
pub write_all-requires-sync-T : goal.write_all-requires-sync-T
write_all-requires-sync-T g c κs within = record { shared = λ x b o. (lines_sync (record { mir = erased; lft = κs.1.1.1.1.0 })).shared x b o }

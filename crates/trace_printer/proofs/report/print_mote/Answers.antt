use Rattle.std.proofs.Common.{◌∷◌, [], codes, decimal, refl}
use Rattle.std.specs.List.{flat_map}
use Rattle.std.proofs.lemmas.Result.{err_from_is_err_and}
use Rattle.program_tree.specs.Program.{tree_of}
use Rattle.trace_printer.specs.ReportText.{line_text}
use Rattle.trace_printer.specs.Words.{line_of}
use Rattle.trace_printer.proofs.Written.{prints_then, stopped_next, written_none}
use Rattle.trace_printer.proofs.report.print_mote.Goals as goal

pub returns-in_err-print_head : goal.returns-in_err-print_head
returns-in_err-print_head g c = record {
  prints =
      let p = err_from_is_err_and c.from_residual.result c.from_residual.ensures.1 in
      let head = line_of (codes "mote") (decimal c.args.mote ∷ c.args.name.now ∷ []) in
      rw p.1 (stopped_next _ _ _ _ c.args.page.now head (flat_map (line_text (tree_of c.args.program.now)) c.args.trace.now) _ (written_none _ _) refl c.in_err-print_head.ensures.prints);
}

pub returns : goal.returns
returns g c = record {
  prints =
      prints_then _ _ _ c.args.page.now _ _ c.print_lines.result (line_of (codes "mote") (decimal c.args.mote ∷ c.args.name.now ∷ [])) (flat_map (line_text (tree_of c.args.program.now)) c.args.trace.now)
      c.in_ok-print_head.ensures.prints c.print_lines.ensures.prints;
}

use Rattle.std.proofs.Common.{arith}
use Rattle.std.proofs.lemmas.Result.{err_from_is_err_and}
use Rattle.program_tree.specs.Program.{tree_of}
use Rattle.program_tree.specs.declared.event.Proc.TheVariants.{Own}
use Rattle.trace_printer.specs.ReportText.{line_text}
use Rattle.trace_lines.specs.declared.line.Line.{Line}
use Rattle.trace_lines.specs.declared.line.What.TheVariants.{Start}
use Rattle.trace_printer.proofs.Pieces.{flat_map-drop}
use Rattle.trace_printer.proofs.Written.{put_printed, put_stopped, printed_next, stopped_next}
use Rattle.trace_printer.proofs.report.print_lines.Goals as goal

-- the default value for a place past the end of a list of lines
abbrev no_line : Line
no_line = record { at = 0; what = Start (Own 0) }

pub returns-in_err-write_if_full : goal.returns-in_err-write_if_full
returns-in_err-write_if_full g c = record {
  prints =
      let p = err_from_is_err_and c.from_residual-in_err-write_if_full.result c.from_residual-in_err-write_if_full.ensures.1 in
      rw p.1 (stopped_next _ _ _ _ c.loop-line.page _ _ _ c.loop-line.invariant (flat_map-drop (line_text (tree_of c.args.program.now)) c.args.trace.now c.loop-line.line-index no_line (omega arith))
      (put_stopped _ _ c.loop-line.page c.put_trace_line.new.page _ c.in_ok-put_trace_line.ensures.appended c.in_err-write_if_full.ensures.prints));
}

pub loop-line-preserved : goal.loop-line-preserved
loop-line-preserved g c =
    printed_next _ _ _ _ c.loop-line.page _ _ _ _ c.loop-line.invariant (flat_map-drop (line_text (tree_of c.args.program.now)) c.args.trace.now c.loop-line.line-index no_line (omega arith))
    (put_printed _ _ c.loop-line.page c.put_trace_line.new.page _ _ c.in_ok-put_trace_line.ensures.appended c.in_ok-write_if_full.ensures.prints)

use Rattle.std.proofs.Common.{◌++◌, drop}
use Rattle.std.specs.List.{flat_map}
use Rattle.program_tree.specs.Program.{tree_of}
use Rattle.trace_printer.specs.Page.{Written}
use Rattle.trace_printer.specs.ReportText.{line_text}
use Rattle.trace_printer.proofs.report.print_lines.Given as goal

-- the waiting text of the page and the remaining lines are left to write
abbrev pub invariant-loop-line : goal.invariant-loop-line
invariant-loop-line g l = Written (g.W.Write.contents l.fn.writer) (g.W.Write.contents l.writer) (l.fn.page ++ flat_map (line_text (tree_of l.program)) l.trace) (l.page ++ flat_map (line_text (tree_of l.program)) (drop l.line-index l.trace))

use Rattle.std.proofs.Common.{◌≡◌, ◌++◌, drop}
use Rattle.std.specs.List.{flat_map}
use Rattle.program_tree.specs.Program.{tree_of}
use Rattle.trace_printer.specs.ReportText.{line_text}
use Rattle.trace_printer.proofs.numbered.put_lines.Given as goal

-- the page, followed by the remaining lines, is the final page
abbrev pub invariant-loop-line : goal.invariant-loop-line
invariant-loop-line l = l.page ++ flat_map (line_text (tree_of l.program)) (drop l.line-index l.lines) ≡ l.fn.page ++ flat_map (line_text (tree_of l.program)) l.lines

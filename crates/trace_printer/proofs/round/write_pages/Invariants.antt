use Rattle.std.proofs.Common.{ℕ, ◌+◌, ◌-◌, ◌*◌, List, length}
use Rattle.trace_printer.specs.Page.{Written}
use Rattle.trace_printer.specs.Parts.{ArePages}
use Rattle.trace_printer.specs.TraceLines.{part_text}
use Rattle.trace_printer.proofs.round.write_pages.Given as goal

-- the remaining pages are left to write
abbrev pub invariant-loop-page : goal.invariant-loop-page
invariant-loop-page g l =
    (lines : List (List ℕ)) (skip size : ℕ) → ArePages lines skip size l.pages
    → Written (g.W.Write.contents l.fn.writer) (g.W.Write.contents l.writer) (part_text lines skip (length l.pages * size))
    (part_text lines (skip + l.page-index * size) ((length l.pages - l.page-index) * size))

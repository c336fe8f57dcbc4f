use Rattle.std.proofs.Common.{◌≡◌, ◌+◌, length, decimal}
use Rattle.trace_printer.proofs.words.digits.Given as goal

-- the digits counted so far, and the digits that are left, of which one is already counted
abbrev pub invariant-loop-left : goal.invariant-loop-left
invariant-loop-left l = l.count + length (decimal l.left) ≡ length (decimal l.number) + 1

abbrev pub decreases-loop-left : goal.decreases-loop-left
decreases-loop-left l = l.left

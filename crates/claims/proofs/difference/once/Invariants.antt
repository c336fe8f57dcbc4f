use Rattle.std.proofs.Common.{◌≡◌, ◌++◌, length}
use Rattle.claims.specs.Differences.{once}
use Rattle.claims.proofs.difference.once.Given as goal

abbrev pub invariant-loop-numbers : goal.invariant-loop-numbers
invariant-loop-numbers l = l.found.items ++ once l.numbers ≡ once l.initial.numbers

abbrev pub decreases-loop-numbers : goal.decreases-loop-numbers
decreases-loop-numbers l = length l.numbers

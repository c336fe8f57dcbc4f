use Rattle.std.proofs.Common.{◌≡◌, ◌++◌, length}
use Rattle.claims.specs.Differences.{beyond}
use Rattle.claims.proofs.difference.beyond.Given as goal

abbrev pub invariant-loop-numbers : goal.invariant-loop-numbers
invariant-loop-numbers l = l.found.items ++ beyond l.numbers l.others ≡ beyond l.initial.numbers l.others

abbrev pub decreases-loop-numbers : goal.decreases-loop-numbers
decreases-loop-numbers l = length l.numbers

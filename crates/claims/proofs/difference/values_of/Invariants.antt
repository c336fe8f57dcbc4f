use Rattle.std.proofs.Common.{◌≡◌, ◌++◌, drop}
use Rattle.claims.specs.Differences.{values_of}
use Rattle.claims.proofs.difference.values_of.Given as goal

abbrev pub invariant-loop-line : goal.invariant-loop-line
invariant-loop-line l = l.values.items ++ values_of (drop l.line-index l.lines) ≡ values_of l.lines

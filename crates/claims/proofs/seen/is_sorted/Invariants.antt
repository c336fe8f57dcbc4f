use Rattle.std.proofs.Common.{◌≡◌, drop}
use Rattle.claims.specs.Seen.{rises_from}
use Rattle.claims.proofs.seen.is_sorted.Given as goal

abbrev pub invariant-loop-line : goal.invariant-loop-line
invariant-loop-line l = rises_from l.last (drop l.line-index l.lines) ≡ rises_from 0 l.lines

use Rattle.std.proofs.Common.{ℕ, ◌<◌, get_or}
use Rattle.std.specs.List.{Contains}
use Rattle.survey.proofs.sets.is_within.Given as goal

abbrev pub invariant-loop-fault : goal.invariant-loop-fault
invariant-loop-fault l = (k : ℕ) → k < l.fault-index → Contains l.whole (get_or l.part k 0)

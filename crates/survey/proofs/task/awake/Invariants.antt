use Rattle.std.proofs.Common.{◌≡◌, take}
use Rattle.survey.specs.Order.{awake}
use Rattle.survey.proofs.task.awake.Given as goal

abbrev pub invariant-loop-key : goal.invariant-loop-key
invariant-loop-key l = l.keys.items ≡ awake l.asleep (take l.key-index l.offered)

use Rattle.std.proofs.Common.{◌≡◌}
use Rattle.copy_exchange.proofs.inboxes.pair_inboxes.Given as goal

abbrev pub invariant-loop-pair : goal.invariant-loop-pair
invariant-loop-pair l = l.pairs.items ≡ l.yielded

use Rattle.std.proofs.Common.{◌≡◌}
use Rattle.part_tests.proofs.tests.inboxes.marked.write_nexts.Given as goal

abbrev pub invariant-loop : goal.invariant-loop
invariant-loop g l = (l.taker.inbox ≡ l.inbox) × (l.taker.state.marked ≡ l.fn.taker.state.marked)
    × (l.taker.state.made ≡ l.fn.taker.state.made) × (l.taker.state.gathered ≡ l.fn.taker.state.gathered)

use Rattle.std.proofs.Common.{◌≡◌}
use Rattle.part_tests.proofs.tests.inboxes.plain.push_each.Given as goal

abbrev pub invariant-loop-sender : goal.invariant-loop-sender
invariant-loop-sender g l = record {
  first : (l.first.inbox ≡ l.inbox) × (l.first.state.number ≡ l.fn.first.state.number);
  second : (l.second.inbox ≡ l.inbox) × (l.second.state.number ≡ l.fn.second.state.number);
}

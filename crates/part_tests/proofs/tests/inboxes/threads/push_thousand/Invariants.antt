use Rattle.std.proofs.Common.{◌≡◌}
use Rattle.part_tests.proofs.tests.inboxes.threads.push_thousand.Given as goal

abbrev pub invariant-loop-number : goal.invariant-loop-number
invariant-loop-number g l = (l.sender.inbox ≡ l.inbox) × (l.sender.state.number ≡ l.fn.sender.state.number)

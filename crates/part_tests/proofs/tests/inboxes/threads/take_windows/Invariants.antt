use Rattle.std.proofs.Common.{◌≡◌}
use Rattle.part_tests.proofs.tests.inboxes.threads.take_windows.Given as goal

abbrev pub invariant-loop : goal.invariant-loop
invariant-loop g l = l.taker.inbox ≡ l.inbox

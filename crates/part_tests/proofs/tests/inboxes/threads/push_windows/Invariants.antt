use Rattle.std.proofs.Common.{◌≡◌, true}
use Rattle.part_tests.proofs.tests.inboxes.threads.push_windows.Given as goal

abbrev pub invariant-loop-window : goal.invariant-loop-window
invariant-loop-window g l = (l.sender.inbox ≡ l.inbox) × (l.sender.state.marked ≡ true)

abbrev pub invariant-loop-number : goal.invariant-loop-number
invariant-loop-number g l = (l.sender.inbox ≡ l.inbox) × (l.sender.state.marked ≡ true)

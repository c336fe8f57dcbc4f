use Rattle.std.proofs.Common.{◌≡◌, true}
use Rattle.part_tests.proofs.tests.inboxes.windows.push_marks.Given as goal

abbrev pub invariant-loop-window : goal.invariant-loop-window
invariant-loop-window g l = (l.sender.inbox ≡ l.inbox) × (l.sender.state.marked ≡ true)

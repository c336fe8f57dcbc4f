use Rattle.std.proofs.Common.{◌≡◌}
use Rattle.copy_exchange.specs.Marks.{AreTakersCounts}
use Rattle.part_tests.proofs.tests.inboxes.team.Team.take.Given as goal

abbrev pub invariant-loop-from : goal.invariant-loop-from
invariant-loop-from g l = (l.worker_2.taker.inbox ≡ l.self.inbox.now)
    × AreTakersCounts l.worker_2.marks.counts.items l.worker_2.taker.state

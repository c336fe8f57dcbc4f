use Rattle.std.proofs.Common.{arith}
use Rattle.std.proofs.lemmas.Grind.{common_steps}
use Rattle.mote_timers.proofs.ListedTimers.{owner_there}
use Rattle.mote_timers.proofs.timers.Timers.next_due.Goals as goal

pub unwrap-owner-requires : goal.unwrap-owner-requires
unwrap-owner-requires c =
    let there = owner_there c.self.inside.timers.items c.self.inside.listed c.in_ok-id.id c.self.invariant (rw c.as_slice.ensures.value at c.in_ok-id.ensures.listed) in
    grind (arith, common_steps, there)

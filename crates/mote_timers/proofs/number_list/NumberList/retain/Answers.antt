use Rattle.mote_timers.proofs.NumberLists.{AreNumbers-filtered}
use Rattle.mote_timers.proofs.number_list.NumberList.retain.Goals as goal

pub invariant_of-self : goal.invariant_of-self
invariant_of-self g c = rw c.retain.ensures.capacity (AreNumbers-filtered _ _ _ _ _ c.retain.ensures.filtered c.self.invariant)

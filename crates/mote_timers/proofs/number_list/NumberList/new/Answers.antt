use Rattle.mote_timers.proofs.NumberLists.{AreNumbers-nil}
use Rattle.mote_timers.proofs.number_list.NumberList.new.Goals as goal

pub invariant_of-result : goal.invariant_of-result
invariant_of-result c = rw c.in_ok-with_capacity.ensures.items (AreNumbers-nil _)

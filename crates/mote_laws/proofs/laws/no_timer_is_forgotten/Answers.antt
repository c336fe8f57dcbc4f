use Rattle.mote_node.proofs.WakeLaws.{wakes_in_time, wakes_later}
use Rattle.mote_laws.proofs.Due.{turns_forget_none, turns_serve_timers}
use Rattle.mote_laws.proofs.Owners.{turns_keep_owners}
use Rattle.mote_laws.proofs.laws.no_timer_is_forgotten.Goals as goal

pub returns-clause-owners : goal.returns-clause-owners
returns-clause-owners c = turns_keep_owners

pub returns-clause-serves : goal.returns-clause-serves
returns-clause-serves c = turns_serve_timers

pub returns-clause-forgets_none : goal.returns-clause-forgets_none
returns-clause-forgets_none c = turns_forget_none

pub returns-clause-wakes_in_time : goal.returns-clause-wakes_in_time
returns-clause-wakes_in_time c = wakes_in_time

pub returns-clause-wakes_later : goal.returns-clause-wakes_later
returns-clause-wakes_later c = wakes_later

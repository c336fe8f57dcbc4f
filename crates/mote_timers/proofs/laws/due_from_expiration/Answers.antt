use Rattle.mote_timers.proofs.TimerLaws as laws
use Rattle.mote_timers.proofs.laws.due_from_expiration.Goals as goal

pub returns-clause-last_set : goal.returns-clause-last_set
returns-clause-last_set c = laws.due_from_expiration

pub returns-clause-set_once : goal.returns-clause-set_once
returns-clause-set_once c = laws.due_from_set

use Rattle.mote_timers.proofs.TimerLaws as laws
use Rattle.mote_timers.proofs.laws.due_from_next_expiration.Goals as goal

pub returns : goal.returns
returns c = record { due_from_next_expiration = laws.due_from_next_expiration }

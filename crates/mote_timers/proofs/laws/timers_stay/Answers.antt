use Rattle.mote_timers.proofs.TimerLaws as laws
use Rattle.mote_timers.proofs.laws.timers_stay.Goals as goal

pub returns : goal.returns
returns c = record { keeps_timers = laws.timers_stay }

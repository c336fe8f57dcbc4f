use Rattle.mote_timers.proofs.TimerLaws as laws
use Rattle.mote_timers.proofs.laws.listed_once.Goals as goal

pub returns : goal.returns
returns c = record { listed_once = laws.listed_once }

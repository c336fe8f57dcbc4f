use Rattle.mote_node.proofs.WakeLaws as laws
use Rattle.mote_node.proofs.laws.wakes_in_time.Goals as goal

pub returns : goal.returns
returns c = record { wakes_in_time = laws.wakes_in_time }

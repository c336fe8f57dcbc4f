use Rattle.mote_node.proofs.WakeLaws as laws
use Rattle.mote_node.proofs.laws.wakes_later.Goals as goal

pub returns : goal.returns
returns c = record { wakes_later = laws.wakes_later }

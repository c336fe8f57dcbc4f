use Rattle.mote_node.proofs.TurnLaws as laws
use Rattle.mote_node.proofs.laws.turns_rise.Goals as goal

pub returns : goal.returns
returns c = record { turns_rise = laws.turns_rise }

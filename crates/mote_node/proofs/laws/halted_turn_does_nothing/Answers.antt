use Rattle.mote_node.proofs.TurnLaws as laws
use Rattle.mote_node.proofs.laws.halted_turn_does_nothing.Goals as goal

pub returns : goal.returns
returns c = record { halted_turn_does_nothing = laws.halted_turn_does_nothing }

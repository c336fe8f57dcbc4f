use Rattle.mote_laws.proofs.Turns.{motes_hand_on}
use Rattle.mote_laws.proofs.laws.motes_hand_on.Goals as goal

pub returns : goal.returns
returns c = record { motes_hand_on = motes_hand_on }

use Rattle.mote_laws.proofs.Turns.{new_goes, turn_keeps}
use Rattle.mote_laws.proofs.laws.each_turn_keeps_order.Goals as goal

pub returns-clause-new : goal.returns-clause-new
returns-clause-new c = new_goes

pub returns-clause-turn : goal.returns-clause-turn
returns-clause-turn c = turn_keeps

use Rattle.mote_laws.proofs.Stamps.{packets_count_up, turns_never_go_back, turns_stamp}
use Rattle.mote_laws.proofs.laws.each_turn_bears_its_moment.Goals as goal

pub returns-clause-turn : goal.returns-clause-turn
returns-clause-turn c = turns_stamp

pub returns-clause-packets : goal.returns-clause-packets
returns-clause-packets c = packets_count_up

pub returns-clause-lines : goal.returns-clause-lines
returns-clause-lines c = turns_never_go_back

use Rattle.mote_laws.proofs.Emptied.{packets_are_accounted_for, turns_empty_ring}
use Rattle.mote_laws.proofs.Heard.{turns_hear, turns_collide}
use Rattle.mote_laws.proofs.Ring.{ring_goes_with_lines}
use Rattle.mote_laws.proofs.laws.each_packet_is_handed_on.Goals as goal

pub returns-clause-heard : goal.returns-clause-heard
returns-clause-heard c = turns_hear

pub returns-clause-collide : goal.returns-clause-collide
returns-clause-collide c = turns_collide

pub returns-clause-ring : goal.returns-clause-ring
returns-clause-ring c = ring_goes_with_lines

pub returns-clause-emptied : goal.returns-clause-emptied
returns-clause-emptied c = turns_empty_ring

pub returns-clause-packets : goal.returns-clause-packets
returns-clause-packets c = packets_are_accounted_for

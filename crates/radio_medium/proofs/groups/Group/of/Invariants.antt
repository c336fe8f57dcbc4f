use Rattle.radio_medium.specs.Groups.{HoldsMotes}
use Rattle.radio_medium.proofs.groups.Group.of.Given as goal

-- the group of the motes so far
abbrev pub invariant-loop-mote : goal.invariant-loop-mote
invariant-loop-mote l = HoldsMotes l.places l.first l.mote l.group

use Rattle.std.proofs.Common.{◌≡◌, ◌++◌, drop}
use Rattle.std.specs.List.{flat_map}
use Rattle.net_survey.specs.Candidates.{of_each_mote}
use Rattle.net_survey.proofs.candidates.add_mote_faults.Given as goal

-- the faults, followed by those that are left, are all faults
abbrev pub invariant-loop-fault : goal.invariant-loop-fault
invariant-loop-fault l =
    l.all.items ++ flat_map (of_each_mote l.medium) (drop l.fault-index l.faults)
    ≡ l.initial.all.items ++ flat_map (of_each_mote l.medium) l.faults

use Rattle.std.proofs.Common.{◌≡◌, ◌++◌, map}
use Rattle.std.specs.List.{range_with_len}
use Rattle.net_survey.specs.Candidates.{fault_of_mote}
use Rattle.net_survey.proofs.candidates.add_each.Given as goal

abbrev pub invariant-loop-mote : goal.invariant-loop-mote
invariant-loop-mote l = l.all.items ≡ l.fn.all.items ++ map (fault_of_mote l.fault) (range_with_len 0 l.mote)

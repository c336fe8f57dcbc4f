use Rattle.std.proofs.Common.{◌≡◌, ◌≤◌, drop, length}
use Rattle.radio_medium.specs.Medium.{fates}
use Rattle.radio_faults.specs.Faults.{fates_with}
use Rattle.radio_faults.proofs.fates.fates_with.Given as goal

abbrev pub invariant-loop-left : goal.invariant-loop-left
invariant-loop-left l = record {
  inside : l.left ≤ length l.faults;
  fates : l.all.items ≡ fates_with (drop l.left l.faults) l.sent (fates l.medium l.sent);
}

abbrev pub decreases-loop-left : goal.decreases-loop-left
decreases-loop-left l = l.left

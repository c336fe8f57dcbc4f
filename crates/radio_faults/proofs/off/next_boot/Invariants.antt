use Rattle.std.proofs.Common.{◌≡◌, ◌≤◌, drop, length}
use Rattle.radio_faults.specs.Off.{next_boot}
use Rattle.radio_faults.proofs.off.next_boot.Given as goal

abbrev pub invariant-loop-left : goal.invariant-loop-left
invariant-loop-left l = record {
  inside : l.left ≤ length l.faults;
  next : l.next ≡ next_boot (drop l.left l.faults) l.number l.moment;
}

abbrev pub decreases-loop-left : goal.decreases-loop-left
decreases-loop-left l = l.left

use Rattle.std.proofs.Common.{◌≡◌, ◌++◌, drop, map, take}
use Rattle.radio_faults.specs.Faults.{fate_after}
use Rattle.radio_faults.proofs.fates.put_fault.Given as goal

abbrev pub invariant-loop-place : goal.invariant-loop-place
invariant-loop-place l = l.all.items ≡ map (fate_after l.fault l.sent) (take l.place l.fn.all.items) ++ drop l.place l.fn.all.items

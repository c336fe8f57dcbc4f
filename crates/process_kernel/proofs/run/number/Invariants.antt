use Rattle.std.proofs.Common.{◌≡◌, ◌++◌, length, take, drop}
use Rattle.process_kernel.specs.ProcessList.{numbered_from}
use Rattle.process_kernel.proofs.run.number.Given as goal

abbrev pub invariant-loop-place : goal.invariant-loop-place
invariant-loop-place l =
    (length l.members ≡ length l.fn.members)
    × (l.members ≡ numbered_from 0 (take l.place l.fn.members) ++ drop l.place l.fn.members)

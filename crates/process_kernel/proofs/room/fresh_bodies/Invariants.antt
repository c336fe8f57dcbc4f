use Rattle.std.proofs.Common.{◌≡◌, length}
use Rattle.process_kernel.proofs.First.{AreFresh}
use Rattle.process_kernel.proofs.room.fresh_bodies.Given as goal

abbrev pub invariant-loop-process : goal.invariant-loop-process
invariant-loop-process l = (length l.threads.items ≡ l._process) × AreFresh l.threads.items

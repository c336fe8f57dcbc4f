use Rattle.std.proofs.Common.{◌≡◌, ◌++◌, drop}
use Rattle.process_kernel.proofs.room.first_semaphores.Given as goal

abbrev pub invariant-loop-count : goal.invariant-loop-count
invariant-loop-count l = l.semaphores.items ++ drop l.count-index l.count-items ≡ l.count-items

use Rattle.process_kernel.proofs.Left.{boot_tells, run_tells, pending_left}
use Rattle.process_kernel.proofs.laws.left_is_pending.Goals as goal

pub returns-clause-boot : goal.returns-clause-boot
returns-clause-boot c = boot_tells

pub returns-clause-run : goal.returns-clause-run
returns-clause-run c = run_tells

pub returns-clause-pending : goal.returns-clause-pending
returns-clause-pending c = pending_left

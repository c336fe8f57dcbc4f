use Rattle.process_kernel.proofs.Left.{boot_stays, run_stays}
use Rattle.process_kernel.proofs.laws.halted_for_good.Goals as goal

pub returns-clause-boot : goal.returns-clause-boot
returns-clause-boot c = boot_stays

pub returns-clause-run : goal.returns-clause-run
returns-clause-run c = run_stays

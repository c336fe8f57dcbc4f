use Rattle.kernel_laws.proofs.Due.{boot_forgets_none, run_forgets_none, run_tells_due}
use Rattle.kernel_laws.proofs.Owners.{boot_keeps_owners, run_keeps_owners}
use Rattle.kernel_laws.proofs.Passes.{calls_forget_none}
use Rattle.kernel_laws.proofs.laws.no_timer_is_forgotten.Goals as goal

pub returns-clause-within : goal.returns-clause-within
returns-clause-within c = calls_forget_none

pub returns-clause-boot : goal.returns-clause-boot
returns-clause-boot c = boot_forgets_none

pub returns-clause-run : goal.returns-clause-run
returns-clause-run c = run_forgets_none

pub returns-clause-due : goal.returns-clause-due
returns-clause-due c = run_tells_due

pub returns-clause-boot_owners : goal.returns-clause-boot_owners
returns-clause-boot_owners c = boot_keeps_owners

pub returns-clause-run_owners : goal.returns-clause-run_owners
returns-clause-run_owners c = run_keeps_owners

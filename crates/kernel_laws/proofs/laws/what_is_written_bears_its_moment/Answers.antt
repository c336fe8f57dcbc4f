use Rattle.kernel_laws.proofs.Stamps.{boot_stamps, calls_stamp, run_stamps}
use Rattle.kernel_laws.proofs.laws.what_is_written_bears_its_moment.Goals as goal

pub returns-clause-within : goal.returns-clause-within
returns-clause-within c = calls_stamp

pub returns-clause-boot : goal.returns-clause-boot
returns-clause-boot c = boot_stamps

pub returns-clause-run : goal.returns-clause-run
returns-clause-run c = run_stamps

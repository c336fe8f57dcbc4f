use Rattle.serial_run.proofs.Reports.{all_in_order}
use Rattle.serial_run.proofs.serial.run_serial.Goals as goal

pub returns-clause-handed_on : goal.returns-clause-handed_on
returns-clause-handed_on c = all_in_order c.in_ok-run_with_faults.field-0.traces.items c.in_ok-run_with_faults.ensures.lives

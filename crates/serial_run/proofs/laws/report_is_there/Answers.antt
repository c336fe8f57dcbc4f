use Rattle.serial_run.proofs.ByWindows.{nets_run_forward, report_is_there}
use Rattle.serial_run.proofs.laws.report_is_there.Goals as goal

pub returns-clause-forward : goal.returns-clause-forward
returns-clause-forward c = nets_run_forward

pub returns-clause-report_is_there : goal.returns-clause-report_is_there
returns-clause-report_is_there c = report_is_there

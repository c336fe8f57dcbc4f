use Rattle.serial_run.proofs.Unique.{report_is_one}
use Rattle.serial_run.proofs.laws.report_is_one.Goals as goal

pub returns : goal.returns
returns c = record { report_is_one = report_is_one }

use Rattle.serial_run.proofs.FaultLaws.{loss_tables_agree}
use Rattle.serial_run.proofs.laws.loss_tables_agree.Goals as goal

pub returns : goal.returns
returns c = record { loss_tables_agree = loss_tables_agree }

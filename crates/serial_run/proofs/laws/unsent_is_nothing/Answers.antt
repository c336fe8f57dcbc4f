use Rattle.serial_run.proofs.FaultLaws.{unsent_is_nothing}
use Rattle.serial_run.proofs.laws.unsent_is_nothing.Goals as goal

pub returns : goal.returns
returns c = record { unsent_is_nothing = unsent_is_nothing }

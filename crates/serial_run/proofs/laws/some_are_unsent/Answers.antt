use Rattle.serial_run.proofs.FaultLaws.{some_are_unsent}
use Rattle.serial_run.proofs.laws.some_are_unsent.Goals as goal

pub returns : goal.returns
returns c = record { some_are_unsent = some_are_unsent }

use Rattle.serial_run.proofs.FaultLaws.{order_means_nothing}
use Rattle.serial_run.proofs.laws.order_means_nothing.Goals as goal

pub returns : goal.returns
returns c = record { order_means_nothing = order_means_nothing }

use Rattle.protothread.proofs.Units.{more_units}
use Rattle.protothread.proofs.laws.more_units_change_nothing.Goals as goal

pub returns : goal.returns
returns c = record { more_units_change_nothing = more_units }

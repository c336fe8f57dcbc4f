use Rattle.protothread.proofs.Held.{given_up_at_waits}
use Rattle.protothread.proofs.laws.control_is_given_up_at_waits.Goals as goal

pub returns : goal.returns
returns c = record { control_is_given_up_at_waits = given_up_at_waits }

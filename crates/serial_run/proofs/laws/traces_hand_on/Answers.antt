use Rattle.serial_run.proofs.Handed.{one_life, traces_hand_on}
use Rattle.serial_run.proofs.laws.traces_hand_on.Goals as goal

pub returns-clause-traces_hand_on : goal.returns-clause-traces_hand_on
returns-clause-traces_hand_on c = traces_hand_on

pub returns-clause-one_life : goal.returns-clause-one_life
returns-clause-one_life c = one_life

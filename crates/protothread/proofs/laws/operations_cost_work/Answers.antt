use Rattle.protothread.proofs.Units.{costs}
use Rattle.protothread.proofs.laws.operations_cost_work.Goals as goal

pub returns : goal.returns
returns c = record { operations_cost_work = costs }

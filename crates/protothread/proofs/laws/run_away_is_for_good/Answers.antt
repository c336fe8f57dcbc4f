use Rattle.protothread.proofs.Units.{run_away}
use Rattle.protothread.proofs.laws.run_away_is_for_good.Goals as goal

pub returns : goal.returns
returns c = record { run_away_is_for_good = run_away }

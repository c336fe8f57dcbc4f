use Rattle.protothread.proofs.SemaphoreLaws.{counts}
use Rattle.protothread.proofs.laws.counts_are_signals_less_takes.Goals as goal

pub returns : goal.returns
returns c = record { counts_are_signals_less_takes = counts }

use Rattle.worker_window.proofs.Ends.{one_end}
use Rattle.worker_window.proofs.laws.one_window_run.Goals as goal

pub returns : goal.returns
returns c = record { end_is_one = one_end }

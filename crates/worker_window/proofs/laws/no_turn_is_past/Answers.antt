use Rattle.worker_window.proofs.Ahead.{no_turn_is_past}
use Rattle.worker_window.proofs.laws.no_turn_is_past.Goals as goal

pub returns : goal.returns
returns c = record { no_turn_is_past = no_turn_is_past }

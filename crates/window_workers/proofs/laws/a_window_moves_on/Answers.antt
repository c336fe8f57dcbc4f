use Rattle.window_workers.proofs.JoinedMoved.{moved}
use Rattle.window_workers.proofs.laws.a_window_moves_on.Goals as goal

pub returns : goal.returns
returns c = record { window_moves_on = λ n fine owners from until old new at up short all. moved n fine owners from until old new at up short all }

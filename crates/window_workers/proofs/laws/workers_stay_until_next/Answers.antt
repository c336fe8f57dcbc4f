use Rattle.window_workers.proofs.JoinedIsInState.{comes_no_sooner, in_state}
use Rattle.window_workers.proofs.laws.workers_stay_until_next.Goals as goal

pub returns : goal.returns
returns c = record { stays_until_next = λ n fine owners from group next at is. (comes_no_sooner n owners from group next at is, λ moment le wakes. in_state n fine owners from moment group next at is le wakes) }

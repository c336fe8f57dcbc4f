use Rattle.window_workers.proofs.Held.{agenda_is_held}
use Rattle.window_workers.proofs.laws.agenda_is_held.Goals as goal

pub returns : goal.returns
returns c = record { agenda_is_held = agenda_is_held }

use Rattle.window_workers.proofs.MarkedEnds.{ends}
use Rattle.window_workers.proofs.laws.marked_windows_lead_to_the_end.Goals as goal

pub returns : goal.returns
returns c = record { marked_windows_lead_to_the_end = λ n fine owners width windows short are group all. ends n fine owners width windows short are group all }

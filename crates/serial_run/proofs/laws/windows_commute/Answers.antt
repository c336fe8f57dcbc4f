use Rattle.serial_run.proofs.ByWindows.{windows_commute}
use Rattle.serial_run.proofs.laws.windows_commute.Goals as goal

pub returns : goal.returns
returns c = record { windows_commute_in_nets = windows_commute }

use Rattle.serial_run.proofs.Counted.{late_copies_stay}
use Rattle.serial_run.proofs.laws.late_copies_stay.Goals as goal

pub returns : goal.returns
returns c = record { late_copies_stay = late_copies_stay }

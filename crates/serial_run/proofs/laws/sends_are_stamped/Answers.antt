use Rattle.serial_run.proofs.Stamped.{sends_are_stamped}
use Rattle.serial_run.proofs.laws.sends_are_stamped.Goals as goal

pub returns : goal.returns
returns c = record { sends_are_stamped = sends_are_stamped }

use Rattle.serial_run.proofs.Given.{copies_come_in_time}
use Rattle.serial_run.proofs.laws.copies_come_in_time.Goals as goal

pub returns : goal.returns
returns c = record { copies_come_in_time = copies_come_in_time }

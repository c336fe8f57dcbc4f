use Rattle.serial_run.proofs.OneWake.{one_wake, wakes_differ}
use Rattle.serial_run.proofs.laws.at_most_one_wake.Goals as goal

pub returns-clause-one : goal.returns-clause-one
returns-clause-one c = one_wake

pub returns-clause-differ : goal.returns-clause-differ
returns-clause-differ c = wakes_differ

use Rattle.kernel_laws.proofs.BodyMotes.{prints_are_the_reading, prints_so_far_are_the_reading}
use Rattle.kernel_laws.proofs.laws.prints_are_the_reading.Goals as goal

pub returns-clause-prints_are_the_reading : goal.returns-clause-prints_are_the_reading
returns-clause-prints_are_the_reading c = prints_are_the_reading

pub returns-clause-so_far : goal.returns-clause-so_far
returns-clause-so_far c = prints_so_far_are_the_reading

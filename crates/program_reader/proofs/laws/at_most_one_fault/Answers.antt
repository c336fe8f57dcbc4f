use Rattle.program_reader.proofs.Texts.{one_reported}
use Rattle.program_reader.proofs.laws.at_most_one_fault.Goals as goal

pub returns : goal.returns
returns c = record { at_most_one = one_reported }

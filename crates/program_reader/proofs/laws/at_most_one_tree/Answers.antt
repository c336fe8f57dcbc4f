use Rattle.program_reader.proofs.Texts.{one_tree}
use Rattle.program_reader.proofs.laws.at_most_one_tree.Goals as goal

pub returns : goal.returns
returns c = record { at_most_one = one_tree }

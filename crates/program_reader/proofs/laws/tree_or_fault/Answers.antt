use Rattle.program_reader.proofs.Texts.{tree_or_reported}
use Rattle.program_reader.proofs.laws.tree_or_fault.Goals as goal

pub returns : goal.returns
returns c = record { has_tree_or_fault = tree_or_reported }

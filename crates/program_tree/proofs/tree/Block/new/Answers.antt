use Rattle.program_tree.proofs.TreeLaws.{listed-body_of}
use Rattle.program_tree.proofs.tree.Block.new.Goals as goal

pub returns : goal.returns
returns c = record { statements = listed-body_of _ }

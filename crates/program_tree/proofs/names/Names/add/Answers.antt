use Rattle.program_tree.proofs.NameLaws.{added}
use Rattle.program_tree.proofs.names.Names.add.Goals as goal

pub returns-clause-ok : goal.returns-clause-ok
returns-clause-ok c = added _ _ _ _ _ c.self.view_is c.in_ok-name.ensures.ok c.requires.not_yet_listed c.in_ok-insert.ensures.keys

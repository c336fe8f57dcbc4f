use Rattle.std.proofs.Common.{◌∙◌}
use Rattle.program_tree.proofs.NameLaws.{place_among}
use Rattle.program_tree.proofs.names.Names.place_of.Goals as goal

pub returns-clause-place : goal.returns-clause-place
returns-clause-place c = c.get_index_of.ensures.index ∙ place_among _ _ _ c.self.view_is

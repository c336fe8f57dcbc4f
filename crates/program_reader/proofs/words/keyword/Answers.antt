use Rattle.program_tree.specs.Words.{keywords}
use Rattle.program_reader.proofs.words.keyword.Goals as goal

pub returns : goal.returns
unfolding keywords
returns c = record { value = c.lookup.ensures.value }

-- The tree of a block.
use Rattle.std.specs.Prelude.{ℕ}
use Rattle.program_tree.specs.Tree.{Body}
use Rattle.program_tree.specs.Meaning.{block_of}
use Rattle.program_tree.specs.declared.flat_block.FlatBlock.{FlatBlock}

abbrev pub tree_in : FlatBlock → Body ℕ
tree_in b = block_of b.block

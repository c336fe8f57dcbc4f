use Rattle.std.proofs.Common.{map, drop}
use Rattle.program_tree.specs.Meaning.{statement_of, body_of, block_of}
use Rattle.program_tree.specs.Emits.{EmitsFirst}
use Rattle.program_tree.proofs.flattening.+flatten.Given as goal

abbrev pub invariant-add_block-loop-i : goal.invariant-add_block-loop-i
invariant-add_block-loop-i l =
    EmitsFirst (block_of l.block) (body_of (drop l.i (map statement_of l.block.statements.items))) l.fn.after l.fn.code.items l.code.items

use Rattle.std.proofs.Common.{◌≡◌, ◌+◌, map, drop}
use Rattle.program_tree.specs.Meaning.{statement_of, body_of, block_of}
use Rattle.program_tree.specs.Tree.{size}
use Rattle.program_tree.proofs.flattening.+count.Given as goal

abbrev pub invariant-count-loop-i : goal.invariant-count-loop-i
invariant-count-loop-i l = l.total + size (body_of (drop l.i (map statement_of l.block.statements.items))) ≡ size (block_of l.block)

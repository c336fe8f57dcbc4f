use Rattle.std.proofs.Common.{List, subst, arith}
use Rattle.program_tree.specs.declared.instruction.Instruction.{Instruction}
use Rattle.program_tree.specs.Meaning.{block_of}
use Rattle.program_tree.specs.Emits.{Emits}
use Rattle.program_tree.proofs.Emitting.{emits_whole}
use Rattle.program_tree.proofs.flattening.flatten.Goals as goal

pub returns : goal.returns
returns c = record {
  is_flat =
      let b = block_of c.args.block.now in
      let P : List Instruction → Type 0 = λ old. Emits b 65535 old c.add_block.new.code.items in
      emits_whole b c.add_block.new.code.items 65535 (omega (arith, c.requires.size_bounded)) (subst P c.new-code.ensures.items c.in_ok-add_block.ensures.emits);
}

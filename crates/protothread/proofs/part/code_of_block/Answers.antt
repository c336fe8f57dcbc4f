use Rattle.std.proofs.Common.{[], Option, option_map, sym, subst}
use Rattle.std.specs.Borrow.{Bor}
use Rattle.program_tree.specs.Flat.{IsFlat}
use Rattle.program_tree.specs.FlatBlock.{tree_in}
use Rattle.program_tree.specs.declared.flat_block.FlatBlock.{FlatBlock}
use Rattle.program_tree.proofs.Spawning.{none_flat}
use Rattle.protothread.specs.Places.{body_or_end}
use Rattle.protothread.proofs.part.code_of_block.Goals as goal

pub returns-in-None : goal.returns-in-None
returns-in-None c = record {
  is_flat =
      let P : Option (Bor FlatBlock) → Type 0 = λ o. IsFlat (body_or_end (option_map (λ b. tree_in b.now) o)) [] in
      subst P (sym c.in-None.is) none_flat;
}

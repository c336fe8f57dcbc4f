use Rattle.std.proofs.Common.{◌∙◌, ◌∷◌, refl, sym, subst, arith}
use Rattle.std.proofs.lemmas.List.Elements.{All-push}
use Rattle.std.specs.List.{All}
use Rattle.program_tree.specs.FlatBlock.{tree_in}
use Rattle.program_tree.specs.Tree.{IsWithinLimits}
use Rattle.program_reader.specs.Machine.{from_ctimers}
use Rattle.program_reader.proofs.BlockLaws.{one_block, all_blocks, blocks_fail, pushed}
use Rattle.program_reader.proofs.ListLaws.{handed_on}
use Rattle.program_reader.proofs.Stages.{no_ctimers}
use Rattle.program_reader.proofs.reader.Reader.ctimers.Goals as goal

pub ctimers-preserved : goal.ctimers-preserved
ctimers-preserved c =
    let push = pushed c.ctimers.blocks.items c.push.new.self.items c.in_ok-block.block c.in_ok-push.ensures.items in
    record {
      no_longer = omega (arith, c.in_ok-block.ensures.no_longer);
      etimers = c.in_ok-block.ensures.etimers ∙ c.ctimers.invariant.etimers;
      within =
          subst (λ z. All (λ b. IsWithinLimits (tree_in b)) z) (sym c.in_ok-push.ensures.items)
          (All-push (λ b. IsWithinLimits (tree_in b)) c.ctimers.blocks.items c.in_ok-block.block
          c.ctimers.invariant.within
          c.in_ok-block.ensures.within);
      reads = one_block c.ctimers.invariant.reads c.ctimers-test.ensures.read c.in_ok-block.ensures.ok push
          (λ x b more ms. refl) (λ f. refl);
    }

pub returns-in_err-block-clause-err : goal.returns-in_err-block-clause-err
returns-in_err-block-clause-err c = λ f e more.
    blocks_fail more c.ctimers.invariant.reads c.ctimers-test.ensures.read
    (c.in_err-block.ensures.err f (handed_on c.from_residual.ensures.1 e) (from_ctimers ∷ more))

pub returns-clause-ok : goal.returns-clause-ok
returns-clause-ok c = all_blocks c.ctimers.invariant.reads (λ ms. refl)
    (λ f. no_ctimers _ f _ (c.ctimers-test.ensures.other refl)) (c.ctimers-test.ensures.same refl)

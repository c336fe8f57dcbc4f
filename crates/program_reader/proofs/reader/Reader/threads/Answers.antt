use Rattle.std.proofs.Common.{◌+◌, ◌∙◌, ◌∷◌, [], map, length, refl, sym, ap, subst, arith}
use Rattle.std.proofs.lemmas.List.{length-append, length-map}
use Rattle.std.proofs.lemmas.List.Elements.{All-push}
use Rattle.std.specs.List.{All}
use Rattle.program_tree.specs.FlatBlock.{tree_in}
use Rattle.program_tree.specs.Tree.{IsWithinLimits}
use Rattle.program_reader.specs.Machine.{from_threads}
use Rattle.program_reader.proofs.BlockLaws.{one_block, all_blocks, blocks_fail, pushed, earlier_more}
use Rattle.program_reader.proofs.ListLaws.{handed_on}
use Rattle.program_reader.proofs.Stages.{no_threads}
use Rattle.program_reader.proofs.reader.Reader.threads.Goals as goal

pub threads-preserved : goal.threads-preserved
threads-preserved c =
    let push = pushed c.threads.blocks.items c.push.new.self.items c.in_ok-block.block c.in_ok-push.ensures.items in
    record {
      no_longer = omega (arith, c.in_ok-block.ensures.no_longer);
      etimers = c.in_ok-block.ensures.timers.etimers ∙ c.threads.invariant.etimers;
      ctimers = c.in_ok-block.ensures.timers.ctimers ∙ c.threads.invariant.ctimers;
      counted =
          ap (λ z. length z.threads) c.in_ok-block.ensures.ok.added ∙ length-append c.threads.self.scope.threads
          (c.in_ok-block.ensures.ok.name ∷ [])
          ∙ ap (λ k. k + 1) c.threads.invariant.counted
          ∙ sym (ap length c.in_ok-push.ensures.items ∙ length-append c.threads.blocks.items
          (c.in_ok-block.block ∷ []));
      earlier =
          earlier_more (map tree_in c.threads.blocks.items) _ (tree_in c.in_ok-block.block)
          (length c.threads.self.scope.threads) c.threads.invariant.earlier
          (c.threads.invariant.counted ∙ sym (length-map c.threads.blocks.items tree_in)) c.in_ok-block.ensures.earlier
          push;
      within =
          subst (λ z. All (λ b. IsWithinLimits (tree_in b)) z) (sym c.in_ok-push.ensures.items)
          (All-push (λ b. IsWithinLimits (tree_in b)) c.threads.blocks.items c.in_ok-block.block
          c.threads.invariant.within
          c.in_ok-block.ensures.within);
      reads = one_block c.threads.invariant.reads c.threads-test.ensures.read c.in_ok-block.ensures.ok push
          (λ x b more ms. refl) (λ f. refl);
    }

pub returns-in_err-block-clause-err : goal.returns-in_err-block-clause-err
returns-in_err-block-clause-err c = λ f e more.
    blocks_fail more c.threads.invariant.reads c.threads-test.ensures.read
    (c.in_err-block.ensures.err f (handed_on c.from_residual.ensures.1 e) (from_threads ∷ more))

pub returns-clause-ok : goal.returns-clause-ok
returns-clause-ok c = all_blocks c.threads.invariant.reads (λ ms. refl)
    (λ f. no_threads _ f _ (c.threads-test.ensures.other refl)) (c.threads-test.ensures.same refl)

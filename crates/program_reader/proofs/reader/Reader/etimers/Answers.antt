use Rattle.std.proofs.Common.{◌∙◌, ◌∷◌, refl, arith}
use Rattle.program_reader.specs.Machine.{from_etimers}
use Rattle.program_reader.proofs.ListLaws.{names_more, all_declared, declared_fails, handed_on}
use Rattle.program_reader.proofs.Stages.{no_etimers}
use Rattle.program_reader.proofs.reader.Reader.etimers.Goals as goal

pub etimers-preserved : goal.etimers-preserved
etimers-preserved c = record {
  no_longer = omega (arith, c.in_ok-listed.ensures.no_longer);
  ctimers = c.in_ok-listed.ensures.ctimers (λ e. absurd cc) ∙ c.etimers.invariant.ctimers;
  reads = names_more c.etimers.invariant.reads c.etimers-test.ensures.read c.in_ok-listed.ensures.ok
      (λ x more ms. refl) (λ f. refl);
}

pub returns-in_err-listed-clause-err : goal.returns-in_err-listed-clause-err
returns-in_err-listed-clause-err c = λ f e more.
    declared_fails more c.etimers.invariant.reads.1 c.etimers-test.ensures.read
    (c.in_err-listed.ensures.err f (handed_on c.from_residual.ensures.1 e) (from_etimers ∷ more))

pub returns-clause-ok : goal.returns-clause-ok
returns-clause-ok c =
    let h = c.etimers.invariant.reads in (
      h.0,
      all_declared h.1 (λ ms. refl) (λ f. no_etimers _ f _ (c.etimers-test.ensures.other refl))
          (c.etimers-test.ensures.same refl),
    )

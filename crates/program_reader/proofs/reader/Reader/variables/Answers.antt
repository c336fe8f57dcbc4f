use Rattle.std.proofs.Common.{◌∙◌, ◌∷◌, refl, arith}
use Rattle.program_reader.specs.Machine.{from_variables}
use Rattle.program_reader.proofs.ListLaws.{values_more, all_declared, declared_fails, handed_on}
use Rattle.program_reader.proofs.Stages.{no_variables}
use Rattle.program_reader.proofs.reader.Reader.variables.Goals as goal

pub variables-preserved : goal.variables-preserved
variables-preserved c = record {
  no_longer = omega (arith, c.in_ok-with_value.ensures.no_longer);
  etimers = c.in_ok-with_value.ensures.etimers ∙ c.variables.invariant.etimers;
  ctimers = c.in_ok-with_value.ensures.ctimers (λ e. absurd cc) ∙ c.variables.invariant.ctimers;
  reads = values_more c.variables.invariant.reads c.variables-test.ensures.read c.in_ok-with_value.ensures.ok
      (λ v more ms. refl) (λ f. refl);
}

pub returns-in_err-with_value-clause-err : goal.returns-in_err-with_value-clause-err
returns-in_err-with_value-clause-err c = λ f e more.
    declared_fails more c.variables.invariant.reads.2 c.variables-test.ensures.read
    (c.in_err-with_value.ensures.err f (handed_on c.from_residual.ensures.1 e) (from_variables ∷ more))

pub returns-clause-ok : goal.returns-clause-ok
returns-clause-ok c =
    let h = c.variables.invariant.reads in (
      h.0,
      h.1,
      all_declared h.2 (λ ms. refl) (λ f. no_variables _ f _ (c.variables-test.ensures.other refl))
          (c.variables-test.ensures.same refl),
    )

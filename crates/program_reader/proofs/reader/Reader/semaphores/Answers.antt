use Rattle.std.proofs.Common.{◌∷◌, refl, arith}
use Rattle.program_reader.specs.Machine.{from_semaphores}
use Rattle.program_reader.proofs.ListLaws.{values_more, all_declared, declared_fails, handed_on}
use Rattle.program_reader.proofs.reader.Reader.semaphores.Goals as goal

pub semaphores-preserved : goal.semaphores-preserved
semaphores-preserved c = record {
  no_longer = omega (arith, c.in_ok-with_value.ensures.no_longer);
  reads = values_more c.semaphores.invariant.reads c.semaphores-test.ensures.read c.in_ok-with_value.ensures.ok
      (λ v more ms. refl) (λ f. refl);
}

pub returns-in_err-with_value-clause-err : goal.returns-in_err-with_value-clause-err
returns-in_err-with_value-clause-err c = λ f e more.
    declared_fails more c.semaphores.invariant.reads.2 c.semaphores-test.ensures.read
    (c.in_err-with_value.ensures.err f (handed_on c.from_residual.ensures.1 e) (from_semaphores ∷ more))

pub returns-clause-ok : goal.returns-clause-ok
returns-clause-ok c =
    let h = c.semaphores.invariant.reads in
    (h.0, h.1, all_declared h.2 (λ ms. refl) (λ f. refl) (c.semaphores-test.ensures.same refl))

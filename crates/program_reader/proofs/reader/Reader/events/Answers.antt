use Rattle.std.proofs.Common.{◌∷◌, refl, arith}
use Rattle.program_reader.specs.Machine.{from_events}
use Rattle.program_reader.proofs.ListLaws.{names_more, all_declared, declared_fails, handed_on}
use Rattle.program_reader.proofs.Stages.{no_events}
use Rattle.program_reader.proofs.reader.Reader.events.Goals as goal

pub events-preserved : goal.events-preserved
events-preserved c = record {
  no_longer = omega (arith, c.in_ok-listed.ensures.no_longer);
  reads = names_more c.events.invariant.reads c.events-test.ensures.read c.in_ok-listed.ensures.ok (λ x more ms. refl)
      (λ f. refl);
}

pub returns-in_err-listed-clause-err : goal.returns-in_err-listed-clause-err
returns-in_err-listed-clause-err c = λ f e more.
    declared_fails more c.events.invariant.reads.1 c.events-test.ensures.read
    (c.in_err-listed.ensures.err f (handed_on c.from_residual.ensures.1 e) (from_events ∷ more))

pub returns-clause-ok : goal.returns-clause-ok
returns-clause-ok c =
    let h = c.events.invariant.reads in (
      h.0,
      all_declared h.1 (λ ms. refl) (λ f. no_events _ f _ (c.events-test.ensures.other refl))
          (c.events-test.ensures.same refl),
    )

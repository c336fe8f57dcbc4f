use Rattle.std.proofs.Common.{refl}
use Rattle.std.proofs.lemmas.Result.{on_ok_weaker}
use Rattle.program_reader.proofs.StartLaws.{has_more, has_all, end_fails}
use Rattle.program_reader.proofs.reader.Reader.starting_names.Goals as goal

pub names-preserved : goal.names-preserved
names-preserved c = has_more _ _ _ _ _ _ _ _ _ c.names.invariant c.names-test.ensures.read
    c.in_ok-starting-2.ensures.ok

pub returns-clause-ok : goal.returns-clause-ok
returns-clause-ok c = on_ok_weaker c.sign.result
    (λ k. has_all _ _ _ _ _ _ _ c.names.invariant (c.names-test.ensures.other refl) (c.names-test.ensures.same refl) k)
    c.sign.ensures.ok

pub returns-clause-err : goal.returns-clause-err
returns-clause-err c = λ f e x xs more. end_fails _ _ _ _ _ _ _ x xs more c.names.invariant
    (c.names-test.ensures.other refl) (c.names-test.ensures.same refl) (c.sign.ensures.err f e)

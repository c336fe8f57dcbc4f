use Rattle.std.proofs.Common.{refl}
use Rattle.std.proofs.lemmas.Result.{on_ok_weaker}
use Rattle.program_reader.proofs.LineLaws.{process_fails, has_first, has_more, more_process_fails, has_all, end_fails}
use Rattle.program_reader.proofs.ListLaws.{handed_on}
use Rattle.program_reader.proofs.reader.Reader.processes.Goals as goal

pub returns-in_err-new_name-clause-err : goal.returns-in_err-new_name-clause-err
returns-in_err-new_name-clause-err c = λ f e more.
    process_fails _ _ _ _ more c.if-not-accept.ensures.read
    (c.in_err-new_name.ensures.err f (handed_on c.from_residual.ensures.1 e))

pub processes-init : goal.processes-init
processes-init c = has_first _ _ _ _ _ _ c.if-not-accept.ensures.read
    c.in_ok-new_name.ensures.ok

pub processes-preserved : goal.processes-preserved
processes-preserved c = has_more _ _ _ _ _ _ _ _ c.processes.invariant c.processes-test.ensures.read
    c.in_ok-new_name-2.ensures.ok

pub returns-in_err-new_name-2-clause-err : goal.returns-in_err-new_name-2-clause-err
returns-in_err-new_name-2-clause-err c = λ f e more.
    more_process_fails _ _ _ _ _ _ more c.processes.invariant c.processes-test.ensures.read
    (c.in_err-new_name-2.ensures.err f (handed_on c.from_residual-in_err-new_name-2.ensures.1 e))

pub returns-clause-ok : goal.returns-clause-ok
returns-clause-ok c = on_ok_weaker c.sign.result
    (λ k. has_all _ _ _ _ _ _ c.processes.invariant (c.processes-test.ensures.other refl)
    (c.processes-test.ensures.same refl) k) c.sign.ensures.ok

pub returns-clause-err : goal.returns-clause-err
returns-clause-err c = λ f e more. end_fails _ _ _ _ _ _ more c.processes.invariant
    (c.processes-test.ensures.other refl) (c.processes-test.ensures.same refl) (c.sign.ensures.err f e)

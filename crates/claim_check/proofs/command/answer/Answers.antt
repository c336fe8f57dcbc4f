use Rattle.claim_check.specs.Asked.{way_for}
use Rattle.claim_check.proofs.AskedAnswers.{by_report, by_writing}
use Rattle.claim_check.proofs.command.answer.Goals as goal

pub returns-then-options : goal.returns-then-options
returns-then-options g c =
    let a = c.args in
    record { responds = by_report (way_for a.options.now) a.options.now a.scenario.now a.claims.now a.faults.now _ _ c.report.result c.if-options.true c.report.ensures.reports }

pub returns-else-options : goal.returns-else-options
returns-else-options g c =
    let a = c.args in
    record { responds = by_writing (way_for a.options.now) a.options.now a.scenario.now a.claims.now a.faults.now _ _ c.write_answers.result c.if-options.false c.write_answers.ensures.writes }

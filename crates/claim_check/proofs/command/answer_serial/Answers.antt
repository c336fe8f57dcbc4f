use Rattle.std.proofs.Common.{None}
use Rattle.claim_check.proofs.AskedAnswers.{by_report, by_writing}
use Rattle.claim_check.proofs.command.answer_serial.Goals as goal

pub returns-then-options : goal.returns-then-options
returns-then-options g c =
    let a = c.args in
    record { responds = by_report None a.options.now a.scenario.now a.claims.now a.faults.now _ _ c.report_serial.result c.if-options.true c.report_serial.ensures.reports }

pub returns-else-options : goal.returns-else-options
returns-else-options g c =
    let a = c.args in
    record { responds = by_writing None a.options.now a.scenario.now a.claims.now a.faults.now _ _ c.write_answers_serial.result c.if-options.false c.write_answers_serial.ensures.writes }

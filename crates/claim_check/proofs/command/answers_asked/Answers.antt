use Rattle.std.proofs.Common.{Err, refl}
use Rattle.std.proofs.lemmas.Result.{err_from_is_err_and}
use Rattle.simulation.specs.declared.error.SimError.TheVariants as fault
use Rattle.claim_check.specs.Asked.{plan_for}
use Rattle.claim_check.specs.Survey.{plan_of}
use Rattle.claim_check.specs.declared.error.CheckError.TheVariants as check
use Rattle.claim_check.specs.Asked.{way_for}
use Rattle.claim_check.proofs.AskedAnswers.{by_check, by_survey}
use Rattle.claim_check.proofs.command.answers_asked.Goals as goal

pub returns-in_err-faults : goal.returns-in_err-faults
returns-in_err-faults g c =
    let p = err_from_is_err_and c.from_residual.result c.from_residual.ensures.1 in
    let a = c.args in
    record {
      answers = rw (p.1, p.2) (
          by_survey (way_for a.options.now) a.options.now a.scenario.now a.claims.now a.faults.now (Err (check.Simulation fault.Memory)) c.is_survey.result (plan_for a.options.now) c.is_survey.ensures.value
          c.if-is_survey.true refl tt
          );
    }

pub returns-in_ok-faults : goal.returns-in_ok-faults
returns-in_ok-faults g c =
    let a = c.args in
    record {
      answers = by_survey (way_for a.options.now) a.options.now a.scenario.now a.claims.now a.faults.now c.check_with_faults.result c.is_survey.result (plan_of c.in_ok-faults.faults) c.is_survey.ensures.value c.if-is_survey.true c.in_ok-faults.ensures.value
          c.check_with_faults.ensures.surveys;
    }

pub returns-else-is_survey : goal.returns-else-is_survey
returns-else-is_survey g c =
    let a = c.args in
    record { answers = by_check (way_for a.options.now) a.options.now a.scenario.now a.claims.now a.faults.now c.check.result c.is_survey.result c.is_survey.ensures.value c.if-is_survey.false c.check.ensures.checks }

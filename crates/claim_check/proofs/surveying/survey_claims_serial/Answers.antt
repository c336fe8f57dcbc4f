use Rattle.std.proofs.Common.{None, subst}
use Rattle.std.proofs.lemmas.Result.{err_from_is_err_and}
use Rattle.mote_net.specs.Meaning.{net_of}
use Rattle.net_survey.specs.NetSurvey.{IsSurveyOf}
use Rattle.claim_check.specs.Survey.{AnswersSurvey, TellsSurvey, plan_of}
use Rattle.claim_check.proofs.Surveyed.{not_tried}
use Rattle.claim_check.proofs.surveying.survey_claims_serial.Goals as goal

pub returns-in_err-candidates : goal.returns-in_err-candidates
returns-in_err-candidates c =
    let p = err_from_is_err_and c.from_residual.result c.from_residual.ensures.1 in
    let a = c.args in
    record { surveys = rw (p.1, p.2) (not_tried None (plan_of a.faults.now) a.names.now (net_of a.net.now) a.claims.now c.in_err-candidates.field-0.0 c.in_err-candidates.ensures.refuses) }

pub returns : goal.returns
returns c = record {
  surveys =
      let a = c.args in
      let net = net_of a.net.now in
      let answers = c.in_ok-answers_of.field-0 in
      let e = c.in_ok-candidates.ensures in
      let plan = plan_of a.faults.now in
      let within = c.limits-limits.ensures.value in
      let found = c.in_ok-found.found in
      let candidates = c.in_ok-candidates.candidates in
      let told : AnswersSurvey plan a.names.now net a.claims.now answers =
      record {
        candidates = candidates;
        fixed = e.fixed;
        copies = e.copies;
        found = found;
        survey = subst (λ l. IsSurveyOf net a.claims.now candidates l found) within c.in_ok-found.ensures.is_survey_of;
        tells = subst (λ l. TellsSurvey a.names.now a.claims.now candidates l found answers) within c.in_ok-answers_of.ensures.tells_survey;
      } in
      (tt, told);
}

use Rattle.std.proofs.Common.{◌≡◌, ◌∙◌, ap, subst, rules}
use Rattle.claim_text.specs.ClaimLines.{claim_lines}
use Rattle.std.proofs.lemmas.Result.{err_from_is_err_and}
use Rattle.mote_net.specs.Meaning.{net_of}
use Rattle.mote_net.specs.Report.{report_of}
use Rattle.serial_run.specs.FaultRun.{IsReportWith}
use Rattle.simulation.proofs.Printed.{refused}
use Rattle.claim_check.specs.Promises.{AnswersWith}
use Rattle.claim_check.proofs.Answered.{answered, checks_no_faults, refuses_claims}
use Rattle.std.proofs.Common.{None}
use Rattle.claim_check.proofs.checking.check_serial.Goals as goal

pub returns-in_err-net : goal.returns-in_err-net
returns-in_err-net c =
    let p = err_from_is_err_and c.from_residual.result c.from_residual.ensures.1 in
    record { checks = rw (p.1, p.2) (refused c.args.scenario.now c.in_err-net.field-0.0 c.in_err-net.ensures.answers) }

pub returns-in_err-listed : goal.returns-in_err-listed
returns-in_err-listed c =
    let p = err_from_is_err_and c.from_residual-in_err-listed.result c.from_residual-in_err-listed.ensures.1 in
    let a = c.args in
    record {
      checks = rw (p.1, p.2) (
          checks_no_faults None a.scenario.now a.faults.now (net_of c.in_ok-net.net) c.requires.is_text c.in_ok-net.ensures.answers a.claims.now c.in_err-listed.field-0.0
          c.in_err-listed.ensures.refused
          );
    }

pub returns-in_err-claims : goal.returns-in_err-claims
returns-in_err-claims c =
    let p = err_from_is_err_and c.from_residual-in_err-claims.result c.from_residual-in_err-claims.ensures.1 in
    let same : c.as_bytes.result.now ≡ c.args.claims.now = search rules in
    record {
      checks = rw (p.1, p.2) (
          refuses_claims c.args.scenario.now c.args.claims.now c.as_bytes.result.now (net_of c.in_ok-net.net) c.names_of-names.result.now c.in_err-claims.field-0.0 c.requires.is_text
          c.in_ok-net.ensures.answers c.names_of-names.ensures.named same c.in_err-claims.ensures.refused
          );
    }

pub returns : goal.returns
returns c = record {
  checks =
      let a = c.args in
      let net = net_of c.in_ok-net.net in
      let r = report_of c.in_ok-report.report in
      let names = c.names_of-names.result.now in
      let answers = c.in_ok-answers_with.field-0 in
      let same : c.as_bytes.result.now ≡ a.claims.now = search rules in
      let sliced : c.as_slice.result.now ≡ c.in_ok-claims.claims.items = search rules in
      let chosen : c.as_slice-chosen.result.now ≡ c.in_ok-listed.listed.items = search rules in
      let of_claims = subst (λ cs. AnswersWith names r cs c.as_slice-chosen.result.now answers) sliced c.in_ok-answers_with.ensures.answers_with in
      let said = subst (λ fs. AnswersWith names r c.in_ok-claims.claims.items fs answers) chosen of_claims in
      let ran = subst (λ fs. IsReportWith fs net r) chosen c.in_ok-report.ensures.report in (
        tt,
        answered a.scenario.now a.claims.now a.faults.now net c.in_ok-listed.listed.items r names c.in_ok-claims.claims.items answers c.requires.is_text c.in_ok-net.ensures.answers
            c.in_ok-listed.ensures.are_faults c.names_of-names.ensures.named (c.in_ok-claims.ensures.texts ∙ ap claim_lines same) ran said,
      );
}

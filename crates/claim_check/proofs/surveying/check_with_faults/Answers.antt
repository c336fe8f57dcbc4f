use Rattle.std.proofs.Common.{◌≡◌, ◌∙◌, ap, subst, rules}
use Rattle.claim_text.specs.ClaimLines.{claim_lines}
use Rattle.std.proofs.lemmas.Result.{err_from_is_err_and}
use Rattle.mote_net.specs.Meaning.{net_of}
use Rattle.window_workers.specs.declared.sync.SyncKind.TheVariants as sync
use Rattle.simulation.specs.Simulation.{way_by}
use Rattle.claim_check.specs.NetSurveys.{SurveysNet}
use Rattle.claim_check.specs.Survey.{plan_of}
use Rattle.simulation.proofs.Printed.{refused}
use Rattle.claim_check.proofs.Answered.{refuses_claims}
use Rattle.claim_check.proofs.Surveyed.{surveys}
use Rattle.claim_check.proofs.surveying.check_with_faults.Goals as goal

pub returns-in_err-net : goal.returns-in_err-net
returns-in_err-net g c =
    let p = err_from_is_err_and c.from_residual.result c.from_residual.ensures.1 in
    record { surveys = rw (p.1, p.2) (refused c.args.scenario.now c.in_err-net.field-0.0 c.in_err-net.ensures.answers) }

pub returns-in_err-claims : goal.returns-in_err-claims
returns-in_err-claims g c =
    let p = err_from_is_err_and c.from_residual-in_err-claims.result c.from_residual-in_err-claims.ensures.1 in
    let same : c.as_bytes.result.now ≡ c.args.claims.now = search rules in
    record {
      surveys = rw (p.1, p.2) (
          refuses_claims c.args.scenario.now c.args.claims.now c.as_bytes.result.now (net_of c.in_ok-net.net) c.names_of-names.result.now c.in_err-claims.field-0.0 c.requires.is_text
          c.in_ok-net.ensures.answers c.names_of-names.ensures.named same c.in_err-claims.ensures.refused
          );
    }

pub returns : goal.returns
returns g c = record {
  surveys =
      let same : c.as_bytes.result.now ≡ c.args.claims.now = search rules in
      let sliced : c.as_slice.result.now ≡ c.in_ok-claims.claims.items = search rules in
      let way = way_by c.args.workers sync.Joins in
      let by_net = subst (λ cs. SurveysNet way (plan_of c.args.faults.now) c.names_of-names.result.now (net_of c.in_ok-net.net) cs c.survey_claims.result) sliced c.survey_claims.ensures.surveys in
      surveys way (plan_of c.args.faults.now) c.args.scenario.now c.args.claims.now c.names_of-names.result.now (net_of c.in_ok-net.net) c.in_ok-claims.claims.items c.requires.is_text
      c.in_ok-net.ensures.answers c.names_of-names.ensures.named (c.in_ok-claims.ensures.texts ∙ ap claim_lines same) c.survey_claims.result by_net;
}

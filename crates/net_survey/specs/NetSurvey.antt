-- The result of the survey of a net.
use Rattle.std.specs.Prelude.{ℕ, List, length}
use Rattle.mote_net.specs.Net.{NetModel}
use Rattle.mote_net.specs.Report.{ReportModel}
use Rattle.claims.specs.declared.claim.Claim.{Claim}
use Rattle.serial_run.specs.FaultRun.{IsReportWith}
use Rattle.survey.specs.Survey.{IsSurvey}
use Rattle.survey.specs.declared.broken.Survey.{Survey}
use Rattle.survey.specs.declared.search.Limits.{Limits}
use Rattle.fault_keys.specs.Laws.{runs_of}
use Rattle.fault_keys.specs.declared.keys.Candidates.{Candidates}
use Rattle.net_survey.specs.Chosen.{faults_at}
use Rattle.net_survey.specs.Judged.{claim_holds}

-- this is a survey of a net, with these claims about its report, and these candidates for faults
pub record IsSurveyOf (net : NetModel) (claims : List Claim) (candidates : Candidates) (limits : Limits) (s : Survey)
    : Type 0 where
  -- the report of the net with the faults of each set of keys; by `ReportIsOne` there is no other
  pub report : List ℕ → ReportModel
  pub reports : (set : List ℕ) → IsReportWith (faults_at candidates set) net (report set)
  -- a claim holds with a set if it holds in the report of the net with its faults; and what is offered is read off the
  -- report
  pub survey : IsSurvey (runs_of candidates.fixed.items candidates.copies.items report (length claims)
      (claim_holds claims)) limits s

-- A survey of the one report of a net with each set of faults.
use Rattle.std.proofs.Common.{◌≡◌, List, length, None, Result, Ok, Err, IfOk}
use Rattle.std.specs.declared.alloc.AllocError.{AllocError}
use Rattle.radio_medium.specs.Medium.{medium_fault}
use Rattle.mote_net.specs.Net.{NetModel}
use Rattle.mote_net.specs.Report.{report_of}
use Rattle.mote_net.specs.declared.report.Report.{Report}
use Rattle.serial_run.specs.FaultRun.{IsReportWith}
use Rattle.serial_run.proofs.Unique.{report_is_one}
use Rattle.survey.specs.Premise.{Runs}
use Rattle.survey.specs.Survey.{IsSurvey}
use Rattle.survey.specs.declared.broken.Survey.{Survey}
use Rattle.survey.specs.declared.search.Limits.{Limits}
use Rattle.radio_faults.specs.declared.fault.Fault.{Fault}
use Rattle.claims.specs.declared.claim.Claim.{Claim}
use Rattle.fault_keys.specs.Laws.{runs_of}
use Rattle.fault_keys.specs.declared.keys.Candidates.{Candidates}
use Rattle.net_survey.specs.Chosen.{faults_at}
use Rattle.net_survey.specs.Judged.{claim_holds}
use Rattle.serial_run.proofs.OneReport.{report_with, report_with_is}
use Rattle.net_survey.specs.NetSurvey.{IsSurveyOf}

module _ (n : NetModel) (fault : medium_fault n.radio ≡ None) (placed : length n.radio.places ≡ length n.motes) where
  report_is : (faults : List Fault) → IsReportWith faults n (report_with faults n)
  report_is faults = report_with_is faults n fault placed

  pub run_is : (faults : List Fault) (r : Result Report AllocError) → IfOk r (λ x. IsReportWith faults n (report_of x))
      → IfOk r (λ x. report_of x ≡ report_with faults n)
  run_is faults (Ok x) is = report_is_one faults n (report_with faults n) (report_of x) (report_is faults) is
  run_is faults (Err e) is = tt

  -- the runs with each set of keys
  abbrev pub net_runs : List Claim → Candidates → Runs
  net_runs claims candidates =
      runs_of candidates.fixed.items candidates.copies.items (λ set. report_with (faults_at candidates set) n) (length claims) (claim_holds claims)

  pub surveyed : (claims : List Claim) (candidates : Candidates) (limits : Limits) (r : Result Survey AllocError)
      → IfOk r (IsSurvey (net_runs claims candidates) limits) → IfOk r (IsSurveyOf n claims candidates limits)
  surveyed claims candidates limits (Ok s) is = record {
    report = λ set. report_with (faults_at candidates set) n;
    reports = λ set. report_is (faults_at candidates set);
    survey = is;
  }
  surveyed claims candidates limits (Err e) is = tt

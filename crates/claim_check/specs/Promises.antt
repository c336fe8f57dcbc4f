-- The promises of the functions that make parts of the answers.
use Rattle.std.specs.Prelude.{◌≡◌, ◌++◌, ℕ, List, Result, Ok, Err, string_bytes}
use Rattle.mote_net.specs.Net.{NetModel}
use Rattle.mote_net.specs.Report.{report_of}
use Rattle.mote_net.specs.declared.report.Report.{Report}
use Rattle.radio_faults.specs.declared.fault.Fault.{Fault}
use Rattle.serial_run.specs.FaultRun.{IsReportWith}
use Rattle.serial_run.specs.declared.error.RunError.{RunError}
use Rattle.simulation.specs.Simulation.{MayRun, RefusesRun, Way}
use Rattle.std.specs.List.{list_all}
use Rattle.mote_net.specs.Report.{ReportModel}
use Rattle.claims.specs.declared.claim.Claim.{Claim}
use Rattle.claims.specs.Claims.{holds_in}
use Rattle.claim_check.specs.Check.{AreAnswers, IsAnswer}
use Rattle.claim_check.specs.Faults.{unused_text}
use Rattle.claim_check.specs.declared.answers.Answers.{Answers}

-- the answer to one claim
abbrev pub AnswersOne : (names : List (List ℕ)) → ReportModel → Claim → Answers → Type 0
AnswersOne names r c a = IsAnswer names r c (string_bytes a.text) × (a.all_hold ≡ holds_in c r)

-- the answers to claims
abbrev pub AnswersAll : (names : List (List ℕ)) → ReportModel → List Claim → Answers → Type 0
AnswersAll names r cs a =
    AreAnswers names r cs (string_bytes a.text) × (a.all_hold ≡ list_all (λ c. holds_in c r) cs)

-- the answers to claims about the report of a run with these faults
pub record AnswersWith (names : List (List ℕ)) (r : ReportModel) (cs : List Claim) (faults : List Fault) (a : Answers)
    : Type 0 where
  pub lines : List ℕ
  pub are : AreAnswers names r cs lines
  pub whole : string_bytes a.text ≡ lines ++ unused_text faults r
  pub verdict : a.all_hold ≡ list_all (λ c. holds_in c r) cs

-- the result of running a net with these faults in this way
abbrev pub RunsWithFaults : Way → NetModel → List Fault → Result Report RunError → Type 0
RunsWithFaults way net faults (Ok report) = MayRun way × IsReportWith faults net (report_of report)
RunsWithFaults way net faults (Err e) = RefusesRun way e

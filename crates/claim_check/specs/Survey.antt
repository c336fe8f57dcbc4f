-- The survey of the faults that the net of a scenario may have.
use Rattle.std.specs.Prelude.{◌≡◌, ◌≤◌, ◌^◌, ◌==◌, ◌&&◌, ◌⊎◌, ℕ, Bool, List, Result, Ok, Err, length, map, string_bytes}
use Rattle.mote_net.specs.Net.{NetModel}
use Rattle.claims.specs.declared.claim.Claim.{Claim}
use Rattle.claim_text.specs.ClaimText.{text_of}
use Rattle.claim_text.specs.ClaimLines.{claim_lines}
use Rattle.net_survey.specs.Candidates.{fixed_faults}
use Rattle.net_survey.specs.declared.candidates.MoteFault.{MoteFault}
use Rattle.radio_faults.specs.declared.fault.Fault.{Fault}
use Rattle.fault_keys.specs.declared.keys.Candidates.{Candidates}
use Rattle.fault_keys.specs.declared.keys.CopyFault.{CopyFault}
use Rattle.survey.specs.declared.broken.Survey.{Survey}
use Rattle.survey.specs.declared.search.Limits.{Limits}
use Rattle.net_survey.specs.NetSurvey.{IsSurveyOf}
use Rattle.net_survey.specs.SurveyText.{is_complete, survey_text}
use Rattle.serial_run.specs.declared.error.RunError.{RunError}
use Rattle.serial_run.specs.declared.error.RunError.TheVariants as run
use Rattle.simulation.specs.Simulation.{IsScenario, MayRun, RefusesText, Way}
use Rattle.simulation.specs.declared.error.SimError.TheVariants as fault
use Rattle.claim_check.specs.Check.{RefusesClaims}
use Rattle.claim_check.specs.Names.{AreNames}
use Rattle.claim_check.specs.declared.answers.Answers.{Answers}
use Rattle.claim_check.specs.declared.error.CheckError.{CheckError}
use Rattle.claim_check.specs.declared.error.CheckError.TheVariants as check
use Rattle.claim_check.specs.declared.plan.Faults.{Faults}

-- the sets of faults that a survey tries: of broken links, if they are chosen, and of these faults of single motes and copies
pub record Plan : Type 0 where
  pub links : Bool
  pub motes : List MoteFault
  pub copies : List CopyFault
  pub at_most : ℕ
  pub runs : ℕ

abbrev pub plan_of : Faults → Plan
plan_of f = record {
  links = f.links;
  motes = f.motes.items;
  copies = f.copies.items;
  at_most = f.at_most;
  runs = f.runs;
}

-- the number of runs at a time plays no part in what is found
abbrev pub limits_of : Plan → Limits
limits_of plan = record { faults = plan.at_most; trials = plan.runs; at_a_time = 2048 }

-- the faults in a net that don't depend on its run
abbrev pub faults_in : Plan → NetModel → List Fault
faults_in plan net = fixed_faults plan.links plan.motes net.radio

-- each set was tried or needed no run, and none breaks a claim
abbrev pub is_settled : Limits → Survey → Bool
is_settled limits s = is_complete limits s && (length s.broken.items == 0)

-- the text of this survey
abbrev pub TellsSurvey :
    (names : List (List ℕ)) → List Claim → Candidates → Limits → Survey → Answers → Type 0
TellsSurvey names claims candidates limits s a =
    (string_bytes a.text ≡ survey_text names claims candidates limits s) × (a.all_hold ≡ is_settled limits s)

-- the text of a survey of this net
pub record AnswersSurvey (plan : Plan) (names : List (List ℕ)) (net : NetModel) (claims : List Claim) (a : Answers)
    : Type 0 where
  pub candidates : Candidates
  pub fixed : candidates.fixed.items ≡ faults_in plan net
  pub copies : candidates.copies.items ≡ plan.copies
  pub found : Survey
  pub survey : IsSurveyOf net claims candidates (limits_of plan) found
  pub tells : TellsSurvey names claims candidates (limits_of plan) found a

-- the text is that of a survey of the scenario's net, with the claims in some lines
pub record Surveyed (plan : Plan) (scenario claims : List ℕ) (a : Answers) : Type 0 where
  pub from : IsScenario scenario
  pub names : List (List ℕ)
  pub named : AreNames from.net names
  pub asked : List Claim
  pub read : map (text_of names) asked ≡ claim_lines claims
  pub survey : AnswersSurvey plan names from.net asked a

-- the only error of the workers: their number isn't allowed
abbrev pub RefusesWorkers : Way → RunError → Type 0
RefusesWorkers way e = (e ≡ run.Workers) × (¬ MayRun way)

-- the net may have too many faults, or a single copy may
abbrev pub TriesTooMuch : Plan → NetModel → Type 0
TriesTooMuch plan net = (2 ^ 16 ≤ length (faults_in plan net)) ⊎ (16 ≤ length plan.copies)

pub record HasTooManyFaults (plan : Plan) (scenario : List ℕ) : Type 0 where
  pub from : IsScenario scenario
  pub many : TriesTooMuch plan from.net

-- Each result of a survey and its cause. An allocation may fail for any scenario and claims.
abbrev pub Surveys : Way → Plan → (scenario claims : List ℕ) → Result Answers CheckError → Type 0
Surveys way plan s c (Ok a) = MayRun way × Surveyed plan s c a
Surveys way plan s c (Err (check.Simulation (fault.Scenario e))) = RefusesText s e
Surveys way plan s c (Err (check.Simulation (fault.Run e))) = IsScenario s × RefusesWorkers way e
Surveys way plan s c (Err (check.Simulation fault.Memory)) = Unit {0}
Surveys way plan s c (Err (check.Claims e)) = RefusesClaims s c e
Surveys way plan s c (Err check.TooManyClaims) = IsScenario s × (2 ^ 16 ≤ length (claim_lines c))
Surveys way plan s c (Err check.TooManyFaults) = HasTooManyFaults plan s
Surveys way plan s c (Err e) = ⊥

-- The promises of the functions that survey a net.
use Rattle.std.specs.Prelude.{◌≤◌, ◌^◌, ℕ, List, Result, Ok, Err, length}
use Rattle.mote_net.specs.Net.{NetModel}
use Rattle.claims.specs.declared.claim.Claim.{Claim}
use Rattle.simulation.specs.Simulation.{MayRun, Way}
use Rattle.simulation.specs.declared.error.SimError.TheVariants as fault
use Rattle.claim_check.specs.Survey.{AnswersSurvey, Plan, RefusesWorkers, TriesTooMuch}
use Rattle.claim_check.specs.declared.answers.Answers.{Answers}
use Rattle.claim_check.specs.declared.error.CheckError.{CheckError}
use Rattle.claim_check.specs.declared.error.CheckError.TheVariants as check

-- a survey of a net with these claims has to try too much, or an allocation failed
abbrev pub RefusesFaults : Plan → NetModel → List Claim → CheckError → Type 0
RefusesFaults plan net cs check.TooManyClaims = 2 ^ 16 ≤ length cs
RefusesFaults plan net cs check.TooManyFaults = TriesTooMuch plan net
RefusesFaults plan net cs (check.Simulation fault.Memory) = Unit {0}
RefusesFaults plan net cs e = ⊥

-- Each result of the survey of a net and its cause. An allocation may fail for any net and claims.
abbrev pub SurveysNet :
    Way → Plan → (names : List (List ℕ)) → NetModel → List Claim → Result Answers CheckError → Type 0
SurveysNet way plan names net cs (Ok a) = MayRun way × AnswersSurvey plan names net cs a
SurveysNet way plan names net cs (Err (check.Simulation (fault.Run e))) = RefusesWorkers way e
SurveysNet way plan names net cs (Err e) = RefusesFaults plan net cs e

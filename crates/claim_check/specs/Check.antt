-- The answers to claims about the report of a scenario.
use Rattle.std.specs.Prelude.{◌≡◌, ◌⊎◌, ℕ, List, [], ◌∷◌, ◌++◌, Bool, true, false, codes, map, Option, Result, Ok, Err, string_bytes}
use Rattle.std.specs.List.{list_all}
use Rattle.mote_net.specs.Report.{ReportModel}
use Rattle.radio_faults.specs.declared.fault.Fault.{Fault}
use Rattle.serial_run.specs.FaultRun.{IsReportWith}
use Rattle.std.specs.Io.KnownBytes.{Appends, Keeps}
use Rattle.trace_printer.specs.Output.{AppendsFront}
use Rattle.trace_printer.specs.ReportText.{report_text}
use Rattle.claim_check.specs.Faults.{AreFaultsOf, RefusesFaultsOf, unused_text}
use Rattle.claims.specs.declared.claim.Claim.{Claim}
use Rattle.claims.specs.Claims.{holds_in}
use Rattle.claims.specs.declared.witness.Break.{Break}
use Rattle.claims.specs.Shows.{Shows}
use Rattle.claim_text.specs.BreakText.{break_text}
use Rattle.claim_text.specs.ClaimText.{text_of}
use Rattle.claim_text.specs.ClaimLines.{claim_lines, Refuses}
use Rattle.claim_text.specs.declared.error.ClaimsError.{ClaimsError}
use Rattle.simulation.specs.Simulation.{IsScenario, MayRun, RefusesRun, RefusesText, Way}
use Rattle.simulation.specs.declared.error.SimError.TheVariants as fault
use Rattle.claim_check.specs.Names.{AreNames}
use Rattle.claim_check.specs.declared.answers.Answers.{Answers}
use Rattle.claim_check.specs.declared.error.CheckError.{CheckError}
use Rattle.claim_check.specs.declared.error.CheckError.TheVariants as check

abbrev pub holds_line : (names : List (List ℕ)) → Claim → List ℕ
holds_line names c = codes "holds: " ++ text_of names c ++ codes "\n"

abbrev pub broken_line : (names : List (List ℕ)) → Claim → Break → List ℕ
broken_line names c b = codes "broken: " ++ text_of names c ++ codes " -- " ++ break_text names c b ++ codes "\n"

-- the claim holds in the report; or it doesn't, and the break shows why
abbrev pub IsAnswer : (names : List (List ℕ)) → ReportModel → Claim → (line : List ℕ) → Type 0
IsAnswer names r c line = ((holds_in c r ≡ true) × (line ≡ holds_line names c))
    ⊎ ((holds_in c r ≡ false) × ((b : Break) × Shows c r b × (line ≡ broken_line names c b)))

-- an answer to each claim, in order
abbrev pub AreAnswers : (names : List (List ℕ)) → ReportModel → List Claim → (text : List ℕ) → Type 0
AreAnswers names r [] text = text ≡ []
AreAnswers names r (c ∷ cs) text =
    (line : List ℕ) × (rest : List ℕ) × IsAnswer names r c line × AreAnswers names r cs rest × (text ≡ line ++ rest)

-- the text answers the claims in some lines about the report of the scenario with the faults in a text, says which of
-- these faults name no copy in it, and whether all claims hold
pub record Answered (scenario claims faults text : List ℕ) (all_hold : Bool) : Type 0 where
  pub from : IsScenario scenario
  pub chosen : List Fault
  pub are_faults : AreFaultsOf from.net faults chosen
  pub report : ReportModel
  pub run : IsReportWith chosen from.net report
  pub names : List (List ℕ)
  pub named : AreNames from.net names
  pub asked : List Claim
  pub read : map (text_of names) asked ≡ claim_lines claims
  pub lines : List ℕ
  pub answers : AreAnswers names report asked lines
  pub whole : text ≡ lines ++ unused_text chosen report
  pub verdict : all_hold ≡ list_all (λ c. holds_in c report) asked

-- the claims, with the names of the scenario's net, have this error
pub record RefusesClaims (scenario claims : List ℕ) (e : ClaimsError) : Type 0 where
  pub from : IsScenario scenario
  pub names : List (List ℕ)
  pub named : AreNames from.net names
  pub refused : Refuses names claims e

-- the faults in a text, of the scenario's net, have this error
pub record RefusesFaults (scenario faults : List ℕ) (e : CheckError) : Type 0 where
  pub from : IsScenario scenario
  pub refused : RefusesFaultsOf from.net faults e

-- The reasons why there is no run of the scenario with these faults. An allocation or a thread may fail for any of them.
abbrev pub LacksRun : Way → (scenario faults : List ℕ) → CheckError → Type 0
LacksRun way s f (check.Simulation (fault.Scenario e)) = RefusesText s e
LacksRun way s f (check.Simulation (fault.Run e)) = IsScenario s × RefusesRun way e
LacksRun way s f (check.Simulation fault.Memory) = Unit {0}
LacksRun way s f (check.Faults e) = RefusesFaults s f (check.Faults e)
LacksRun way s f (check.NotInNet number) = RefusesFaults s f (check.NotInNet number)
LacksRun way s f e = ⊥

-- each result of a check and its cause, on one thread or with workers
abbrev pub Checks : Way → (scenario claims faults : List ℕ) → Result Answers CheckError → Type 0
Checks way s c f (Ok a) = MayRun way × Answered s c f (string_bytes a.text) a.all_hold
Checks way s c f (Err (check.Claims e)) = RefusesClaims s c e
Checks way s c f (Err e) = LacksRun way s f e

-- the report of the scenario with these faults, whose text is written as `written` says
pub record Reported (scenario faults : List ℕ) (written : List ℕ → Type 0) : Type 0 where
  pub from : IsScenario scenario
  pub chosen : List Fault
  pub are_faults : AreFaultsOf from.net faults chosen
  pub report : ReportModel
  pub run : IsReportWith chosen from.net report
  pub got : written (report_text from.net report)

-- each result of writing a report and its cause, on one thread or with workers
abbrev pub Reports : Way → (scenario faults : List ℕ) → (old new : Option (List ℕ)) → Result Bool CheckError → Type 0
Reports way s f old new (Ok all_hold) = (all_hold ≡ true) × MayRun way × Reported s f (Appends old new)
Reports way s f old new (Err (check.Print e)) = MayRun way × Reported s f (AppendsFront old new)
Reports way s f old new (Err e) = LacksRun way s f e × Keeps old new

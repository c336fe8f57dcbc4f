-- Results of a survey.
use Rattle.std.proofs.Common.{◌≡◌, ◌≤◌, ◌^◌, ℕ, List, Result, Ok, Err, length, map, ◌∙◌, ap, subst, sym}
use Rattle.std.proofs.lemmas.List.{length-map}
use Rattle.mote_net.specs.Net.{NetModel}
use Rattle.claims.specs.declared.claim.Claim.{Claim}
use Rattle.claim_text.specs.ClaimText.{text_of}
use Rattle.claim_text.specs.ClaimLines.{claim_lines}
use Rattle.net_scenario.specs.Reading.{TellsNet}
use Rattle.simulation.specs.Input.{IsText}
use Rattle.simulation.specs.Simulation.{Way}
use Rattle.simulation.specs.declared.error.SimError.{SimError}
use Rattle.simulation.specs.declared.error.SimError.TheVariants as fault
use Rattle.simulation.proofs.Printed.{scenario_of}
use Rattle.claim_check.specs.Names.{AreNames}
use Rattle.claim_check.specs.NetSurveys.{RefusesFaults, SurveysNet}
use Rattle.claim_check.specs.Survey.{AnswersSurvey, HasTooManyFaults, Plan, Surveyed, Surveys, TriesTooMuch}
use Rattle.claim_check.specs.declared.answers.Answers.{Answers}
use Rattle.claim_check.specs.declared.error.CheckError.{CheckError}
use Rattle.claim_check.specs.declared.error.CheckError.TheVariants as check

pub surveyed : (plan : Plan) (s c : List ℕ) (a : Answers) (net : NetModel) (names : List (List ℕ)) (cs : List Claim) → IsText s → TellsNet s net → AreNames net names
    → map (text_of names) cs ≡ claim_lines c → AnswersSurvey plan names net cs a → Surveyed plan s c a
surveyed plan s c a net names cs is_text tells named read survey =
    record { from = scenario_of s net is_text tells; names = names; named = named; asked = cs; read = read; survey = survey }

pub too_many_faults : (plan : Plan) (s : List ℕ) (net : NetModel) → IsText s → TellsNet s net → TriesTooMuch plan net → HasTooManyFaults plan s
too_many_faults plan s net is_text tells many = record { from = scenario_of s net is_text tells; many = many }

-- so many claims were read from so many lines
many_lines : (names : List (List ℕ)) (cs : List Claim) (c : List ℕ) → map (text_of names) cs ≡ claim_lines c → 2 ^ 16 ≤ length cs → 2 ^ 16 ≤ length (claim_lines c)
many_lines names cs c read many = subst (λ n. 2 ^ 16 ≤ n) (sym (length-map cs (text_of names)) ∙ ap length read) many

-- a net whose faults are refused has no survey
module _ (way : Way) (plan : Plan) (names : List (List ℕ)) (net : NetModel) (cs : List Claim) where
  by_memory : (e : SimError) → RefusesFaults plan net cs (check.Simulation e) → SurveysNet way plan names net cs (Err (check.Simulation e))
  by_memory fault.Memory h = tt
  by_memory e h = absurd h

  pub not_tried : (e : CheckError) → RefusesFaults plan net cs e → SurveysNet way plan names net cs (Err e)
  not_tried (check.Simulation e) h = by_memory e h
  not_tried check.TooManyClaims h = h
  not_tried check.TooManyFaults h = h
  not_tried e h = absurd h

-- the survey of a scenario's net is one of the scenario
module _ (way : Way) (plan : Plan) (s c : List ℕ) (names : List (List ℕ)) (net : NetModel) (cs : List Claim) (is_text : IsText s) (tells : TellsNet s net) (named : AreNames net names)
    (read : map (text_of names) cs ≡ claim_lines c) where
  by_fault : (e : SimError) → SurveysNet way plan names net cs (Err (check.Simulation e)) → Surveys way plan s c (Err (check.Simulation e))
  by_fault (fault.Run e) h = (scenario_of s net is_text tells, h)
  by_fault fault.Memory h = tt
  by_fault e h = absurd h

  pub surveys : (r : Result Answers CheckError) → SurveysNet way plan names net cs r → Surveys way plan s c r
  surveys (Ok a) h = (h.0, surveyed plan s c a net names cs is_text tells named read h.1)
  surveys (Err (check.Simulation e)) h = by_fault e h
  surveys (Err check.TooManyClaims) h = (scenario_of s net is_text tells, many_lines names cs c read h)
  surveys (Err check.TooManyFaults) h = too_many_faults plan s net is_text tells h
  surveys (Err e) h = absurd h

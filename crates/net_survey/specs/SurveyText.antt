-- The text of surveys.
use Rattle.std.specs.Prelude.{ℕ, ◌+◌, ◌-◌, ◌==◌, nat_lt, Bool, if◌then◌else◌, List, [], ◌∷◌, ◌++◌, codes, decimal, length}
use Rattle.std.specs.List.{flat_map, list_any}
use Rattle.claims.specs.declared.claim.Claim.{Claim}
use Rattle.claim_text.specs.ClaimText.{text_of}
use Rattle.radio_faults.specs.FaultText.{fault_text}
use Rattle.radio_faults.specs.declared.fault.Fault.{Fault}
use Rattle.fault_keys.specs.declared.keys.Candidates.{Candidates}
use Rattle.net_survey.specs.Chosen.{faults_at}
use Rattle.survey.specs.declared.broken.Broken.{Broken}
use Rattle.survey.specs.declared.broken.Survey.{Survey}
use Rattle.survey.specs.declared.search.Limits.{Limits}

abbrev pub next_fault : Fault → List ℕ
next_fault f = codes " and " ++ fault_text f

abbrev pub set_text : List Fault → List ℕ
set_text [] = codes "nothing is broken"
set_text (f ∷ fs) = fault_text f ++ flat_map next_fault fs

-- a set is listed for the claim with this number
abbrev pub is_broken : List Broken → (number : ℕ) → Bool
is_broken broken number = list_any (λ b. b.claim == number) broken

-- the survey came to its end: it covers all sets that it may
abbrev pub is_complete : Limits → Survey → Bool
is_complete limits s = nat_lt limits.faults s.sizes

-- a survey that stopped says of no claim that it holds
abbrev pub verdict_text : (is_complete is_broken : Bool) → List ℕ
verdict_text is_complete is_broken =
    if is_broken then codes "broken: " else if is_complete then codes "holds: " else codes "not broken so far: "

-- the line of a set that is listed for the claim with this number
abbrev pub break_line : Candidates → (number : ℕ) → Broken → List ℕ
break_line candidates number b =
    if b.claim == number then codes "  if " ++ (set_text (faults_at candidates b.faults.items) ++ codes "\n") else []

-- the claim with this number
abbrev pub claim_text : (names : List (List ℕ)) → Candidates → (is_complete : Bool) → List Broken → (number : ℕ) → Claim
    → List ℕ
claim_text names candidates is_complete broken number c =
    verdict_text is_complete (is_broken broken number)
    ++ (text_of names c ++ (codes "\n" ++ flat_map (break_line candidates number) broken))

-- these claims, of which the first has this number
abbrev pub claims_text : (names : List (List ℕ)) → Candidates → (is_complete : Bool) → List Broken → (number : ℕ)
    → List Claim → List ℕ
claims_text names candidates is_complete broken number [] = []
claims_text names candidates is_complete broken number (c ∷ cs) =
    claim_text names candidates is_complete broken number c
    ++ claims_text names candidates is_complete broken (number + 1) cs

-- how many faults come into question, unless that depends on the run
abbrev pub faults_text : Candidates → List ℕ
faults_text candidates =
    if length candidates.copies.items == 0 then codes " of " ++ (decimal (length candidates.fixed.items) ++ codes " faults") else codes " faults"

abbrev pub most_text : ℕ → List ℕ
most_text most = codes "all sets of at most " ++ decimal most

-- the sets that are covered: all of fewer faults than this number
abbrev pub sets_text : Candidates → (sizes : ℕ) → List ℕ
sets_text candidates sizes =
    if nat_lt 0 sizes then most_text (sizes - 1) ++ faults_text candidates else codes "nothing"

-- the survey stopped at the limit of runs
abbrev pub limit_text : (is_complete : Bool) → List ℕ
limit_text is_complete = if is_complete then [] else codes " before the limit"

abbrev pub runs_text : ℕ → List ℕ
runs_text runs = codes "; runs: " ++ decimal runs ++ codes "\n"

abbrev pub covered_text : Candidates → (is_complete : Bool) → (sizes runs : ℕ) → List ℕ
covered_text candidates is_complete sizes runs =
    codes "covered: " ++ (sets_text candidates sizes ++ (limit_text is_complete ++ runs_text runs))

abbrev pub survey_text : (names : List (List ℕ)) → List Claim → Candidates → Limits → Survey → List ℕ
survey_text names claims candidates limits s =
    claims_text names candidates (is_complete limits s) s.broken.items 0 claims
    ++ covered_text candidates (is_complete limits s) s.sizes s.trials

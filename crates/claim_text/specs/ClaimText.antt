-- The text of claims.
use Rattle.std.specs.Prelude.{ℕ, ◌==◌, if◌then◌else◌, None, List, [], ◌∷◌, ◌++◌}
use Rattle.std.specs.Prelude.{codes, length, map}
use Rattle.claims.specs.declared.limits.Limits.{Limits}
use Rattle.claims.specs.declared.claim.Case.{Case}
use Rattle.claims.specs.declared.claim.Claim.{Claim}
use Rattle.claim_text.specs.Numbers.{is_all, limits_text}
use Rattle.claim_text.specs.Subject.{mote_of_tests}
use Rattle.claim_text.specs.TestText.{tests_text}
use Rattle.claim_text.specs.Groups.{Entry, groups_in, entries_text}

-- a case: its mote, if it has one, and the text of its tests
abbrev pub entry_of : (names : List (List ℕ)) → Case → Entry
entry_of names c = (let mote = mote_of_tests c.tests.items in
    record { mote = mote; body = codes ": " ++ tests_text names mote c.tests.items })

-- `each of `, for all of several cases; nothing, for the only case; or the limits
abbrev pub quantity_text : Limits → (number : ℕ) → List ℕ
quantity_text l n =
    if is_all l n then (if n == 1 then [] else codes "each of ") else limits_text l ++ codes " of "

-- a word in front of several groups
abbrev pub these_text : List Entry → List ℕ
these_text es = if groups_in None es == 1 then [] else codes "these: "

abbrev pub cases_text : List Entry → List ℕ
cases_text [] = codes "no cases"
cases_text (e ∷ es) = entries_text (codes "; ") [] None (e ∷ es)

-- The text of a claim: how many of the cases hold, and the cases in groups.
abbrev pub text_of : (names : List (List ℕ)) → Claim → List ℕ
text_of names c = (let entries = map (entry_of names) c.cases.items in
    quantity_text c.limits (length c.cases.items) ++ (these_text entries ++ cases_text entries))

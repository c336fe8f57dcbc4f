-- The text of breaks.
use Rattle.std.specs.Prelude.{ℕ, ◌+◌, Option, Some, None, List, [], ◌++◌, codes, decimal, map, slice_get}
use Rattle.claims.specs.declared.trace.Found.{Found}
use Rattle.claims.specs.declared.claim.Test.{Test}
use Rattle.claims.specs.declared.claim.Case.{Case}
use Rattle.claims.specs.declared.claim.Claim.{Claim}
use Rattle.claims.specs.declared.difference.Difference.{Difference}
use Rattle.claims.specs.declared.witness.BrokenTest.{BrokenTest}
use Rattle.claims.specs.declared.witness.Break.{Break}
use Rattle.claims.specs.declared.witness.Break.TheVariants.{Missing, Spare, Fewer}
use Rattle.claim_text.specs.Lists.{list_text}
use Rattle.claim_text.specs.Subject.{mote_of_tests}
use Rattle.claim_text.specs.TestText.{test_text, tests_text}

-- the number of a line in the trace of its mote, from 1, and its moment
abbrev pub place_text : Found → List ℕ
place_text f =
    codes "; line " ++ (decimal (f.place + 1) ++ (codes " of mote " ++ (decimal f.mote
    ++ (codes ", at " ++ decimal f.line.at))))

abbrev pub beyond_text : Option Found → List ℕ
beyond_text None = []
beyond_text (Some f) = place_text f ++ codes ", is one too many"

abbrev pub with_text : Option Found → List ℕ
with_text None = []
with_text (Some f) = place_text f

abbrev pub subject_of : (own : Option ℕ) → List ℕ
subject_of None = codes "the net: "
subject_of (Some mote) = codes "mote " ++ (decimal mote ++ codes ": ")

abbrev pub test_at : (names : List (List ℕ)) → (own : Option ℕ) → Option Test → List ℕ
test_at names own None = codes "no such test"
test_at names own (Some t) = test_text names own t

-- values behind a label, if there are any
abbrev pub labelled : (label : List ℕ) → List ℕ → List ℕ
labelled label vs = list_text [] label (codes ", ") (map decimal vs)

abbrev pub difference_text : Difference → List ℕ
difference_text d = labelled (codes "; missing: ") d.missing.items ++ labelled (codes "; superfluous: ") d.superfluous.items

abbrev pub missing_test : (names : List (List ℕ)) → (own : Option ℕ) → Option Test → BrokenTest → List ℕ
missing_test names own test b =
    codes "not for " ++ (subject_of own ++ (test_at names own test ++ (beyond_text b.line ++ difference_text b.difference)))

-- the test of the case that doesn't hold, the first line too many, and the missing and the superfluous values
abbrev pub missing_text : (names : List (List ℕ)) → Case → BrokenTest → List ℕ
missing_text names k b = missing_test names (mote_of_tests k.tests.items) (slice_get k.tests.items b.test) b

abbrev pub spare_case : (names : List (List ℕ)) → (own : Option ℕ) → Case → Option Found → List ℕ
spare_case names own k line =
    codes "also for " ++ (subject_of own ++ (tests_text names own k.tests.items ++ with_text line))

-- a case too many, and the line with which its first test is met
abbrev pub spare_text : (names : List (List ℕ)) → Case → Option Found → List ℕ
spare_text names k line = spare_case names (mote_of_tests k.tests.items) k line

abbrev pub missing_at : (names : List (List ℕ)) → Option Case → BrokenTest → List ℕ
missing_at names None b = codes "no such case"
missing_at names (Some k) b = missing_text names k b

abbrev pub spare_at : (names : List (List ℕ)) → Option Case → Option Found → List ℕ
spare_at names None line = codes "no such case"
spare_at names (Some k) line = spare_text names k line

abbrev pub break_text : (names : List (List ℕ)) → Claim → Break → List ℕ
break_text names c (Missing w) = missing_at names (slice_get c.cases.items w.case) w.broken
break_text names c (Spare s) = spare_at names (slice_get c.cases.items s.case) s.line
break_text names c Fewer = codes "it wants more cases than it has"

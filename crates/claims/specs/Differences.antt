-- The values that are missing, and those that are superfluous.
use Rattle.std.specs.Prelude.{ℕ, Bool, false, ◌==◌, nat_le, nat_lt, if◌then◌else◌, Option, Some, None, List, [], ◌∷◌, filter, count_by}
use Rattle.std.specs.List.{flat_map}
use Rattle.mote_net.specs.Report.{ReportModel}
use Rattle.claims.specs.declared.limits.Limits.{Limits}
use Rattle.claims.specs.declared.trace.Found.{Found}
use Rattle.claims.specs.declared.compared.Way.{Way}
use Rattle.claims.specs.declared.compared.Way.TheVariants.{Last, InTime, AnyOrder, Each}
use Rattle.claims.specs.declared.claim.Test.{Test}
use Rattle.claims.specs.declared.claim.Test.TheVariants as test
use Rattle.claims.specs.Traces.{lines_of}
use Rattle.claims.specs.Values.{value_of, is_last}

abbrev pub if_value : Option ℕ → List ℕ
if_value None = []
if_value (Some v) = v ∷ []

-- the values of lines that have one
abbrev pub values_of : List Found → List ℕ
values_of ls = flat_map (λ f. if_value (value_of f)) ls

-- the values of the last lines
abbrev pub last_values : List Found → List ℕ
last_values ls = values_of (filter (is_last ls) ls)

-- how often a list has a number
abbrev pub times : ℕ → List ℕ → ℕ
times x xs = count_by (λ y. y == x) xs

-- the numbers of a list without those of another one, each as often as that one has it
abbrev pub beyond : List ℕ → (others : List ℕ) → List ℕ
beyond [] others = []
beyond (x ∷ xs) others = if nat_le (times x others) (times x xs) then x ∷ beyond xs others else beyond xs others

-- the numbers of a list, each once
abbrev pub once : List ℕ → List ℕ
once [] = []
once (x ∷ xs) = if times x xs == 0 then x ∷ once xs else once xs

-- a list has a number less often than the limits want, or more often
abbrev pub is_too_few : Limits → List ℕ → ℕ → Bool
is_too_few limits xs x = nat_lt (times x xs) limits.least

abbrev pub is_above : (most : Option ℕ) → ℕ → Bool
is_above None n = false
is_above (Some most) n = nat_lt most n

abbrev pub is_too_many : Limits → List ℕ → ℕ → Bool
is_too_many limits xs x = is_above limits.most (times x xs)

-- What some lines lack of the values of others; and for `Each`, their values that the others have too seldom.
abbrev pub missing_by : Way → (own others : List Found) → List ℕ
missing_by Last own others = beyond (last_values others) (last_values own)
missing_by InTime own others = beyond (values_of others) (values_of own)
missing_by AnyOrder own others = beyond (values_of others) (values_of own)
missing_by (Each limits) own others = once (filter (is_too_few limits (values_of others)) (values_of own))

-- What some lines have beyond the values of others; and for `Each`, their values that the others have too often.
abbrev pub superfluous_by : Way → (own others : List Found) → List ℕ
superfluous_by Last own others = beyond (last_values own) (last_values others)
superfluous_by InTime own others = beyond (values_of own) (values_of others)
superfluous_by AnyOrder own others = beyond (values_of own) (values_of others)
superfluous_by (Each limits) own others = once (filter (is_too_many limits (values_of others)) (values_of own))

abbrev pub missing_values : Test → ReportModel → List ℕ
missing_values (test.AnyOrder d vs) r = beyond vs.items (values_of (lines_of r d))
missing_values (test.Compared c) r = missing_by c.way (lines_of r c.deed) (lines_of r c.other)
missing_values t r = []

abbrev pub superfluous_values : Test → ReportModel → List ℕ
superfluous_values (test.AnyOrder d vs) r = beyond (values_of (lines_of r d)) vs.items
superfluous_values (test.Compared c) r = superfluous_by c.way (lines_of r c.deed) (lines_of r c.other)
superfluous_values t r = []

-- The values of two deeds, compared.
use Rattle.std.specs.Prelude.{ℕ, Bool, ◌&&◌, ◌==◌, Option, Some, None, is_none, List, length, count_by}
use Rattle.std.specs.List.{list_all, list_any}
use Rattle.mote_net.specs.Report.{ReportModel}
use Rattle.claims.specs.declared.trace.Found.{Found}
use Rattle.claims.specs.declared.compared.Way.{Way}
use Rattle.claims.specs.declared.compared.Way.TheVariants.{Last, InTime, AnyOrder, Each}
use Rattle.claims.specs.declared.compared.Comparison.{Comparison}
use Rattle.claims.specs.Limits.{is_within}
use Rattle.claims.specs.Sets.{is_this}
use Rattle.claims.specs.Traces.{lines_of}
use Rattle.claims.specs.Values.{value_of, is_earlier, is_last}

-- there is no value twice, or the same one
abbrev pub is_same : Option ℕ → Option ℕ → Bool
is_same None b = is_none b
is_same (Some a) b = is_this a b

-- both lines have this value, or neither has one
abbrev pub has_same_value : Found → Found → Bool
has_same_value a b = is_same (value_of a) (value_of b)

-- how many of the lines have the value of this one
abbrev pub often : List Found → Found → ℕ
often ls f = count_by (has_same_value f) ls

-- how many of the lines are earlier than this one
abbrev pub rank : List Found → Found → ℕ
rank ls f = count_by (λ e. is_earlier e f) ls

-- What a line of the first deed, with the lines `own`, has to be: the last one, with the value of the last line of `others`; at
-- a place in time where `others` has its value; with a value that is as often in `others`; or with one that is so often there.
abbrev pub meets : Way → (own others : List Found) → Found → Bool
meets Last own others a = is_last own a && list_any (λ b. has_same_value a b && is_last others b) others
meets InTime own others a = list_any (λ b. has_same_value a b && (rank others b == rank own a)) others
meets AnyOrder own others a = often own a == often others a
meets (Each limits) own others a = is_within limits (often others a)

-- Some line meets this, if it is about the last lines. Otherwise each line does; and if the lines have the same values, in
-- time or in any order, there are as many of them.
abbrev pub are_compared : Way → (own others : List Found) → Bool
are_compared Last own others = list_any (meets Last own others) own
are_compared InTime own others = (length own == length others) && list_all (meets InTime own others) own
are_compared AnyOrder own others = (length own == length others) && list_all (meets AnyOrder own others) own
are_compared (Each limits) own others = list_all (meets (Each limits) own others) own

abbrev pub is_compared : Comparison → ReportModel → Bool
is_compared c r = are_compared c.way (lines_of r c.deed) (lines_of r c.other)

-- Claims.
use Rattle.std.specs.Prelude.{ℕ, Bool, count_by}
use Rattle.std.specs.List.{list_all}
use Rattle.mote_net.specs.Report.{ReportModel}
use Rattle.claims.specs.declared.claim.Test.{Test}
use Rattle.claims.specs.declared.claim.Test.TheVariants.{Count, Ratio, Values, AnyOrder, Last, Compared}
use Rattle.claims.specs.declared.claim.Case.{Case}
use Rattle.claims.specs.declared.claim.Claim.{Claim}
use Rattle.claims.specs.Limits.{is_within}
use Rattle.claims.specs.Counts.{number_of}
use Rattle.claims.specs.Ratios.{is_in_ratio}
use Rattle.claims.specs.Traces.{lines_of}
use Rattle.claims.specs.Values.{have_values, have_in_any_order, last_has}
use Rattle.claims.specs.Compared.{is_compared}

abbrev pub test_holds : Test → ReportModel → Bool
test_holds (Count count limits) r = is_within limits (number_of count r)
test_holds (Ratio ratio) r = is_in_ratio ratio r
test_holds (Values deed sets) r = have_values sets.items (lines_of r deed)
test_holds (AnyOrder deed values) r = have_in_any_order values.items (lines_of r deed)
test_holds (Last deed set) r = last_has set (lines_of r deed)
test_holds (Compared comparison) r = is_compared comparison r

-- a case holds if all its tests hold
abbrev pub case_holds : Case → ReportModel → Bool
case_holds c r = list_all (λ t. test_holds t r) c.tests.items

-- how many cases of a claim hold
abbrev pub holding_in : Claim → ReportModel → ℕ
holding_in c r = count_by (λ k. case_holds k r) c.cases.items

-- a claim holds if the number of its cases that hold is within its limits
abbrev pub holds_in : Claim → ReportModel → Bool
holds_in c r = is_within c.limits (holding_in c r)

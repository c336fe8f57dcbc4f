-- What shows that a report breaks a claim.
use Rattle.std.specs.Prelude.{◌≡◌, ◌<◌, ◌≤◌, true, false, Some, length, take, slice_get, count_by}
use Rattle.std.specs.List.{list_all}
use Rattle.mote_net.specs.Report.{ReportModel}
use Rattle.claims.specs.declared.claim.Test.{Test}
use Rattle.claims.specs.declared.claim.Case.{Case}
use Rattle.claims.specs.declared.claim.Claim.{Claim}
use Rattle.claims.specs.Claims.{test_holds, case_holds, holding_in}
use Rattle.claims.specs.declared.witness.BrokenTest.{BrokenTest}
use Rattle.claims.specs.declared.witness.Witness.{Witness}
use Rattle.claims.specs.declared.witness.Spare.{Spare}
use Rattle.claims.specs.declared.witness.Break.{Break}
use Rattle.claims.specs.declared.witness.Break.TheVariants as break
use Rattle.claims.specs.Witnesses.{spare_line, shown_in}
use Rattle.claims.specs.Differences.{missing_values, superfluous_values}

-- the first test of the case that doesn't hold, the first line too many, and the missing and the superfluous values
pub record ShowsTest (k : Case) (r : ReportModel) (b : BrokenTest) : Type 0 where
  pub test : Test
  pub there : slice_get k.tests.items b.test ≡ Some test
  pub before : list_all (λ t. test_holds t r) (take b.test k.tests.items) ≡ true
  pub fails : test_holds test r ≡ false
  pub line : b.line ≡ spare_line test r
  pub missing : b.difference.missing.items ≡ missing_values test r
  pub superfluous : b.difference.superfluous.items ≡ superfluous_values test r

-- the first case of the claim that doesn't hold
pub record ShowsMissing (c : Claim) (r : ReportModel) (w : Witness) : Type 0 where
  pub case : Case
  pub there : slice_get c.cases.items w.case ≡ Some case
  pub before : list_all (λ k. case_holds k r) (take w.case c.cases.items) ≡ true
  pub shown : ShowsTest case r w.broken

-- the case of the claim that holds after as many others as the claim allows; the line with which its first test is met
pub record ShowsSpare (c : Claim) (r : ReportModel) (s : Spare) : Type 0 where
  pub case : Case
  pub there : slice_get c.cases.items s.case ≡ Some case
  pub before : c.limits.most ≡ Some (count_by (λ k. case_holds k r) (take s.case c.cases.items))
  pub holds : case_holds case r ≡ true
  pub line : s.line ≡ shown_in r case.tests.items

-- Too few cases hold, and this is the first one that doesn't; enough hold, and this is the first one too many; or all
-- hold, and the claim wants more cases than it has.
abbrev pub Shows : Claim → ReportModel → Break → Type 0
Shows c r (break.Missing w) = (holding_in c r < c.limits.least) × ShowsMissing c r w
Shows c r (break.Spare s) = (c.limits.least ≤ holding_in c r) × ShowsSpare c r s
Shows c r break.Fewer = (list_all (λ k. case_holds k r) c.cases.items ≡ true) × (length c.cases.items < c.limits.least)

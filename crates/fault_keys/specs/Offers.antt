-- The faults that the runs of a net offer to a survey.
use Rattle.std.specs.Prelude.{◌≡◌, ℕ, ◌<◌, Bool, true, List, map}
use Rattle.std.specs.List.{Contains}
use Rattle.radio_faults.specs.declared.fault.Fault.{Fault}
use Rattle.mote_net.specs.Net.{NetModel}
use Rattle.mote_net.specs.Report.{ReportModel}
use Rattle.serial_run.specs.FaultRun.{IsReportWith}
use Rattle.serial_run.specs.FaultLaws.{may_change}
use Rattle.survey.specs.FaultSet.{IsOnce}
use Rattle.survey.specs.Premise.{Runs, OffersAll}

-- the fault of this key isn't in the set F, and may change the run with F
pub record IsOffered (bound : ℕ) (fault_of : ℕ → Fault) (report : List ℕ → ReportModel) (F : List ℕ) (k : ℕ) : Type 0 where
  pub below : k < bound
  pub fresh : Contains F k → ⊥
  pub felt : may_change (fault_of k) (report F) ≡ true

-- the runs of a net with sets of faults, for which keys stand, and a question about each report; a run offers exactly the
-- faults that may change it
pub record AreRunsOf (net : NetModel) (fault_of : ℕ → Fault) (report : List ℕ → ReportModel) (claim : ReportModel → ℕ → Bool)
    (runs : Runs) : Type 0 where
  pub reports : (F : List ℕ) → IsReportWith (map fault_of F) net (report F)
  pub holds : (F : List ℕ) (c : ℕ) → runs.holds F c ≡ claim (report F) c
  pub offered : (F : List ℕ) (k : ℕ) → Contains (runs.offers F) k → IsOffered runs.bound fault_of report F k
  pub all_offered : (F : List ℕ) (k : ℕ) → IsOffered runs.bound fault_of report F k → Contains (runs.offers F) k
  pub once : (F : List ℕ) → IsOnce (runs.offers F)

-- such runs are what a survey rests on
abbrev pub NetsOfferAll : Type 0
NetsOfferAll = (net : NetModel) (fault_of : ℕ → Fault) (report : List ℕ → ReportModel) (claim : ReportModel → ℕ → Bool)
    (runs : Runs) → AreRunsOf net fault_of report claim runs → OffersAll runs

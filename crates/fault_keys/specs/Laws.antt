-- The law of surveys of nets, with keys for faults.
use Rattle.std.specs.Prelude.{ℕ, Bool, List, map}
use Rattle.radio_faults.specs.declared.fault.Fault.{Fault}
use Rattle.mote_net.specs.Net.{NetModel}
use Rattle.mote_net.specs.Report.{ReportModel}
use Rattle.serial_run.specs.FaultRun.{IsReportWith}
use Rattle.survey.specs.Premise.{Runs, OffersAll}
use Rattle.fault_keys.specs.Keys.{bound_of, fault_of, offered_keys}
use Rattle.fault_keys.specs.declared.keys.CopyFault.{CopyFault}

-- the runs of a net with the faults of each set of keys, of which `report` has the reports
abbrev pub runs_of : (fixed : List Fault) → List CopyFault → (report : List ℕ → ReportModel) → (claims : ℕ)
    → (holds : ReportModel → ℕ → Bool) → Runs
runs_of fixed kinds report claims holds = record {
  bound = bound_of fixed kinds;
  claims = claims;
  holds = λ set claim. holds (report set) claim;
  offers = λ set. offered_keys fixed kinds set (report set);
}

-- whatever is asked of the reports, a survey may rest on these runs
abbrev pub KeysOfferAll : Type 0
KeysOfferAll = (net : NetModel) (fixed : List Fault) (kinds : List CopyFault) (report : List ℕ → ReportModel)
    → ((set : List ℕ) → IsReportWith (map (fault_of fixed kinds) set) net (report set))
    → (claims : ℕ) (holds : ReportModel → ℕ → Bool) → OffersAll (runs_of fixed kinds report claims holds)

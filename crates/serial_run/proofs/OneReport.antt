-- The report of a net.
use Rattle.std.proofs.Common.{◌≡◌, Bool, true, false, eqb, [], List, length, refl, Option, Some, None}
use Rattle.std.proofs.lemmas.Bool.{eqb-true, eq-eqb}
use Rattle.radio_medium.specs.declared.error.MediumError.{MediumError}
use Rattle.radio_medium.specs.Medium.{medium_fault}
use Rattle.mote_net.specs.Net.{NetModel}
use Rattle.mote_net.specs.Report.{ReportModel}
use Rattle.serial_run.specs.FaultRun.{IsReportWith}
use Rattle.serial_run.proofs.ByWindows.{report_is_there}
use Rattle.radio_faults.specs.declared.fault.Fault.{Fault}

nothing : ReportModel
nothing = record { traces = []; log = []; left = 0 }

module _ (faults : List Fault) (n : NetModel) where
  report_if : (fault : Option MediumError) → medium_fault n.radio ≡ fault → (placed : Bool) → eqb (length n.radio.places) (length n.motes) ≡ placed → ReportModel
  report_if None f true p = (report_is_there faults n f (eqb-true _ _ p)).0
  report_if None f false p = nothing
  report_if (Some e) f placed p = nothing

  -- the report of the net, if its medium has no error and a place for each mote; every `Net` has such a medium
  pub report_with : ReportModel
  report_with = report_if (medium_fault n.radio) refl (eqb (length n.radio.places) (length n.motes)) refl

  is_if : (fault : Option MediumError) (f : medium_fault n.radio ≡ fault) (placed : Bool) (p : eqb (length n.radio.places) (length n.motes) ≡ placed)
      → fault ≡ None → placed ≡ true → IsReportWith faults n (report_if fault f placed p)
  unfolding report_if
  is_if None f true p e b = (report_is_there faults n f (eqb-true _ _ p)).1
  is_if None f false p e b = absurd (cc)
  is_if (Some x) f placed p e b = absurd (cc)

  pub report_with_is : medium_fault n.radio ≡ None → length n.radio.places ≡ length n.motes → IsReportWith faults n report_with
  unfolding report_with report_if
  report_with_is fault placed = is_if (medium_fault n.radio) refl (eqb (length n.radio.places) (length n.motes)) refl fault (eq-eqb _ _ placed)

-- Laws of reports with faults.
use Rattle.std.specs.Prelude.{◌≡◌, ℕ, ◌&&◌, ◌||◌, Bool, true, false, List, [], ◌∷◌, IsPermutation, Option, Some, None}
use Rattle.std.specs.List.{AllByRecursion, list_any}
use Rattle.radio_packet.specs.declared.fate.Fate.{Fate}
use Rattle.radio_faults.specs.declared.fault.Fault.{Fault}
use Rattle.radio_faults.specs.declared.fault.Fault.TheVariants.{Link, Silent, Lost, LostToAll, Late, Off}
use Rattle.radio_faults.specs.Faults.{names}
use Rattle.radio_faults.specs.LossTables.{IsOfLinks, radio_with}
use Rattle.mote_net.specs.Net.{NetModel}
use Rattle.mote_net.specs.Report.{Packet, ReportModel}
use Rattle.serial_run.specs.FaultRun.{IsReportWith}
use Rattle.serial_run.specs.NetRun.{IsReportOf}

abbrev pub is_some : Option ℕ → Bool
is_some (Some at) = true
is_some None = false

-- the fault names a copy of this packet that isn't lost
abbrev pub names_copy_of : Fault → Packet → Bool
names_copy_of fault packet =
    list_any (λ (fate : Fate). names fault packet.sent.sender packet.sent.number fate.to && is_some fate.at) packet.fates

-- the fault names a copy in the report that isn't lost
abbrev pub names_copy_in : Fault → ReportModel → Bool
names_copy_in fault r = list_any (names_copy_of fault) r.log

-- because of the fault a mote is off or boots again, whatever is sent
abbrev pub is_of_motes : Fault → Bool
is_of_motes (Off mote from until) = true
is_of_motes fault = false

-- the fault may change a run with this report
abbrev pub may_change : Fault → ReportModel → Bool
may_change fault r = is_of_motes fault || names_copy_in fault r

-- a fault of copies that names none in a report, but those that are lost anyway, leaves the report as it is
abbrev pub UnsentIsNothing : Type 0
UnsentIsNothing = (faults : List Fault) (fault : Fault) (model : NetModel) (r : ReportModel)
    → IsReportWith faults model r → may_change fault r ≡ false → IsReportWith (fault ∷ faults) model r

-- with faults in another order the report is the same
abbrev pub OrderMeansNothing : Type 0
OrderMeansNothing = (some others : List Fault) (model : NetModel) (r : ReportModel) → IsPermutation some others
    → IsReportWith some model r → IsReportWith others model r

-- the net in the medium that loses everything on the links that the faults break
abbrev pub net_losing : List Fault → NetModel → NetModel
net_losing faults model = record model { radio = radio_with faults model.radio }

-- with broken links and silent motes a net has the report of the net with these losses
pub record LossTablesAgree : Type 0 where
  pub there : (faults : List Fault) (model : NetModel) (r : ReportModel) → AllByRecursion IsOfLinks faults
      → IsReportWith faults model r → IsReportOf (net_losing faults model) r
  pub back : (faults : List Fault) (model : NetModel) (r : ReportModel) → AllByRecursion IsOfLinks faults
      → IsReportOf (net_losing faults model) r → IsReportWith faults model r

-- a report in which mote 1 sent a packet: the copy for mote 0 arrives, and that for mote 2 is lost
abbrev pub one_arrives : ReportModel
one_arrives = record {
  traces = [];
  log = record {
    sent = record { at = 100; sender = 1; number = 0; value = 7 };
    fates = record { to = 0; at = Some 115 } ∷ record { to = 2; at = None } ∷ [];
  } ∷ [];
  left = 0;
}

-- faults of the copy that is lost, of motes that send nothing and of packets that aren't sent name no copy in this report;
-- each fault of the copy that arrives does
pub record SomeAreUnsent : Type 0 where
  pub lost : names_copy_in (Link 1 2) one_arrives ≡ false
  pub back : names_copy_in (Link 0 1) one_arrives ≡ false
  pub silent_receiver : names_copy_in (Silent 0) one_arrives ≡ false
  pub lost_anyway : names_copy_in (Lost 1 0 2) one_arrives ≡ false
  pub next_packet : names_copy_in (LostToAll 1 1) one_arrives ≡ false
  pub link : names_copy_in (Link 1 0) one_arrives ≡ true
  pub silent_sender : names_copy_in (Silent 1) one_arrives ≡ true
  pub lost_copy : names_copy_in (Lost 1 0 0) one_arrives ≡ true
  pub late_copy : names_copy_in (Late 1 0 0 3) one_arrives ≡ true
  pub lost_packet : names_copy_in (LostToAll 1 0) one_arrives ≡ true

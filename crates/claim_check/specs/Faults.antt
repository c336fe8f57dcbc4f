-- The faults of a run.
use Rattle.std.specs.Prelude.{◌≡◌, ℕ, ◌+◌, ◌&&◌, ◌||◌, Bool, nat_lt, List, [], ◌∷◌, Option, Some, None, length}
use Rattle.std.specs.Prelude.{◌++◌, codes, if◌then◌else◌}
use Rattle.std.specs.List.{flat_map, list_any}
use Rattle.radio_packet.specs.declared.fate.Fate.{Fate}
use Rattle.radio_faults.specs.Faults.{names}
use Rattle.radio_faults.specs.FaultText.{fault_text}
use Rattle.mote_net.specs.Net.{NetModel}
use Rattle.mote_net.specs.Report.{Packet, ReportModel}
use Rattle.radio_medium.specs.Medium.{hears}
use Rattle.radio_faults.specs.declared.fault.Fault.{Fault}
use Rattle.radio_faults.specs.declared.fault.Fault.TheVariants.{Link, Silent, Lost, LostToAll, Late, Off}
use Rattle.serial_run.specs.FaultLaws.{is_of_motes}
use Rattle.radio_faults.specs.FaultLines.{IsRead, Refuses}
use Rattle.simulation.specs.declared.error.SimError.TheVariants as fault
use Rattle.claim_check.specs.declared.error.CheckError.{CheckError}
use Rattle.claim_check.specs.declared.error.CheckError.TheVariants as check

abbrev pub is_mote : NetModel → ℕ → Bool
is_mote net mote = nat_lt mote (length net.motes)

-- the second mote hears the first
abbrev pub is_link : NetModel → (from to : ℕ) → Bool
is_link net from to = is_mote net from && (is_mote net to && hears net.radio to from)

-- the net has the motes and the link that the fault names
abbrev pub is_in : NetModel → Fault → Bool
is_in net (Link from to) = is_link net from to
is_in net (Silent mote) = is_mote net mote
is_in net (Lost sender number to) = is_link net sender to
is_in net (LostToAll sender number) = is_mote net sender
is_in net (Late sender number to by) = is_link net sender to
is_in net (Off mote from until) = is_mote net mote

-- the number of the first fault that names what the net doesn't have, if the faults have numbers from this one on
abbrev pub missing_from : NetModel → (number : ℕ) → List Fault → Option ℕ
missing_from net number [] = None
missing_from net number (fault ∷ faults) = if is_in net fault then missing_from net (number + 1) faults else Some number

abbrev pub first_missing : NetModel → List Fault → Option ℕ
first_missing net faults = missing_from net 1 faults

-- the text is read as these faults, and the net has what they name
pub record AreFaultsOf (net : NetModel) (text : List ℕ) (faults : List Fault) : Type 0 where
  pub read : IsRead text faults
  pub all_there : first_missing net faults ≡ None

-- the net doesn't have what the fault with this number in the text names
pub record LacksFault (net : NetModel) (text : List ℕ) (number : ℕ) : Type 0 where
  pub faults : List Fault
  pub read : IsRead text faults
  pub missing : first_missing net faults ≡ Some number

-- the fault names a copy of this packet
abbrev pub names_copy_of : Fault → Packet → Bool
names_copy_of fault packet =
    list_any (λ (fate : Fate). names fault packet.sent.sender packet.sent.number fate.to) packet.fates

-- the fault names a copy in the report, be it lost or not
abbrev pub names_copy_in : Fault → ReportModel → Bool
names_copy_in fault r = list_any (names_copy_of fault) r.log

-- because of the fault a mote is off, or it names a copy in the report
abbrev pub is_used : Fault → ReportModel → Bool
is_used fault r = is_of_motes fault || names_copy_in fault r

-- a line that says that the run sends no copy which the fault names
abbrev pub unused_line : ReportModel → Fault → List ℕ
unused_line r fault = if is_used fault r then [] else codes "unused: " ++ fault_text fault ++ codes "\n"

abbrev pub unused_text : List Fault → ReportModel → List ℕ
unused_text faults r = flat_map (unused_line r) faults

-- the cause of an error in the faults of a net; an allocation may fail for any text
abbrev pub RefusesFaultsOf : NetModel → (text : List ℕ) → CheckError → Type 0
RefusesFaultsOf net text (check.Simulation fault.Memory) = Unit {0}
RefusesFaultsOf net text (check.Faults e) = Refuses text e
RefusesFaultsOf net text (check.NotInNet number) = LacksFault net text number
RefusesFaultsOf net text e = ⊥

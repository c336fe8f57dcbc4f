-- Each copy that is given to a turn comes at the copy's moment, and the copies that come after the end are left.
use Rattle.std.specs.Prelude.{◌≡◌, ℕ, nat_lt, Bool, not, List}
use Rattle.std.specs.Prelude.{[], ◌∷◌}
use Rattle.std.specs.List.{filter, flat_map, AllByRecursion}
use Rattle.radio_packet.specs.declared.copy.RadioCopy.{RadioCopy}
use Rattle.radio_medium.specs.Medium.{Radio, copies}
use Rattle.radio_faults.specs.declared.fault.Fault.{Fault}
use Rattle.radio_faults.specs.Faults.{copies_with}
use Rattle.radio_packet.specs.declared.sent.Sent.{Sent}
use Rattle.mote_net.specs.Net.{NetModel}
use Rattle.window_laws.specs.System.{System}
use Rattle.window_laws.specs.Order.{in_order}
use Rattle.window_laws.specs.Agenda.{comes_at, packets}
use Rattle.window_laws.specs.NetStep.{NetState, Run, Done, Turn}
use Rattle.mote_net.specs.Report.{ReportModel}
use Rattle.serial_run.specs.FaultRun.{IsReportWith}

abbrev pub is_after : (end : ℕ) → RadioCopy → Bool
is_after end copy = nat_lt end copy.at

-- the copy arrives at or before the end
abbrev pub is_by : (end : ℕ) → RadioCopy → Bool
is_by end copy = not (is_after end copy)

-- the copies of these packets that aren't lost with these faults
abbrev pub all_copies : List Fault → Radio → List Sent → List RadioCopy
all_copies faults radio log = flat_map (λ sent. copies_with faults (copies radio sent)) log

-- the copies on the agenda at the end are exactly the copies of the log's packets that arrive after the end
abbrev pub LateCopiesStay : Type 0
LateCopiesStay = (faults : List Fault) (model : NetModel) (r : ReportModel) (report : IsReportWith faults model r) → packets report.last.agenda
    ≡ filter (is_after model.end) (all_copies faults model.radio report.last.log)

-- a turn of a run: its moment, its mote, and the copies that it gets
pub record TurnTaken : Type 0 where
  pub moment : ℕ
  pub mote : ℕ
  pub given : List RadioCopy

abbrev pub turns : {S L : Type 0} {system : System S L} {end : ℕ} {net last : NetState S L} → Run system end net last
    → List TurnTaken
turns (Done late) = []
turns {net = net} (Turn moment mote least le rest) =
    record { moment = moment; mote = mote; given = in_order (packets (filter (comes_at moment mote) net.agenda)) }
    ∷ turns rest

abbrev pub IsGivenInTime : TurnTaken → Type 0
IsGivenInTime turn = AllByRecursion (λ (copy : RadioCopy). (copy.at ≡ turn.moment) × (copy.to ≡ turn.mote)) turn.given

-- the copies that a turn gets are for its mote, and arrive at its moment
abbrev pub CopiesComeInTime : Type 0
CopiesComeInTime = (faults : List Fault) (model : NetModel) (r : ReportModel) (report : IsReportWith faults model r)
    → AllByRecursion IsGivenInTime (turns report.run)

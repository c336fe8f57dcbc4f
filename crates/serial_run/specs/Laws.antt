-- Laws of the run of a net.
use Rattle.std.specs.Prelude.{◌≡◌, ℕ, suc, ◌<◌, ◌≤◌, List, [], ◌∷◌, length, map, None}
use Rattle.std.specs.List.{filter, AllByRecursion}
use Rattle.std.specs.List.Sorted.{IsPermutation, IsSortedBy}
use Rattle.trace_lines.specs.declared.line.Line.{Line}
use Rattle.radio_packet.specs.declared.sent.Sent.{Sent}
use Rattle.kernel_laws.specs.Going.{IsInOrder}
use Rattle.mote_node.specs.Turn.{Node}
use Rattle.radio_packet.specs.declared.copy.RadioCopy.{RadioCopy}
use Rattle.radio_medium.specs.Medium.{medium_fault}
use Rattle.mote_net.specs.Net.{NetModel}
use Rattle.window_laws.specs.System.{System}
use Rattle.window_laws.specs.Forward.{RunsForward}
use Rattle.window_laws.specs.Sorts.{is_sooner}
use Rattle.window_laws.specs.Agenda.{Item, is_wake_of, up_to}
use Rattle.window_laws.specs.NetStep.{NetState, Run, Done, Turn}
use Rattle.window_laws.specs.Windows.{LoneMote, first_mote, IsJoined, IsLeft, Windows}
use Rattle.net_agenda.specs.Buckets.{Buckets, HoldsItems}
use Rattle.net_agenda.specs.Items.{AreSameItems, WakesDiffer, items_of}
use Rattle.radio_faults.specs.declared.fault.Fault.{Fault}
use Rattle.mote_net.specs.Report.{ReportModel}
use Rattle.serial_run.specs.FaultRun.{net_with, packet_with, IsReportWith}
use Rattle.serial_run.specs.Lives.{AreLives}

-- a net has at most one report
abbrev pub ReportIsOne : Type 0
ReportIsOne = (faults : List Fault) (model : NetModel) (a b : ReportModel) → IsReportWith faults model a
    → IsReportWith faults model b → b ≡ a

-- If a net's medium has no error and has a place for each mote, the net runs forward. Each wake is later than the turn
-- that sets it, and each copy needs at least the lookahead, which is above 0, to arrive. Every `Net` has such a
-- medium.
abbrev pub NetsRunForward : Type 0
NetsRunForward = (faults : List Fault) (model : NetModel) → medium_fault model.radio ≡ None → length model.radio.places ≡ length model.motes
    → RunsForward (net_with faults model)

-- a net whose medium has no error and has a place for each mote has a report
abbrev pub ReportIsThere : Type 0
ReportIsThere = (faults : List Fault) (model : NetModel) → medium_fault model.radio ≡ None → length model.radio.places ≡ length model.motes
    → (r : ReportModel) × IsReportWith faults model r

-- the packets that the motes sent, sorted by moment, sender and number
pub record IsMediumLog (faults : List Fault) (model : NetModel) (motes : (number : ℕ) → LoneMote Node Line) (log : List Sent) : Type 0 where
  pub joined : List Sent
  pub is_joined : IsJoined (net_with faults model) motes joined
  pub same : IsPermutation joined log
  pub sorted : IsSortedBy is_sooner log

-- the report of a run in which each mote runs by itself: the lines of each mote, the packets of all motes as a log,
-- and the number of copies left
abbrev pub report_by : (faults : List Fault) → (model : NetModel) → (motes : (number : ℕ) → LoneMote Node Line) → (log : List Sent)
    → (rest : List RadioCopy) → ReportModel
report_by faults model motes log rest = record {
  traces = map (λ number. (motes number).lines) (up_to (length model.motes));
  log = map (packet_with faults model.radio) log;
  left = length rest;
}

-- Windows commute in a net whose medium has no error and has a place for each mote. Divide the time from 0 to end + 1
-- into any windows, none of which is longer than the lookahead. Run each mote by itself through each window, with the
-- copies that earlier windows sent to it, in any order of the motes. Then the result is that of the net's run: the
-- lines of each mote, the medium's log sorted by moment, sender and number, and the number of copies that arrive after
-- the end.
abbrev pub WindowsCommuteInNets : Type 0
WindowsCommuteInNets = (faults : List Fault) (model : NetModel) → medium_fault model.radio ≡ None
    → length model.radio.places ≡ length model.motes
    → (motes : (number : ℕ) → LoneMote Node Line)
    → Windows (net_with faults model) 0 (suc model.end) (first_mote (net_with faults model)) motes
    → (log : List Sent) → IsMediumLog faults model motes log → (rest : List RadioCopy)
    → IsLeft (net_with faults model) model.end motes rest
    → IsReportWith faults model (report_by faults model motes log rest)

-- the trace of each mote has the lines of its lives: in each of them events are delivered in the order in which they were
-- accepted, without gaps (those left at the end aren't delivered), nothing follows a halt, and a process starts only if it
-- isn't listed
abbrev pub TracesHandOn : Type 0
TracesHandOn = (faults : List Fault) (model : NetModel) (r : ReportModel) (report : IsReportWith faults model r) (k : ℕ) → k < length model.motes
    → AreLives faults k (report.last.traces k)

-- the trace of a mote without faults is that of one life
abbrev pub NoFaultsOneLife : Type 0
NoFaultsOneLife = (mote : ℕ) (trace : List Line) → AreLives [] mote trace → IsInOrder trace

-- the items in the buckets of an agenda are the items of the list that the buckets represent
abbrev pub BucketsHoldItems : Buckets → Type 0
BucketsHoldItems buckets = (items : List Item) → HoldsItems buckets items → AreSameItems items (items_of buckets)

-- the lists of pending events before each turn of a run and at its end
abbrev pub agendas : {S L : Type 0} {system : System S L} {end : ℕ} {net last : NetState S L} → Run system end net last
    → List (List Item)
agendas {net = net} (Done late) = net.agenda ∷ []
agendas {net = net} (Turn moment mote least le rest) = net.agenda ∷ agendas rest

-- there is at most one wake for each mote
abbrev pub OneWake : List Item → Type 0
OneWake items = (mote : ℕ) → length (filter (is_wake_of mote) items) ≤ 1

-- before each turn of a run and at its end, there is at most one wake for each mote
abbrev pub AlwaysOneWake : Type 0
AlwaysOneWake = (faults : List Fault) (model : NetModel) (r : ReportModel) (report : IsReportWith faults model r)
    → AllByRecursion OneWake (agendas report.run)

-- so before each turn, and at the end, no mote has two wakes at one moment
abbrev pub WakesAlwaysDiffer : Type 0
WakesAlwaysDiffer = (faults : List Fault) (model : NetModel) (r : ReportModel) (report : IsReportWith faults model r)
    → AllByRecursion WakesDiffer (agendas report.run)

-- In each trace of a net the moments never go back, and the packets of each mote are numbered in order.
use Rattle.std.specs.Prelude.{◌≡◌, ℕ, ◌==◌, List, map, All}
use Rattle.std.specs.List.{filter}
use Rattle.radio_packet.specs.declared.sent.Sent.{Sent}
use Rattle.kernel_laws.specs.Stamps.{AreNumberedFrom}
use Rattle.mote_laws.specs.Stamps.{NeverGoBack}
use Rattle.mote_net.specs.Net.{NetModel}
use Rattle.radio_faults.specs.declared.fault.Fault.{Fault}
use Rattle.mote_net.specs.Report.{ReportModel}
use Rattle.window_laws.specs.System.{System}
use Rattle.window_laws.specs.NetStep.{NetState, Run, Done, Turn, sends_of, turned_at}
use Rattle.serial_run.specs.FaultRun.{IsReportWith}

-- no line of a trace is earlier than the line before it
abbrev pub TracesNeverGoBack : Type 0
TracesNeverGoBack = (faults : List Fault) (model : NetModel) (r : ReportModel) → IsReportWith faults model r → All NeverGoBack r.traces

-- the packets that this mote sent
abbrev pub sent_by : (mote : ℕ) → List Sent → List Sent
sent_by mote sends = filter (λ x. x.sender == mote) sends

-- in the medium's log the packets of each mote are numbered 0, 1, 2 and so on, in order
abbrev pub LogCountsUp : Type 0
LogCountsUp = (faults : List Fault) (model : NetModel) (r : ReportModel) → IsReportWith faults model r → (mote : ℕ)
    → AreNumberedFrom 0 (sent_by mote (map (λ p. p.sent) r.log))

-- in each turn of a run the packets already have the moment and the mote with which they are stamped
abbrev pub AreStamped : {S L : Type 0} {system : System S L} {end : ℕ} {net last : NetState S L}
    → Run system end net last → Type 0
AreStamped (Done late) = Unit {0}
AreStamped {system = system} {net = net} (Turn moment mote least le rest) =
    let turned = turned_at system moment mote net in (sends_of moment mote turned ≡ turned.sends) × AreStamped rest

abbrev pub SendsAreStamped : Type 0
SendsAreStamped = (faults : List Fault) (model : NetModel) (r : ReportModel) (report : IsReportWith faults model r) → AreStamped report.run

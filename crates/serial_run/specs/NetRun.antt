-- The run of a net, and its report.
use Rattle.std.specs.Prelude.{◌≡◌, length, map}
use Rattle.trace_lines.specs.declared.line.Line.{Line}
use Rattle.radio_packet.specs.declared.sent.Sent.{Sent}
use Rattle.mote_node.specs.Turn.{Node}
use Rattle.radio_medium.specs.Medium.{Radio, fates}
use Rattle.mote_net.specs.Net.{NetModel}
use Rattle.window_laws.specs.Agenda.{packets, up_to}
use Rattle.window_laws.specs.NetStep.{NetState, Run, boot}
use Rattle.window_laws.specs.System.{System}
use Rattle.net_agenda.specs.NetSystem.{system_of}
use Rattle.mote_net.specs.Report.{Packet, ReportModel}

abbrev pub packet_with_fates : Radio → Sent → Packet
packet_with_fates radio sent = record { sent = sent; fates = fates radio sent }

-- the report of a net whose run has ended: the trace of each mote, each packet with the fates of its copies, and the
-- number of copies that are still on their way
abbrev pub report_at : (Sent → Packet) → NetModel → NetState Node Line → ReportModel
report_at packet_of model last = record {
  traces = map last.traces (up_to (length model.motes));
  log = map packet_of last.log;
  left = length (packets last.agenda);
}

-- the run of the net as this system, from the state before the first turns, ends with this report
pub record IsReportBy (system : System Node Line) (packet_of : Sent → Packet) (model : NetModel) (r : ReportModel)
    : Type 0 where
  pub last : NetState Node Line
  pub run : Run system model.end (boot system) last
  pub matches : r ≡ report_at packet_of model last

-- this is the report of the net's run
abbrev pub IsReportOf : NetModel → ReportModel → Type 0
IsReportOf model r = IsReportBy (system_of model) (packet_with_fates model.radio) model r

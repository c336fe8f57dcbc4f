-- The run of a net with faults, and its report.
use Rattle.std.specs.Prelude.{ℕ, List}
use Rattle.trace_lines.specs.declared.line.Line.{Line}
use Rattle.radio_packet.specs.declared.sent.Sent.{Sent}
use Rattle.trace_lines.specs.declared.line.What.TheVariants.{Boots}
use Rattle.mote_node.specs.Turn.{Node, node_with_sent}
use Rattle.radio_medium.specs.Medium.{Radio, fates}
use Rattle.radio_faults.specs.declared.fault.Fault.{Fault}
use Rattle.radio_faults.specs.Faults.{fates_with}
use Rattle.mote_net.specs.Net.{NetModel}
use Rattle.mote_net.specs.Report.{Packet, ReportModel}
use Rattle.window_laws.specs.System.{System}
use Rattle.radio_faults.specs.WithFaults.{Reboot, with_faults}
use Rattle.net_agenda.specs.NetSystem.{system_of}
use Rattle.serial_run.specs.NetRun.{IsReportBy}

-- a packet with the fates that its copies have with these faults
abbrev pub packet_with : List Fault → Radio → Sent → Packet
packet_with faults radio sent = record { sent = sent; fates = fates_with faults sent (fates radio sent) }

-- the line of a mote that boots again
abbrev pub boots_line : (moment : ℕ) → Line
boots_line moment = record { at = moment; what = Boots }

-- a mote that boots again is as before its first turn, but numbers its packets from where it was
abbrev pub node_again : (first last : Node) → Node
node_again first last = node_with_sent last.mote.state.sent first

abbrev pub node_reboot : Reboot Node Line
node_reboot = record { again = node_again; line = boots_line }

-- the motes of a net, and its medium with these faults
abbrev pub net_with : List Fault → NetModel → System Node Line
net_with faults model = with_faults node_reboot faults (system_of model)

-- this is the report of the net's run with these faults
abbrev pub IsReportWith : List Fault → NetModel → ReportModel → Type 0
IsReportWith faults model r = IsReportBy (net_with faults model) (packet_with faults model.radio) model r

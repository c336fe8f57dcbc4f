-- Threads may share the lines of a report.
use denote.Param.Send.{IsSync, sendable}
use denote.Param.SendFields.{declared_sync}
use denote.Ref.{NamedLft}
use Rattle.mote_net.proofs.NetCrossing.{net_sync}
use Rattle.mote_net.proofs.report.Report.TheSendSync as report
use Rattle.trace_printer.specs.contracts.report_lines.ReportLines as ReportLines

pub lines_sync : (κ : NamedLft) → IsSync (ReportLines.the_row κ)
lines_sync κ = declared_sync (ReportLines.the_type κ) (search (net_sync, sendable), (search (report.the_sync, sendable), (search sendable, tt)))

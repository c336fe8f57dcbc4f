-- The contents of a report.
use Rattle.std.specs.Prelude.{ℕ, List, map, Vec}
use Rattle.std.specs.declared.alloc.Global.{Global}
use Rattle.trace_lines.specs.declared.line.Line.{Line}
use Rattle.radio_packet.specs.declared.sent.Sent.{Sent}
use Rattle.radio_packet.specs.declared.fate.Fate.{Fate}
use Rattle.mote_net.specs.declared.report.LogLine.{LogLine}
use Rattle.mote_net.specs.declared.report.Report.{Report}

-- a packet that was sent, and the fate of each of its copies
pub record Packet : Type 0 where
  pub sent : Sent
  pub fates : List Fate

-- the trace of each mote, the packets that the medium carried, and the number of copies still on their way
pub record ReportModel : Type 0 where
  pub traces : List (List Line)
  pub log : List Packet
  pub left : ℕ

abbrev pub trace_lines_in : Vec Line Global → List Line
trace_lines_in t = t.items

abbrev pub line_model : LogLine → Packet
line_model l = record { sent = l.sent; fates = l.fates.items }

abbrev pub report_of : Report → ReportModel
report_of r = record { traces = map trace_lines_in r.traces.items; log = map line_model r.medium.items; left = r.left }

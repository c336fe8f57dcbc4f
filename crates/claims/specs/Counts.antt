-- What claims count.
use Rattle.std.specs.Prelude.{ℕ, ◌+◌, length}
use Rattle.std.specs.List.{sum_by}
use Rattle.mote_net.specs.Report.{ReportModel}
use Rattle.claims.specs.declared.count.Count.{Count}
use Rattle.claims.specs.declared.count.Count.TheVariants.{Lines, Packets, Copies, Left, Rows}
use Rattle.claims.specs.Lines.{count_of}
use Rattle.claims.specs.Medium.{packets_of, copies_of}

-- the lines of the report's text: each trace with its heading, the log with its heading, and the copies that are left
abbrev pub rows_of : ReportModel → ℕ
rows_of r = sum_by (λ t. length t) r.traces + length r.traces + length r.log + 2

abbrev pub number_of : Count → ReportModel → ℕ
number_of (Lines lines) r = count_of lines r
number_of (Packets packets) r = packets_of packets r
number_of (Copies copies) r = copies_of copies r
number_of Left r = r.left
number_of Rows r = rows_of r

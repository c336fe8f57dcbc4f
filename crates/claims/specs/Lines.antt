-- Lines, and how many there are.
use Rattle.std.specs.Prelude.{ℕ, Bool, true, List, filter, Option, Some, None, count_by}
use Rattle.mote_net.specs.Report.{ReportModel}
use Rattle.claims.specs.declared.trace.Found.{Found}
use Rattle.claims.specs.declared.order.Order.{Order}
use Rattle.claims.specs.declared.lines.Lines.{Lines}
use Rattle.claims.specs.Traces.{lines_of}
use Rattle.claims.specs.Orders.{is_ordered}

-- the line has the order, if there is one
abbrev pub is_wanted : Option Order → ReportModel → Found → Bool
is_wanted None r f = true
is_wanted (Some o) r f = is_ordered o r f

-- how many lines of the deed there are, or how many of them have the order
abbrev pub count_of : Lines → ReportModel → ℕ
count_of s r = count_by (is_wanted s.order r) (lines_of r s.deed)

-- the lines that are counted, mote by mote
abbrev pub wanted_lines : Lines → ReportModel → List Found
wanted_lines s r = filter (is_wanted s.order r) (lines_of r s.deed)

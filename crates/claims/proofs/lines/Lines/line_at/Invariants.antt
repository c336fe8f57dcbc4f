use Rattle.std.proofs.Common.{◌≡◌, drop, slice_get}
use Rattle.std.specs.List.{flat_map}
use Rattle.mote_net.specs.Report.{report_of}
use Rattle.claims.specs.PerMote.{counted_in}
use Rattle.claims.proofs.lines.Lines.line_at.Given as goal

abbrev pub invariant-loop-watch : goal.invariant-loop-watch
invariant-loop-watch l =
    slice_get (flat_map (counted_in l.self (report_of l.report)) (drop l.watch-index l.watch-items)) l.left
    ≡ slice_get (flat_map (counted_in l.self (report_of l.report)) l.watch-items) l.index

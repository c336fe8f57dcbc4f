use Rattle.std.proofs.Common.{◌≡◌, drop, slice_get, map, filter}
use Rattle.std.specs.List.{enumerate_from}
use Rattle.mote_net.specs.Report.{report_of}
use Rattle.claims.specs.Traces.{found_at}
use Rattle.claims.specs.PerMote.{is_counted}
use Rattle.claims.specs.Seen.{IsSeenBy}
use Rattle.claims.proofs.lines.Lines.line_in.Given as goal

abbrev pub invariant-loop-place : goal.invariant-loop-place
invariant-loop-place l = record {
  rest : slice_get (filter (is_counted l.self (report_of l.report) l.watch) (map (found_at l.watch.mote) (enumerate_from l.place (drop l.place l.line-items)))) l.left
      ≡ slice_get (filter (is_counted l.self (report_of l.report) l.watch) (map (found_at l.watch.mote) (enumerate_from 0 l.line-items))) l.index;
  seen : IsSeenBy l.self.order (report_of l.report) l.seen;
}

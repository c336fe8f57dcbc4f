use Rattle.std.proofs.Common.{◌≡◌, ◌≤◌, ◌+◌, ◌&&◌, drop, count_by}
use Rattle.std.specs.List.{enumerate_from}
use Rattle.mote_net.specs.Report.{report_of}
use Rattle.claims.specs.Traces.{found_at, shows}
use Rattle.claims.specs.Lines.{is_wanted}
use Rattle.claims.specs.Seen.{IsSeenBy}
use Rattle.claims.proofs.lines.Lines.count_in.Given as goal

abbrev pub invariant-loop-place : goal.invariant-loop-place
invariant-loop-place l = record {
  sum : l.count + count_by (λ e. shows l.self.deed l.watch e.1 && is_wanted l.self.order (report_of l.report) (found_at l.watch.mote e)) (enumerate_from l.place (drop l.place l.line-items))
      ≡ count_by (λ e. shows l.self.deed l.watch e.1 && is_wanted l.self.order (report_of l.report) (found_at l.watch.mote e)) (enumerate_from 0 l.line-items);
  small : l.count ≤ l.place;
  seen : IsSeenBy l.self.order (report_of l.report) l.seen;
}

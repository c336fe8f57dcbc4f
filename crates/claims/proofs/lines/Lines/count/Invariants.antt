use Rattle.std.proofs.Common.{◌≡◌, ◌≤◌, ◌*◌, take}
use Rattle.std.specs.List.{sum_by}
use Rattle.mote_net.specs.Report.{report_of}
use Rattle.claims.specs.Lines.{is_wanted}
use Rattle.claims.specs.PerMote.{count_in}
use Rattle.claims.proofs.lines.Lines.count.Given as goal

abbrev pub invariant-loop-watch : goal.invariant-loop-watch
invariant-loop-watch l = record {
  sum : l.count ≡ sum_by (count_in (is_wanted l.self.order (report_of l.report)) (report_of l.report) l.self.deed) (take l.watch-index l.self.deed.watches.items);
  small : l.count ≤ l.watch-index * 18446744073709551615;
}

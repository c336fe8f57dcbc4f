use Rattle.std.proofs.Common.{◌≡◌, ◌≤◌, ◌*◌, take}
use Rattle.std.specs.List.{sum_by}
use Rattle.mote_net.specs.Report.{report_of}
use Rattle.claims.specs.PerMote.{has_mark, count_in}
use Rattle.claims.proofs.trace.Deed.count_marked.Given as goal

abbrev pub invariant-loop-watch : goal.invariant-loop-watch
invariant-loop-watch l = record {
  sum : l.count ≡ sum_by (count_in (has_mark l.mark) (report_of l.report) l.self) (take l.watch-index l.self.watches.items);
  small : l.count ≤ l.watch-index * 18446744073709551615;
}

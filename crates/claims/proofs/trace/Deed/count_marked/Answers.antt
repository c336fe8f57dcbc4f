use Rattle.std.proofs.Common.{ap, ◌∙◌, sym, ◌≤◌, length}
use Rattle.std.proofs.lemmas.List.{take_all}
use Rattle.std.specs.List.{sum_by}
use Rattle.mote_net.specs.Report.{report_of}
use Rattle.claims.specs.PerMote.{has_mark, count_in}
use Rattle.claims.proofs.DeedLaws.{count_by-lines_of}
use Rattle.claims.proofs.trace.Deed.count_marked.Goals as goal

pub returns : goal.returns
returns c = record {
  value =
      let end : length c.args.self.now.watches.items ≤ c.loop-watch.watch-index = rw (sym c.deref-watch-items.ensures.value) c.loop-watch-test.false in
      rw (count_by-lines_of (has_mark c.args.mark) (report_of c.args.report.now) c.args.self.now)
      (c.loop-watch.invariant.sum ∙ ap (sum_by (count_in (has_mark c.args.mark) (report_of c.args.report.now) c.args.self.now)) (take_all c.loop-watch.watch-index c.args.self.now.watches.items end));
}

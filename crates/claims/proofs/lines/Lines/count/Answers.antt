use Rattle.std.proofs.Common.{ap, ◌∙◌, sym, ◌≤◌, length}
use Rattle.std.proofs.lemmas.List.{take_all}
use Rattle.std.specs.List.{sum_by}
use Rattle.mote_net.specs.Report.{report_of}
use Rattle.claims.specs.Lines.{is_wanted}
use Rattle.claims.specs.PerMote.{count_in}
use Rattle.claims.proofs.DeedLaws.{count_by-lines_of}
use Rattle.claims.proofs.lines.Lines.count.Goals as goal

pub returns : goal.returns
returns c = record {
  value =
      let end : length c.args.self.now.deed.watches.items ≤ c.loop-watch.watch-index = rw (sym c.deref-watch-items.ensures.value) c.loop-watch-test.false in
      rw (count_by-lines_of (is_wanted c.args.self.now.order (report_of c.args.report.now)) (report_of c.args.report.now) c.args.self.now.deed)
      (c.loop-watch.invariant.sum ∙ ap (sum_by (count_in (is_wanted c.args.self.now.order (report_of c.args.report.now)) (report_of c.args.report.now) c.args.self.now.deed)) (take_all c.loop-watch.watch-index c.args.self.now.deed.watches.items end));
}

use Rattle.std.proofs.Common.{◌∙◌, ap, sym, arith, ◌<◌, ◌≤◌, ◌-◌, ◌+◌, length, get_or, slice_get, drop}
use Rattle.std.specs.List.{flat_map}
use Rattle.std.proofs.lemmas.List.{drop_all}
use Rattle.mote_net.specs.Report.{report_of}
use Rattle.claims.specs.declared.trace.Watched.{Watched}
use Rattle.claims.specs.PerMote.{counted_in}
use Rattle.claims.proofs.PickLaws.{get-here, get-later, wanted-by-watch, length-counted}
use Rattle.claims.proofs.lines.Lines.line_at.Goals as goal

abbrev no_watch : Watched
no_watch = record { mote = 0; when = record { from = 0; to = 0 } }

pub returns-then-left-count : goal.returns-then-left-count
returns-then-left-count c = record {
  value =
      let w = get_or c.deref-watch-items.result.now c.loop-watch.watch-index no_watch in
      let here : c.loop-watch.left < length (counted_in c.args.self.now (report_of c.args.report.now) w) = omega (arith, length-counted c.args.self.now (report_of c.args.report.now) w) in
      c.line_in.ensures.value
      ∙ sym (get-here (counted_in c.args.self.now (report_of c.args.report.now)) c.deref-watch-items.result.now c.loop-watch.watch-index c.loop-watch.left no_watch c.loop-watch-test.true here)
      ∙ c.loop-watch.invariant
      ∙ ap (λ l. slice_get (flat_map (counted_in c.args.self.now (report_of c.args.report.now)) l) c.args.index) c.deref-watch-items.ensures.value
      ∙ ap (λ l. slice_get l c.args.index) (sym (wanted-by-watch c.args.self.now (report_of c.args.report.now)));
}

pub loop-watch-preserved : goal.loop-watch-preserved
loop-watch-preserved c =
    let w = get_or c.deref-watch-items.result.now c.loop-watch.watch-index no_watch in
    let past : length (counted_in c.args.self.now (report_of c.args.report.now) w) ≤ c.loop-watch.left = omega (arith, length-counted c.args.self.now (report_of c.args.report.now) w) in
    ap (λ n. slice_get (flat_map (counted_in c.args.self.now (report_of c.args.report.now)) (drop (c.loop-watch.watch-index + 1) c.deref-watch-items.result.now)) (c.loop-watch.left - n))
    (c.count_in-count.ensures.value ∙ sym (length-counted c.args.self.now (report_of c.args.report.now) w))
    ∙ sym (get-later (counted_in c.args.self.now (report_of c.args.report.now)) c.deref-watch-items.result.now c.loop-watch.watch-index c.loop-watch.left no_watch c.loop-watch-test.true past)
    ∙ c.loop-watch.invariant

pub returns : goal.returns
returns c = record {
  value =
      ap (λ l. slice_get (flat_map (counted_in c.args.self.now (report_of c.args.report.now)) l) c.loop-watch.left) (sym (drop_all c.loop-watch.watch-index c.deref-watch-items.result.now c.loop-watch-test.false))
      ∙ c.loop-watch.invariant
      ∙ ap (λ l. slice_get (flat_map (counted_in c.args.self.now (report_of c.args.report.now)) l) c.args.index) c.deref-watch-items.ensures.value
      ∙ ap (λ l. slice_get l c.args.index) (sym (wanted-by-watch c.args.self.now (report_of c.args.report.now)));
}

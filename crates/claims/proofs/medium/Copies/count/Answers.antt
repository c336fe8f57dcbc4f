use Rattle.std.proofs.Common.{ap, ◌∙◌, sym, ◌≤◌, length}
use Rattle.std.proofs.lemmas.List.{take_all}
use Rattle.std.specs.List.{sum_by}
use Rattle.mote_net.specs.Report.{line_model}
use Rattle.claims.specs.Medium.{copies_in}
use Rattle.claims.proofs.ListLaws.{sum_by-map}
use Rattle.claims.proofs.medium.Copies.count.Goals as goal

pub returns : goal.returns
returns c = record {
  value =
      let end : length c.args.report.now.medium.items ≤ c.loop-line.line-index = rw (sym c.deref-line-items.ensures.value) c.loop-line-test.false in
      c.loop-line.invariant.sum
      ∙ ap (sum_by (λ x. copies_in c.args.self.now (line_model x))) (take_all c.loop-line.line-index c.args.report.now.medium.items end)
      ∙ sym (sum_by-map (copies_in c.args.self.now) line_model c.args.report.now.medium.items);
}

use Rattle.std.proofs.Common.{◌≤◌, ◌∙◌, length, map}
use Rattle.std.proofs.lemmas.List.{take_all}
use Rattle.radio_medium.proofs.LinkLemmas.{least_of_ways}
use Rattle.radio_medium.proofs.link.least_delay.Goals as goal

pub returns : goal.returns
returns c = record {
  value =
      let end : length c.args.all.now ≤ c.loop-links.links-index = c.loop-links-test.false in
      rw (take_all c.loop-links.links-index c.args.all.now end) at c.loop-links.invariant ∙ least_of_ways (map (λ links. links.items) c.args.all.now);
}

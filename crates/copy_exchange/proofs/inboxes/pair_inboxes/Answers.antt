use Rattle.std.proofs.Common.{rules, ◌≡◌, length, vec_len, sym, ap, ◌∙◌, map-id}
use Rattle.std.proofs.lemmas.Iterator.{YieldsList-from_zip}
use Rattle.std.proofs.lemmas.Iterator.Adapters.{YieldsList-from_vec}
use Rattle.std.proofs.lemmas.Iterator.Consumers.{YieldsList-end}
use Rattle.copy_exchange.proofs.inboxes.pair_inboxes.Goals as goal

pub returns : goal.returns
returns c = record {
  pairs =
      let d = c.into_iter-pair-iterator.ensures.into_iter_gives in
      let z = c.zip-pair-items.ensures in
      let inboxes_len : vec_len c.args.inboxes ≡ length c.args.inboxes.items = search rules in
      let takers_len : vec_len c.args.takers ≡ length c.args.takers.items = search rules in
      let t = YieldsList-end (YieldsList-from_zip
      (YieldsList-from_vec c.args.inboxes.items (ap (λ s. s.a.rest.items) d ∙ (ap (λ s. s.rest.items) z.first ∙ c.into_iter.ensures.rest)) (ap (λ s. s.a.rest.len) d ∙ (ap (λ s. s.rest.len) z.first ∙ (c.into_iter.ensures.len ∙ inboxes_len))))
      (YieldsList-from_vec c.args.takers.items (ap (λ s. s.b.rest.items) d ∙ z.second.0) (ap (λ s. s.b.rest.len) d ∙ (z.second.1 ∙ takers_len))))
      c.loop-pair.yielded c.loop-pair.pair-iterator c.loop-pair.yielded_by c.next.result c.next.new.self c.in-None.is c.next.ensures.steps in
      c.loop-pair.invariant ∙ (sym (map-id c.loop-pair.yielded) ∙ t.0);
}

use Rattle.std.proofs.Common.{rules, ◌≡◌, length, map, vec_len, sym, ap, ◌∙◌, map-id}
use Rattle.std.proofs.lemmas.Iterator.Adapters.{YieldsList-from_vec}
use Rattle.std.proofs.lemmas.Iterator.Consumers.{YieldsList-end}
use Rattle.window_workers.specs.Worker.{make_worker}
use Rattle.std.proofs.lemmas.Iterator.{YieldsList-from_zip}
use Rattle.window_workers.proofs.worker.workers_of.Goals as goal

pub returns-clause-workers : goal.returns-clause-workers
returns-clause-workers c =
    let d = c.into_iter-share-iterator.ensures.into_iter_gives in
    let z = c.zip-share-items.ensures in
    let shares_len : vec_len c.args.shares ≡ length c.args.shares.items = search rules in
    let endpoints_len : vec_len c.args.endpoints ≡ length c.args.endpoints.items = search rules in
    let t = YieldsList-end (YieldsList-from_zip
    (YieldsList-from_vec c.args.shares.items (ap (λ s. s.a.rest.items) d ∙ (ap (λ s. s.rest.items) z.first ∙ c.into_iter.ensures.rest)) (ap (λ s. s.a.rest.len) d ∙ (ap (λ s. s.rest.len) z.first ∙ (c.into_iter.ensures.len ∙ shares_len))))
    (YieldsList-from_vec c.args.endpoints.items (ap (λ s. s.b.rest.items) d ∙ z.second.0) (ap (λ s. s.b.rest.len) d ∙ (z.second.1 ∙ endpoints_len))))
    c.loop-share.yielded c.loop-share.share-iterator c.loop-share.yielded_by c.next.result c.next.new.self c.in-None.is c.next.ensures.steps in
    c.loop-share.invariant ∙ ap (map make_worker) (sym (map-id c.loop-share.yielded) ∙ t.0)

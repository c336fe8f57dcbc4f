use Rattle.std.proofs.Common.{[], rules, ◌≡◌, ◌+◌, true, List, ◌∷◌, ◌++◌, length, vec_len, sym, ap, ◌∙◌, subst, arith, length-append, map-id}
use Rattle.std.proofs.lemmas.Iterator.{YieldsList-from_zip}
use Rattle.std.proofs.lemmas.Iterator.Adapters.{YieldsList-from_vec}
use Rattle.std.proofs.lemmas.Iterator.Consumers.{YieldsList-end}
use Rattle.std.specs.List.{AllByRecursion as Each, AllZip, zip}
use Rattle.copy_exchange.specs.Endpoints.{Together, StartsAs, HasMarks, HasPushedNothing}
use Rattle.copy_exchange.specs.declared.endpoint.Endpoint.{Endpoint}
use Rattle.copy_inbox.specs.Handles.{TakerView}
use Rattle.copy_exchange.proofs.AfterWindow.{Row}
use Rattle.copy_exchange.proofs.Starts.{opens_no_rows, opens_more_rows, built, built_more, together, starts, pushed_nothing, has_marks}
use Rattle.copy_exchange.proofs.window.endpoints.Goals as goal
use Rattle.copy_exchange.proofs.window.endpoints.Goals.{After-drop-taker-iterator-3}

pub senders_of-requires : goal.senders_of-requires
senders_of-requires c = record { are_takers_of = c.loop-worker.invariant.opened.takers }

pub loop-worker-init : goal.loop-worker-init
loop-worker-init c =
    let e = c.in_ok-rows.ensures in
    let long = e.len in
    let room = e.exact in
    record {
      opened = rw e.items (opens_no_rows c.args.inboxes.now c.args.takers.items c.requires.settled);
      long = long;
      room = omega arith;
    }

pub loop-worker-preserved : goal.loop-worker-preserved
loop-worker-preserved c =
    let i = c.loop-worker.invariant in
    let p = c.push_reserved.ensures in
    let len = p.len in
    let capacity = p.capacity in
    let long = i.long in
    let room = i.room in
    let is : vec_len c.loop-worker.rows ≡ length c.loop-worker.rows.items = search rules in
    record {
      opened = rw p.items (opens_more_rows c.args.inboxes.now c.loop-worker.worker c.args.takers.items c.loop-worker.takers.items c.senders_of.new.takers.items c.loop-worker.rows.items c.in_ok-senders_of.field-0 i.opened c.in_ok-senders_of.ensures.opens (sym is ∙ long));
      long = omega arith;
      room = omega arith;
    }

pub loop-taker-preserved : goal.loop-taker-preserved
loop-taker-preserved c =
    let i = c.loop-taker.invariant in
    let p = c.in-Ok.ensures in
    let len = p.len in
    let long = i.long in
    let pair : TakerView × Row = (c.in-Some.taker, c.in-Some.senders) in
    let more : length (c.loop-taker.yielded ++ pair ∷ []) ≡ length c.loop-taker.yielded + 1 = length-append c.loop-taker.yielded (pair ∷ []) in
    let place : c.len.result ≡ 0 + length c.loop-taker.yielded = let is = c.len.ensures in omega arith in
    record {
      built = p.items ∙ ((λ j. i.built j ++ record { worker = place j; taker = c.in-Some.taker; senders = c.in-Some.senders } ∷ []) ∙ sym (built_more 0 c.loop-taker.yielded pair));
      long = omega arith;
    }

-- all endpoints are made
all_built : (c : After-drop-taker-iterator-3) → c.loop-taker.endpoints.items ≡ built 0 (zip c.loop-worker.takers.items c.loop-worker.rows.items)
all_built c =
    let d = c.into_iter-taker-iterator.ensures.into_iter_gives in
    let z = c.zip-taker-items.ensures in
    let takers_len : vec_len c.loop-worker.takers ≡ length c.loop-worker.takers.items = search rules in
    let rows_len : vec_len c.loop-worker.rows ≡ length c.loop-worker.rows.items = search rules in
    let t = YieldsList-end (YieldsList-from_zip
    (YieldsList-from_vec c.loop-worker.takers.items (ap (λ s. s.a.rest.items) d ∙ (ap (λ s. s.rest.items) z.first ∙ c.into_iter.ensures.rest)) (ap (λ s. s.a.rest.len) d ∙ (ap (λ s. s.rest.len) z.first ∙ (c.into_iter.ensures.len ∙ takers_len))))
    (YieldsList-from_vec c.loop-worker.rows.items (ap (λ s. s.b.rest.items) d ∙ z.second.0) (ap (λ s. s.b.rest.len) d ∙ (z.second.1 ∙ rows_len))))
    c.loop-taker.yielded c.loop-taker.taker-iterator c.loop-taker.yielded_by c.next.result c.next.new.self c.in-None.is c.next.ensures.steps in
    c.loop-taker.invariant.built ∙ ap (built 0) (sym (map-id c.loop-taker.yielded) ∙ t.0)

pub returns-clause-together : goal.returns-clause-together
returns-clause-together c =
    let over = c.loop-worker-test.false in
    let most = c.loop-worker.auto.worker-end in
    let long = c.loop-worker.invariant.long in
    let is : vec_len c.loop-worker.rows ≡ length c.loop-worker.rows.items = search rules in
    let P : List Endpoint → Type 0 = λ l. Together c.args.inboxes.now l in
    subst P (sym (all_built c)) (together c.args.inboxes.now c.args.takers.items c.loop-worker.takers.items c.loop-worker.rows.items c.requires.settled c.loop-worker.invariant.opened (omega arith))

pub returns-clause-starts : goal.returns-clause-starts
returns-clause-starts c =
    let over = c.loop-worker-test.false in
    let most = c.loop-worker.auto.worker-end in
    let long = c.loop-worker.invariant.long in
    let is : vec_len c.loop-worker.rows ≡ length c.loop-worker.rows.items = search rules in
    let P : List Endpoint → Type 0 = λ l. AllZip StartsAs c.args.takers.items l in
    subst P (sym (all_built c)) (starts c.args.inboxes.now c.args.takers.items c.loop-worker.takers.items c.loop-worker.rows.items c.requires.settled c.loop-worker.invariant.opened (omega arith))

pub returns-clause-nothing : goal.returns-clause-nothing
returns-clause-nothing c =
    let over = c.loop-worker-test.false in
    let most = c.loop-worker.auto.worker-end in
    let long = c.loop-worker.invariant.long in
    let is : vec_len c.loop-worker.rows ≡ length c.loop-worker.rows.items = search rules in
    let P : List Endpoint → Type 0 = λ l. Each HasPushedNothing l in
    subst P (sym (all_built c)) (pushed_nothing c.args.inboxes.now c.args.takers.items c.loop-worker.takers.items c.loop-worker.rows.items c.requires.settled c.loop-worker.invariant.opened (omega arith))

pub returns-clause-marked : goal.returns-clause-marked
returns-clause-marked c =
    let over = c.loop-worker-test.false in
    let most = c.loop-worker.auto.worker-end in
    let long = c.loop-worker.invariant.long in
    let is : vec_len c.loop-worker.rows ≡ length c.loop-worker.rows.items = search rules in
    let P : List Endpoint → Type 0 = λ l. Each (λ (t : TakerView). t.state.marked ≡ true) c.args.takers.items → Each HasMarks l in
    subst P (sym (all_built c)) (has_marks c.args.inboxes.now c.args.takers.items c.loop-worker.takers.items c.loop-worker.rows.items c.requires.settled c.loop-worker.invariant.opened (omega arith))

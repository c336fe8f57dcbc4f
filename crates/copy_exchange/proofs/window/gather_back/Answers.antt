use Rattle.std.proofs.Common.{rules, ◌≡◌, List, length, map, vec_len, sym, ◌∙◌, subst, map-id}
use Rattle.std.proofs.lemmas.Iterator.Adapters.{YieldsList-from_vec}
use Rattle.std.proofs.lemmas.Iterator.Consumers.{YieldsList-turn, YieldsList-end}
use Rattle.copy_exchange.specs.Steps.{AreTakersOf}
use Rattle.copy_exchange.specs.declared.endpoint.Endpoint.{Endpoint}
use Rattle.copy_inbox.specs.Handles.{TakerView}
use Rattle.copy_exchange.proofs.Back.{start_takers, row_fits, gathers_back}
use Rattle.copy_exchange.proofs.AfterWindow.{Row, GathersRows, no_rows, more_rows, takers_after}
use Rattle.copy_exchange.proofs.window.gather_back.Goals as goal
use Rattle.copy_exchange.proofs.window.gather_back.Goals.{After-drop-senders-iterator}

pub gather_all-requires-clause-senders : goal.gather_all-requires-clause-senders
gather_all-requires-clause-senders g c =
    let rest = c.into_iter-senders-iterator.ensures.into_iter_gives in
    let len : vec_len c.in_ok-takers.rows ≡ length c.in_ok-takers.rows.items = search rules in
    let t = YieldsList-turn (YieldsList-from_vec c.in_ok-takers.rows.items rest.0 (rest.1 ∙ len)) c.loop-senders.yielded c.loop-senders.senders-iterator c.loop-senders.yielded_by c.next.result c.next.new.self c.in-Some.senders c.in-Some.is c.next.ensures.steps in
    row_fits c.args.inboxes.now c.args.endpoints.items c.in_ok-takers.rows.items (length c.loop-senders.yielded) c.in-Some.senders c.requires.on_inboxes c.in_ok-takers.ensures.rows t.0 t.1

pub loop-senders-init : goal.loop-senders-init
loop-senders-init g c =
    let P : List TakerView → Type 0 = λ l. AreTakersOf c.args.inboxes.now l in
    record {
      gathered = no_rows c.in_ok-takers.takers.items;
      takers = subst P (sym c.in_ok-takers.ensures.takers) (start_takers c.args.inboxes.now c.args.endpoints.items c.requires.workers c.requires.on_inboxes);
    }

pub loop-senders-preserved : goal.loop-senders-preserved
loop-senders-preserved g c =
    let i = c.loop-senders.invariant in
    record {
      gathered = more_rows c.in_ok-takers.takers.items c.loop-senders.takers.items c.gather_all.new.takers.items c.loop-senders.yielded c.in-Some.senders i.gathered c.gather_all.ensures.gathers_row;
      takers = takers_after c.args.inboxes.now c.loop-senders.takers.items c.gather_all.new.takers.items c.in-Some.senders.items i.takers c.gather_all.ensures.gathers_row;
    }

-- all senders of all endpoints are gathered
all_rows : (g : _) (c : After-drop-senders-iterator g) → GathersRows (map (λ (x : Endpoint). x.taker) c.args.endpoints.items) c.loop-senders.takers.items (map (λ (x : Endpoint). x.senders) c.args.endpoints.items)
all_rows g c =
    let rest = c.into_iter-senders-iterator.ensures.into_iter_gives in
    let len : vec_len c.in_ok-takers.rows ≡ length c.in_ok-takers.rows.items = search rules in
    let t = YieldsList-end (YieldsList-from_vec c.in_ok-takers.rows.items rest.0 (rest.1 ∙ len)) c.loop-senders.yielded c.loop-senders.senders-iterator c.loop-senders.yielded_by c.next.result c.next.new.self c.in-None.is c.next.ensures.steps in
    let all : c.loop-senders.yielded ≡ map (λ (x : Endpoint). x.senders) c.args.endpoints.items = sym (map-id c.loop-senders.yielded) ∙ (t.0 ∙ c.in_ok-takers.ensures.rows) in
    let P : List TakerView × List Row → Type 0 = λ x. GathersRows x.0 c.loop-senders.takers.items x.1 in
    subst P (λ i. (c.in_ok-takers.ensures.takers i, all i)) c.loop-senders.invariant.gathered

pub returns : goal.returns
returns g c = record { gathers_back = gathers_back c.args.endpoints.items c.loop-senders.takers.items (all_rows g c) }

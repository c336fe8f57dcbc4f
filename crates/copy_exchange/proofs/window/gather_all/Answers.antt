use Rattle.std.proofs.Common.{[], rules, ◌≡◌, ℕ, ◌+◌, ◌∷◌, ◌++◌, length, get_or, drop, vec_len, sym, ap, ◌∙◌, arith, length-append}
use Rattle.std.proofs.lemmas.Iterator.Adapters.{YieldsList-from_vec}
use Rattle.std.proofs.lemmas.Iterator.Consumers.{YieldsList-from_enumerate, YieldsList-end}
use Rattle.std.proofs.lemmas.List.FromFn.{length-enumerate_from}
use Rattle.copy_exchange.specs.Steps.{at_place}
use Rattle.copy_inbox.specs.Handles.{TakerView}
use Rattle.copy_exchange.proofs.Rows.{gathers_none, gathers_next, gathers_row, still_takers, sender_fits, next_is}
use Rattle.copy_exchange.proofs.window.gather_all.Goals as goal

pub loop-place-init : goal.loop-place-init
loop-place-init g c =
    let b = c.enumerate-place-items.ensures in
    let d = c.into_iter-place-iterator.ensures.into_iter_gives in
    record {
      gathered = gathers_none c.args.takers.now.items c.args.senders.items;
      count = ap (λ s. s.count) d ∙ b.count;
      rest = ap (λ s. s.iter.rest.items) d ∙ (ap (λ s. s.rest.items) b.source ∙ c.into_iter.ensures.rest);
    }

pub index_mut-requires : goal.index_mut-requires
index_mut-requires g c =
    let i = c.loop-place.invariant in
    let s = c.in-Some.ensures.steps in
    let n = next_is c.args.senders.items c.next.new.self.iter.rest.items (length c.loop-place.yielded) c.in-Some.sender (sym i.rest ∙ s.0.0) in
    let less = n.0 in
    let place : c.in-Some.place ≡ length c.loop-place.yielded = s.1 ∙ i.count in
    let takers = c.requires.takers.count in
    let senders = c.requires.senders.count in
    let same = i.gathered.count in
    let long : vec_len c.loop-place.takers ≡ length c.loop-place.takers.items = search rules in
    omega arith

pub gather_one-requires-clause-taker : goal.gather_one-requires-clause-taker
gather_one-requires-clause-taker g c =
    let i = c.loop-place.invariant in
    let s = c.in-Some.ensures.steps in
    let n = next_is c.args.senders.items c.next.new.self.iter.rest.items (length c.loop-place.yielded) c.in-Some.sender (sym i.rest ∙ s.0.0) in
    let less = n.0 in
    let place : c.in-Some.place ≡ length c.loop-place.yielded = s.1 ∙ i.count in
    let senders = c.requires.senders.count in
    let now = still_takers c.args.inboxes.now (length c.loop-place.yielded) c.args.takers.now.items c.loop-place.takers.items c.args.senders.items c.requires.takers i.gathered in
    ap (λ (t : TakerView). t.inbox) c.index_mut.ensures.value ∙ (now.its c.in-Some.place c.index-inboxes-place.result c.index_mut.result.now (omega arith) ∙ sym c.index-inboxes-place.is)

pub gather_one-requires-clause-sender : goal.gather_one-requires-clause-sender
gather_one-requires-clause-sender g c =
    let i = c.loop-place.invariant in
    let s = c.in-Some.ensures.steps in
    let n = next_is c.args.senders.items c.next.new.self.iter.rest.items (length c.loop-place.yielded) c.in-Some.sender (sym i.rest ∙ s.0.0) in
    let less = n.0 in
    let place : c.in-Some.place ≡ length c.loop-place.yielded = s.1 ∙ i.count in
    let senders = c.requires.senders.count in
    sender_fits c.args.inboxes.now c.args.senders.items c.in-Some.place c.index-inboxes-place.result c.in-Some.sender c.requires.senders (omega arith) c.index-inboxes-place.is (n.1 ∙ ap (at_place c.args.senders.items) (sym place))

pub loop-place-preserved : goal.loop-place-preserved
loop-place-preserved g c =
    let i = c.loop-place.invariant in
    let s = c.in-Some.ensures.steps in
    let k : ℕ = length c.loop-place.yielded in
    let n = next_is c.args.senders.items c.next.new.self.iter.rest.items k c.in-Some.sender (sym i.rest ∙ s.0.0) in
    let less = n.0 in
    let place : c.in-Some.place ≡ k = s.1 ∙ i.count in
    let takers = c.requires.takers.count in
    let senders = c.requires.senders.count in
    let was = c.index_mut.ensures.value ∙ ap (λ v. get_or c.loop-place.takers.items v c.index_mut.result.now) place in
    let step = gathers_next k c.args.takers.now.items c.loop-place.takers.items c.args.senders.items c.index_mut.result.now c.gather_one.new.taker c.in-Some.sender i.gathered (omega arith) was n.1 c.gather_one.ensures.gathered c.gather_one.ensures.matches in
    let long : length (c.loop-place.yielded ++ (c.in-Some.place, c.in-Some.sender) ∷ []) ≡ k + 1 = length-append c.loop-place.yielded ((c.in-Some.place, c.in-Some.sender) ∷ []) in
    record {
      gathered = rw (long, place) step;
      count = s.2 ∙ (ap (λ m. m + 1) i.count ∙ sym long);
      rest = n.2 ∙ ap (λ m. drop m c.args.senders.items) (sym long);
    }

pub returns : goal.returns
returns g c = record {
  gathers_row =
      let a = c.into_iter.ensures in
      let b = c.enumerate-place-items.ensures in
      let d = c.into_iter-place-iterator.ensures.into_iter_gives in
      let long : vec_len c.args.senders ≡ length c.args.senders.items = search rules in
      let t = YieldsList-end (YieldsList-from_enumerate (YieldsList-from_vec c.args.senders.items (ap (λ s. s.iter.rest.items) d ∙ (ap (λ s. s.rest.items) b.source ∙ a.rest)) (ap (λ s. s.iter.rest.len) d ∙ (ap (λ s. s.rest.len) b.source ∙ (a.len ∙ long)))) (ap (λ s. s.count) d ∙ b.count))
      c.loop-place.yielded c.loop-place.place-iterator c.loop-place.yielded_by c.next.result c.next.new.self c.in-None.is c.next.ensures.steps in
      let all : length c.loop-place.yielded ≡ length c.args.senders.items = t.1 ∙ length-enumerate_from 0 c.args.senders.items in
      let takers = c.requires.takers.count in
      let senders = c.requires.senders.count in
      gathers_row (length c.loop-place.yielded) c.args.takers.now.items c.loop-place.takers.items c.args.senders.items c.loop-place.invariant.gathered all (omega arith);
}

-- All senders of all endpoints are gathered, row by row.
use Rattle.std.proofs.Common.{[], ◌≡◌, ℕ, ◌<◌, ◌==◌, Bool, true, false, List, ◌∷◌, length, map, get_or, slice_get, Option, Some, refl, sym, ap, ◌∙◌, subst, arith, option_map}
use Rattle.std.proofs.lemmas.List.{length-map}
use Rattle.std.proofs.lemmas.List.FromFn.{length-range_with_len}
use Rattle.std.proofs.lemmas.Option.{get_or_from_slice_get, slice_get-get_or, slice_get-map, slice_get_within}
use Rattle.std.specs.List.{AllByRecursion as Each, cons_option, range_with_len}
use Rattle.copy_exchange.specs.Endpoints.{IsOnInboxes, IsSenderOn, sender_to, senders_to}
use Rattle.copy_exchange.specs.Steps.{AreTakersOf, AreSendersOn, GathersBack, AgreesWithSender, gather_senders}
use Rattle.copy_exchange.specs.declared.endpoint.Endpoint.{Endpoint}
use Rattle.copy_inbox.specs.Handles.{InboxId, TakerView, SenderView}
use Rattle.copy_exchange.proofs.AfterWindow.{Row, GathersRows, row_senders, pick}
use Rattle.copy_exchange.proofs.Lists.{each_at}
use Rattle.copy_exchange.proofs.Owns.{workers_of}

sender_id : (id : InboxId) (own : Bool) (s : SenderView) → IsSenderOn id own (Some s) → s.inbox ≡ id
sender_id id true s h = absurd cc
sender_id id false s h = h

pub senders_on : (inboxes : List InboxId) (c : Endpoint) → IsOnInboxes inboxes c → AreSendersOn inboxes c.senders.items
senders_on inboxes c h = record {
  count = h.count;
  its = λ v id s lt at.
      let found = slice_get-get_or inboxes v id lt in
      let P : Option SenderView → Type 0 = λ o. IsSenderOn (get_or inboxes v id) (v == c.worker) o in
      sender_id (get_or inboxes v id) (v == c.worker) s (subst P at (h.each v (get_or inboxes v id) found));
}

rows_of : (cs : List Endpoint) (v : ℕ) → row_senders (map (λ (c : Endpoint). c.senders) cs) v ≡ senders_to cs v
rows_of [] v = refl
rows_of (c ∷ cs) v = ap (cons_option (sender_to c v)) (rows_of cs v)

each_row : (inboxes : List InboxId) (cs : List Endpoint) → Each (IsOnInboxes inboxes) cs → Each (λ (r : Row). AreSendersOn inboxes r.items) (map (λ (c : Endpoint). c.senders) cs)
each_row inboxes [] h = tt
each_row inboxes (c ∷ cs) h = (senders_on inboxes c h.0, each_row inboxes cs h.1)

pub row_fits : (inboxes : List InboxId) (cs : List Endpoint) (rows : List Row) (k : ℕ) (row : Row) → Each (IsOnInboxes inboxes) cs → rows ≡ map (λ (c : Endpoint). c.senders) cs → k < length rows → row ≡ get_or rows k row
    → AreSendersOn inboxes row.items
row_fits inboxes cs rows k row on_inboxes e lt is =
    let P : Row → Type 0 = λ r. AreSendersOn inboxes r.items in
    subst P (sym is) (each_at P rows k row (subst (λ (l : List Row). Each P l) (sym e) (each_row inboxes cs on_inboxes)) lt)

-- ---- the takers that gather them
module _ (inboxes : List InboxId) (cs : List Endpoint) (workers : workers_of cs ≡ range_with_len 0 (length inboxes)) (on_inboxes : Each (IsOnInboxes inboxes) cs) where
  long : length cs ≡ length inboxes
  long = sym (length-map cs (λ (c : Endpoint). c.worker)) ∙ (ap length workers ∙ length-range_with_len 0 (length inboxes))

  pub start_takers : AreTakersOf inboxes (map (λ (c : Endpoint). c.taker) cs)
  start_takers = record {
    count = length-map cs (λ (c : Endpoint). c.taker) ∙ long;
    its = λ v id t lt.
        let n = long in
        let inside : v < length cs = omega arith in
        let p = pick (IsOnInboxes inboxes) 0 cs (workers ∙ ap (range_with_len 0) (sym long)) on_inboxes v inside in
        let is = p.1 in
        let same : v ≡ p.0.worker = omega arith in
        ap (λ (u : TakerView). u.inbox) (p.2 t) ∙ sym (ap (λ k. get_or inboxes k id) same ∙ get_or_from_slice_get inboxes p.0.worker p.0.taker.inbox id p.4.taker);
  }

-- ---- the items that the takers have gathered
found_taker : (cs : List Endpoint) (v : ℕ) (c : Endpoint) (t : TakerView) → slice_get cs v ≡ Some c → get_or (map (λ (x : Endpoint). x.taker) cs) v t ≡ c.taker
found_taker cs v c t e = get_or_from_slice_get (map (λ (x : Endpoint). x.taker) cs) v c.taker t (slice_get-map (λ (x : Endpoint). x.taker) cs v ∙ ap (option_map (λ (x : Endpoint). x.taker)) e)

pub gathers_back : (cs : List Endpoint) (ts : List TakerView) → GathersRows (map (λ (c : Endpoint). c.taker) cs) ts (map (λ (c : Endpoint). c.senders) cs) → GathersBack cs ts
gathers_back cs ts h =
    let n = length-map cs (λ (c : Endpoint). c.taker) in
    record {
      count = h.count ∙ n;
      taker = λ v c t at_c at_t.
          let inside = slice_get_within cs v c at_c in
          sym (get_or_from_slice_get ts v t t at_t) ∙ (h.taker v t (omega arith) ∙ (λ i. gather_senders (found_taker cs v c t at_c i) (rows_of cs v i)));
      matches = λ v c at_c.
          let inside = slice_get_within cs v c at_c in
          let Q : TakerView × List SenderView → Type 0 = λ x. Each (λ (s : SenderView). AgreesWithSender x.0.state s.state) x.1 in
          subst Q (λ i. (found_taker cs v c c.taker at_c i, rows_of cs v i)) (h.matches v c.taker (omega arith));
    }

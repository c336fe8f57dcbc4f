-- One more copy is delivered.
use Rattle.std.proofs.Common.{[], ◌≡◌, ◌≢◌, ℕ, zero, suc, ◌<◌, ◌==◌, Bool, true, false, cond, eqb, List, ◌∷◌, ◌++◌, length, map, filter, get_or, slice_get, slice_index, Option, Some, None, refl, sym, ap, ◌∙◌, subst, ⊎_elim, arith, append-nil, append_assoc, length-set, eq-eqb, ne_eqb}
use Rattle.std.proofs.Math.Seq.{map-set_same}
use Rattle.std.proofs.lemmas.Bool.Decides.{eqb_tells}
use Rattle.std.proofs.lemmas.List.{get_or-set_same, get_or-set_other, map-append}
use Rattle.std.proofs.lemmas.List.Elements.{filter-append}
use Rattle.std.proofs.lemmas.Option.{slice_get-get_or}
use Rattle.std.specs.Option.{IsSomeAnd}
use Rattle.copy_exchange.specs.Crossed.{is_to}
use Rattle.copy_exchange.specs.Endpoints.{IsEndpoint, IsOnInboxes, IsSenderOn, Leaves, Stays, Delivers, sender_to, delivered, pushed_by, pushed_list, pushed_to, identity_of}
use Rattle.copy_exchange.specs.Takers.{copies_in, IsOrderly}
use Rattle.copy_exchange.specs.declared.endpoint.Endpoint.{Endpoint}
use Rattle.copy_inbox.specs.Handles.{InboxId, TakerView, SenderView, after_pushing}
use Rattle.copy_inbox.specs.declared.items.Carried.{Carried}
use Rattle.copy_inbox.specs.declared.items.Carried.TheVariants.{Packet}
use Rattle.copy_inbox.specs.declared.rule.SenderState.{SenderState}
use Rattle.radio_packet.specs.declared.copy.RadioCopy.{RadioCopy}
use Rattle.std.specs.Vec.{with_item}
use Rattle.copy_exchange.proofs.Owners.{own_is}
use Rattle.copy_exchange.proofs.Parts.{copies_in-append}

pub same_at : (senders : List (Option SenderView)) (v : ℕ) (d e : Option SenderView) → v < length senders → get_or senders v d ≡ get_or senders v e
same_at [] v d e lt = absurd (omega arith)
same_at (s ∷ ss) zero d e lt = refl
same_at (s ∷ ss) (suc v) d e lt = same_at ss v d e (omega arith)

-- the sender on the inbox of the receiver's worker
module _ (inboxes : List InboxId) (owners : List ℕ) (c : Endpoint) (copy : RadioCopy) (to mote : ℕ) (endpoint : IsOnInboxes inboxes c) (leaves : Leaves owners (length inboxes) c.worker copy)
    (at_mote : mote ≡ copy.to) (at_to : to ≡ get_or owners mote 0) where
  pub to_is : to ≡ slice_index owners copy.to
  to_is = at_to ∙ ap (λ k. slice_index owners k) at_mote

  pub to_inside : to < length inboxes
  to_inside = let e = to_is in let h = leaves.its_worker in omega arith

  to_other : (to == c.worker) ≡ false
  to_other = ap (λ k. k == c.worker) to_is ∙ (sym (own_is owners copy.to c.worker leaves.there) ∙ leaves.other)

  -- there is such a sender
  pub never_none : (s : Option SenderView) → s ≡ get_or c.senders.items to s → s ≡ None → ⊥
  never_none s at_s none =
      let count = endpoint.count in
      let inside = to_inside in
      let found = slice_get-get_or inboxes to c.taker.inbox inside in
      let same : sender_to c to ≡ None = same_at c.senders.items to None s (omega arith) ∙ (sym at_s ∙ none) in
      let id : InboxId = get_or inboxes to c.taker.inbox in
      let P : Bool → Type 0 = λ b. IsSenderOn id b (sender_to c to) in
      let Q : Option SenderView → Type 0 = λ t. IsSenderOn id false t in
      subst Q same (subst P to_other (endpoint.each to id found))

  pub sender_there : (id : InboxId) (s : Option SenderView) → id ≡ get_or inboxes to id → s ≡ get_or c.senders.items to s → IsSomeAnd s (λ sender. sender.inbox ≡ id)
  sender_there id s at_id at_s =
      let count = endpoint.count in
      let inside = to_inside in
      let found : slice_get inboxes to ≡ Some id = slice_get-get_or inboxes to id inside ∙ ap Some (sym at_id) in
      let same : sender_to c to ≡ s = same_at c.senders.items to None s (omega arith) ∙ sym at_s in
      let P : Bool → Type 0 = λ b. IsSenderOn id b (sender_to c to) in
      let Q : Option SenderView → Type 0 = λ t. IsSenderOn id false t in
      subst Q same (subst P to_other (endpoint.each to id found))

-- ---- the endpoint after the delivery
sender_on : (id : InboxId) (own : Bool) (s t : SenderView) → t.inbox ≡ s.inbox → IsSenderOn id own (Some s) → IsSenderOn id own (Some t)
sender_on id true s t e h = absurd cc
sender_on id false s t e h = e ∙ h

abbrev pub with_sender : Endpoint → (to : ℕ) → SenderView → Endpoint
with_sender c to t = record { worker = c.worker; taker = c.taker; senders = with_item c.senders to (Some t) }

module _ (inboxes : List InboxId) (owners : List ℕ) (c : Endpoint) (copy : RadioCopy) (to : ℕ) (endpoint : IsOnInboxes inboxes c) (inside : to < length inboxes) (there : copy.to < length owners) (is : to ≡ slice_index owners copy.to)
    (s t : SenderView) (was : Some s ≡ get_or c.senders.items to (Some s)) (same_inbox : t.inbox ≡ s.inbox) (state : t.state ≡ after_pushing s.state (Packet copy)) where
  here : sender_to c to ≡ Some s
  here = let count = endpoint.count in same_at c.senders.items to None (Some s) (omega arith) ∙ sym was

  then_here : sender_to (with_sender c to t) to ≡ Some t
  then_here = let count = endpoint.count in get_or-set_same c.senders.items to (Some t) None (omega arith)

  then_else : (v : ℕ) → v ≢ to → sender_to (with_sender c to t) v ≡ sender_to c v
  then_else v n = get_or-set_other c.senders.items to v (Some t) None n

  pub endpoint_with : IsOnInboxes inboxes (with_sender c to t)
  endpoint_with = record {
    taker = endpoint.taker;
    count = length-set c.senders.items to (Some t) ∙ endpoint.count;
    each = λ v id found. ⊎_elim
        (λ (q : (eqb v to ≡ true) × (v ≡ to)).
        let P : Option SenderView → Type 0 = λ o. IsSenderOn id (v == c.worker) o in
        let old : IsSenderOn id (v == c.worker) (Some s) = subst P (ap (sender_to c) q.1 ∙ here) (endpoint.each v id found) in
        subst P (sym (ap (sender_to (with_sender c to t)) q.1 ∙ then_here)) (sender_on id (v == c.worker) s t same_inbox old))
        (λ (q : (eqb v to ≡ false) × (v ≢ to)).
        let P : Option SenderView → Type 0 = λ o. IsSenderOn id (v == c.worker) o in
        subst P (sym (then_else v q.1)) (endpoint.each v id found))
        (eqb_tells v to);
  }

  adds_at : (v : ℕ) → delivered (with_sender c to t) v ≡ delivered c v ++ filter (is_to owners v) (copy ∷ [])
  adds_at v = ⊎_elim
      (λ (q : (eqb v to ≡ true) × (v ≡ to)).
      let e : is_to owners v copy ≡ true = own_is owners copy.to v there ∙ eq-eqb (slice_index owners copy.to) v (sym (q.1 ∙ is)) in
      ap pushed_by (ap (sender_to (with_sender c to t)) q.1 ∙ then_here)
      ∙ (ap (λ (p : SenderState). copies_in p.pushed) state ∙ copies_in-append s.state.pushed (Packet copy ∷ []))
      ∙ ap (λ (o : Option SenderView). pushed_by o ++ copy ∷ []) (sym (ap (sender_to c) q.1 ∙ here))
      ∙ ap (λ (b : Bool). delivered c v ++ cond b (copy ∷ []) []) (sym e))
      (λ (q : (eqb v to ≡ false) × (v ≢ to)).
      let e : is_to owners v copy ≡ false = own_is owners copy.to v there ∙ ne_eqb (slice_index owners copy.to) v (λ h. q.1 (sym (is ∙ h))) in
      ap pushed_by (then_else v q.1) ∙ sym (append-nil (delivered c v)) ∙ ap (λ (b : Bool). delivered c v ++ cond b (copy ∷ []) []) (sym e))
      (eqb_tells v to)

  pushes_at : (v : ℕ) → pushed_to (with_sender c to t) v ≡ pushed_to c v ++ map Packet (filter (is_to owners v) (copy ∷ []))
  pushes_at v = ⊎_elim
      (λ (q : (eqb v to ≡ true) × (v ≡ to)).
      let e : is_to owners v copy ≡ true = own_is owners copy.to v there ∙ eq-eqb (slice_index owners copy.to) v (sym (q.1 ∙ is)) in
      ap pushed_list (ap (sender_to (with_sender c to t)) q.1 ∙ then_here)
      ∙ ap (λ (p : SenderState). p.pushed) state
      ∙ ap (λ (o : Option SenderView). pushed_list o ++ Packet copy ∷ []) (sym (ap (sender_to c) q.1 ∙ here))
      ∙ ap (λ (b : Bool). pushed_to c v ++ map Packet (cond b (copy ∷ []) [])) (sym e))
      (λ (q : (eqb v to ≡ false) × (v ≢ to)).
      let e : is_to owners v copy ≡ false = own_is owners copy.to v there ∙ ne_eqb (slice_index owners copy.to) v (λ h. q.1 (sym (is ∙ h))) in
      ap pushed_list (then_else v q.1) ∙ sym (append-nil (pushed_to c v)) ∙ ap (λ (b : Bool). pushed_to c v ++ map Packet (cond b (copy ∷ []) [])) (sym e))
      (eqb_tells v to)

  pub delivers_with : Delivers owners c (with_sender c to t) (copy ∷ [])
  delivers_with = record {
    stays = record {
      worker = refl;
      inbox = refl;
      marked = refl;
      made = refl;
      gathered = refl;
      identities = map-set_same identity_of c.senders.items to (Some t) (Some s) (ap Some (λ i. (same_inbox i, (state i).number, (state i).marked)) ∙ ap identity_of was);
    };
    taker = refl;
    adds = adds_at;
    pushes = pushes_at;
  }

-- ---- copy by copy
pub stays_on : (a b c : Endpoint) → Stays a b → Stays b c → Stays a c
stays_on a b c h k = record {
  worker = k.worker ∙ h.worker;
  inbox = k.inbox ∙ h.inbox;
  marked = k.marked ∙ h.marked;
  made = k.made ∙ h.made;
  gathered = k.gathered ∙ h.gathered;
  identities = k.identities ∙ h.identities;
}

pub delivers_none : (owners : List ℕ) (c : Endpoint) → Delivers owners c c []
delivers_none owners c = record {
  stays = record { worker = refl; inbox = refl; marked = refl; made = refl; gathered = refl; identities = refl };
  taker = refl;
  adds = λ v. sym (append-nil (delivered c v));
  pushes = λ v. sym (append-nil (pushed_to c v));
}

-- packets that are appended to packets are packets
packets_on : (owners : List ℕ) (v : ℕ) (old : List Carried) (xs ys : List RadioCopy) → (old ++ map Packet (filter (is_to owners v) xs)) ++ map Packet (filter (is_to owners v) ys) ≡ old ++ map Packet (filter (is_to owners v) (xs ++ ys))
packets_on owners v old xs ys =
    append_assoc old (map Packet (filter (is_to owners v) xs)) (map Packet (filter (is_to owners v) ys))
    ∙ ap (λ l. old ++ l) (sym (map-append Packet (filter (is_to owners v) xs) (filter (is_to owners v) ys)) ∙ ap (map Packet) (sym (filter-append (is_to owners v) xs ys)))

pub delivers_more : (owners : List ℕ) (a b c : Endpoint) (xs ys : List RadioCopy) → Delivers owners a b xs → Delivers owners b c ys → Delivers owners a c (xs ++ ys)
delivers_more owners a b c xs ys h k = record {
  stays = stays_on a b c h.stays k.stays;
  taker = k.taker ∙ h.taker;
  adds = λ v. k.adds v ∙ (ap (λ l. l ++ filter (is_to owners v) ys) (h.adds v) ∙ (append_assoc (delivered a v) (filter (is_to owners v) xs) (filter (is_to owners v) ys) ∙ ap (λ l. delivered a v ++ l) (sym (filter-append (is_to owners v) xs ys))));
  pushes = λ v. k.pushes v ∙ (ap (λ l. l ++ map Packet (filter (is_to owners v) ys)) (h.pushes v) ∙ packets_on owners v (pushed_to a v) xs ys);
}

-- ---- an endpoint of a window of fork-join is still one after a delivery
pub endpoint_again : (inboxes : List InboxId) (owners : List ℕ) (a b : Endpoint) (copies : List RadioCopy) → IsEndpoint inboxes a → Delivers owners a b copies → IsOnInboxes inboxes b → IsEndpoint inboxes b
endpoint_again inboxes owners a b copies h d s =
    let P : TakerView → Type 0 = λ t. IsOrderly t.state in
    record { on_inboxes = s; orderly = subst P (sym d.taker) h.orderly }

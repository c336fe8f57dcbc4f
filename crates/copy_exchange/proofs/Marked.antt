-- The mark of a window is pushed, worker by worker.
use Rattle.std.proofs.Common.{[], ◌≡◌, ◌≢◌, ℕ, ◌+◌, ◌<◌, ◌≤◌, ◌==◌, Bool, true, false, eqb, List, ◌∷◌, ◌++◌, length, get_or, slice_get, Option, Some, None, IfSome, refl, sym, ap, ◌∙◌, subst, ⊎_elim, arith}
use Rattle.std.proofs.Math.Seq.{map-set_same}
use Rattle.std.proofs.lemmas.Bool.Decides.{eqb_tells}
use Rattle.std.proofs.lemmas.List.{get_or-set_same, get_or-set_other, length-map}
use Rattle.std.proofs.lemmas.Option.{slice_get-get_or}
use Rattle.copy_exchange.specs.Endpoints.{IsOnInboxes, IsSenderOn, HasMarks, Stays, PushesMarks, sender_to, pushed_list, pushed_to, identity_of}
use Rattle.copy_exchange.specs.Steps.{MarksOne, pushed_with_mark}
use Rattle.copy_exchange.specs.declared.endpoint.Endpoint.{Endpoint}
use Rattle.copy_inbox.specs.Handles.{InboxId, SenderView, after_pushing}
use Rattle.copy_inbox.specs.declared.items.Carried.TheVariants.{Mark}
use Rattle.copy_inbox.specs.declared.rule.SenderState.{SenderState}
use Rattle.copy_exchange.proofs.Delivered.{same_at, stays_on, with_sender}
use Rattle.copy_exchange.proofs.AfterWindow.{same_identity}

-- ---- consequences of the identity of a sender
on_identity : (id : InboxId) (own : Bool) (o p : Option SenderView) → identity_of o ≡ identity_of p → IsSenderOn id own p → IsSenderOn id own o
on_identity id true None None e h = refl
on_identity id true None (Some q) e h = absurd cc
on_identity id true (Some p) None e h = absurd cc
on_identity id true (Some p) (Some q) e h = absurd cc
on_identity id false None None e h = h
on_identity id false None (Some q) e h = absurd cc
on_identity id false (Some p) None e h = absurd cc
on_identity id false (Some p) (Some q) e h =
    let identity : (p.inbox, p.state.number, p.state.marked) ≡ (q.inbox, q.state.number, q.state.marked) = cc in
    ap (λ (x : InboxId × ℕ × Bool). x.0) identity ∙ h

marked_identity : (o p : Option SenderView) → identity_of o ≡ identity_of p → ((s : SenderView) → p ≡ Some s → s.state.marked ≡ true) → (s : SenderView) → o ≡ Some s → s.state.marked ≡ true
marked_identity None p e h s is = absurd cc
marked_identity (Some o) None e h s is = absurd cc
marked_identity (Some o) (Some q) e h s is =
    let same : o ≡ s = cc in
    let identity : (o.inbox, o.state.number, o.state.marked) ≡ (q.inbox, q.state.number, q.state.marked) = cc in
    let marked : o.state.marked ≡ q.state.marked = ap (λ (x : InboxId × ℕ × Bool). x.2) identity in
    ap (λ (x : SenderView). x.state.marked) (sym same) ∙ (marked ∙ h q refl)

-- ---- the unchanged parts of an endpoint
pub marks_stay : (a b : Endpoint) → Stays a b → HasMarks a → HasMarks b
marks_stay a b h marks v = marked_identity (sender_to b v) (sender_to a v) (same_identity a b v h) (marks v)

pub on_inboxes_stays : (inboxes : List InboxId) (a b : Endpoint) → Stays a b → IsOnInboxes inboxes a → IsOnInboxes inboxes b
on_inboxes_stays inboxes a b h s = record {
  taker = ap (slice_get inboxes) h.worker ∙ (s.taker ∙ ap Some (sym h.inbox));
  count = sym (length-map b.senders.items identity_of) ∙ (ap length h.identities ∙ (length-map a.senders.items identity_of ∙ s.count));
  each = λ v id found.
      let P : ℕ → Type 0 = λ w. IsSenderOn id (v == w) (sender_to b v) in
      subst P (sym h.worker) (on_identity id (v == a.worker) (sender_to b v) (sender_to a v) (same_identity a b v h) (s.each v id found));
}

-- ---- the mark through one sender
pub stays_same : (c : Endpoint) → Stays c c
stays_same c = record { worker = refl; inbox = refl; marked = refl; made = refl; gathered = refl; identities = refl }

module _ (c : Endpoint) (to window : ℕ) (inside : to < length c.senders.items) (s t : SenderView) (was : Some s ≡ get_or c.senders.items to (Some s)) (same_inbox : t.inbox ≡ s.inbox)
    (state : t.state ≡ after_pushing s.state (Mark window)) where
  there : sender_to c to ≡ Some s
  there = same_at c.senders.items to None (Some s) inside ∙ sym was

  pub marks_with : MarksOne to window c (with_sender c to t)
  marks_with = record {
    stays = record {
      worker = refl;
      inbox = refl;
      marked = refl;
      made = refl;
      gathered = refl;
      identities = map-set_same identity_of c.senders.items to (Some t) (Some s) (ap Some (λ i. (same_inbox i, (state i).number, (state i).marked)) ∙ ap identity_of was);
    };
    taker = refl;
    here = ap pushed_list (get_or-set_same c.senders.items to (Some t) None inside) ∙ (ap (λ (p : SenderState). p.pushed) state ∙ ap (λ o. pushed_with_mark o window) (sym there));
    others = λ v n. get_or-set_other c.senders.items to v (Some t) None n;
  }

-- ---- one worker after another
-- the mark was pushed to the workers before this one
pub record MarkedTo (to window : ℕ) (old new : Endpoint) : Type 0 where
  pub stays : Stays old new
  pub taker : new.taker ≡ old.taker
  pub pushes : (v : ℕ) → v < to → (v == old.worker) ≡ false → pushed_to new v ≡ pushed_to old v ++ Mark window ∷ []
  pub rest : (v : ℕ) → to ≤ v → sender_to new v ≡ sender_to old v

pub marked_none : (window : ℕ) (c : Endpoint) → MarkedTo 0 window c c
marked_none window c = record { stays = stays_same c; taker = refl; pushes = λ v lt other. absurd (omega arith); rest = λ v le. refl }

with_mark : (id : InboxId) (window : ℕ) (o : Option SenderView) → IsSenderOn id false o → pushed_with_mark o window ≡ pushed_list o ++ Mark window ∷ []
with_mark id window None h = absurd h
with_mark id window (Some s) h = refl

pub marked_more : (inboxes : List InboxId) (to window : ℕ) (a b c : Endpoint) → IsOnInboxes inboxes a → to < length inboxes → MarkedTo to window a b → MarksOne to window b c → MarkedTo (to + 1) window a c
marked_more inboxes to window a b c on_inboxes inside h one = record {
  stays = stays_on a b c h.stays one.stays;
  taker = one.taker ∙ h.taker;
  pushes = λ v lt other. ⊎_elim
      (λ (q : (eqb v to ≡ true) × (v ≡ to)).
      let id : InboxId = get_or inboxes to a.taker.inbox in
      let found : slice_get inboxes v ≡ Some id = ap (slice_get inboxes) q.1 ∙ slice_get-get_or inboxes to a.taker.inbox inside in
      let P : Bool → Type 0 = λ own. IsSenderOn id own (sender_to a v) in
      let on : IsSenderOn id false (sender_to a v) = subst P other (on_inboxes.each v id found) in
      ap (pushed_to c) q.1 ∙ (one.here ∙ (ap (λ o. pushed_with_mark o window) (h.rest to (omega arith) ∙ ap (sender_to a) (sym q.1)) ∙ with_mark id window (sender_to a v) on)))
      (λ (q : (eqb v to ≡ false) × (v ≢ to)).
      let n = q.1 in
      ap pushed_list (one.others v q.1) ∙ h.pushes v (omega (arith, n)) other)
      (eqb_tells v to);
  rest = λ v le. one.others v (λ e. absurd (omega arith)) ∙ h.rest v (omega arith);
}

pub marked_all : (inboxes : List InboxId) (to window : ℕ) (a b : Endpoint) → length inboxes ≤ to → MarkedTo to window a b → PushesMarks (length inboxes) window a b
marked_all inboxes to window a b all h = record { stays = h.stays; taker = h.taker; pushes = λ v lt other. h.pushes v (omega arith) other }

-- ---- the sender on an inbox can push a mark
pub can_mark : (inboxes : List InboxId) (c : Endpoint) (to : ℕ) (id : InboxId) → IsOnInboxes inboxes c → HasMarks c → to < length inboxes → id ≡ get_or inboxes to id
    → IfSome (sender_to c to) (λ s. (s.inbox ≡ id) × (s.state.marked ≡ true))
can_mark inboxes c to id on_inboxes marks lt at = of_sender (sender_to c to) refl
  where
    found : slice_get inboxes to ≡ Some id
    found = slice_get-get_or inboxes to id lt ∙ ap Some (sym at)

    on_other : (own : Bool) (s : SenderView) → IsSenderOn id own (Some s) → s.inbox ≡ id
    on_other true s h = absurd cc
    on_other false s h = h

    of_sender : (o : Option SenderView) → sender_to c to ≡ o → IfSome o (λ s. (s.inbox ≡ id) × (s.state.marked ≡ true))
    of_sender None e = tt
    of_sender (Some s) e =
        let P : Option SenderView → Type 0 = λ p. IsSenderOn id (to == c.worker) p in
        (on_other (to == c.worker) s (subst P e (on_inboxes.each to id found)), marks to s e)

-- One worker's senders, inbox by inbox.
use Rattle.std.proofs.Common.{[], ◌≡◌, ◌≢◌, ℕ, zero, suc, ◌+◌, ◌<◌, ◌≤◌, ◌==◌, Bool, true, false, eqb, List, ◌∷◌, length, set, get_or, drop, add-one, slice_index_or, Option, Some, None, IfSome, refl, sym, ap, ◌∙◌, subst, ⊎_elim, arith, length-set}
use Rattle.std.proofs.lemmas.Bool.{cases_lt}
use Rattle.std.proofs.lemmas.Bool.Decides.{eqb_tells}
use Rattle.std.proofs.lemmas.List.{get_or-set_same, get_or-set_other}
use Rattle.copy_exchange.specs.Steps.{AreTakersOf, AreSendersOn, GathersRow, AgreesWithSender, Opens, gather_into, at_place, opened_taker, opened_sender}
use Rattle.copy_inbox.specs.Handles.{InboxId, TakerView, SenderView}
use Rattle.copy_exchange.proofs.Lists.{same_read}

-- the senders at the first k places are gathered
pub record GathersTo (k : ℕ) (old new : List TakerView) (senders : List (Option SenderView)) : Type 0 where
  pub count : length new ≡ length old
  pub done : (v : ℕ) (t : TakerView) → v < k → v < length old → slice_index_or new v t ≡ gather_into (slice_index_or old v t) (at_place senders v)
  pub left : (v : ℕ) (t : TakerView) → k ≤ v → v < length old → slice_index_or new v t ≡ slice_index_or old v t
  pub matches : (v : ℕ) (t : TakerView) (s : SenderView) → v < k → v < length old → at_place senders v ≡ Some s
      → AgreesWithSender (slice_index_or old v t).state s.state

pub gathers_none : (old : List TakerView) (senders : List (Option SenderView)) → GathersTo 0 old old senders
gathers_none old senders = record { count = refl; done = λ v t lt. absurd (omega arith); left = λ v t le lt. refl; matches = λ v t s lt. absurd (omega arith) }

known_some : (d : TakerView) (o : Option SenderView) (s : SenderView) → o ≡ Some s → IfSome o (λ a. AgreesWithSender d.state a.state) → AgreesWithSender d.state s.state
known_some d o s e h = let P : Option SenderView → Type 0 = λ p. IfSome p (λ a. AgreesWithSender d.state a.state) in subst P e h

pub gathers_next : (k : ℕ) (old new : List TakerView) (senders : List (Option SenderView)) (was now : TakerView) (sender : Option SenderView) → GathersTo k old new senders → k < length old
    → was ≡ get_or new k was → sender ≡ at_place senders k → now ≡ gather_into was sender → IfSome sender (λ a. AgreesWithSender was.state a.state)
    → GathersTo (k + 1) old (set new k now) senders
gathers_next k old new senders was now sender h lt at_was at_sender is matches =
    let count = h.count in
    record {
      count = length-set new k now ∙ count;
      done = λ v t less inside. ⊎_elim
          (λ (q : (eqb v k ≡ true) × (v ≡ k)).
          let here : get_or (set new k now) v t ≡ now = ap (λ i. get_or (set new k now) i t) q.1 ∙ get_or-set_same new k now t (omega arith) in
          let before : was ≡ get_or old v t = at_was ∙ (same_read new k was t (omega arith) ∙ (h.left k t (omega arith) lt ∙ ap (λ i. get_or old i t) (sym q.1))) in
          here ∙ (is ∙ (λ i. gather_into (before i) ((at_sender ∙ ap (at_place senders) (sym q.1)) i))))
          (λ (q : (eqb v k ≡ false) × (v ≢ k)). let n = q.1 in get_or-set_other new k v now t n ∙ h.done v t (omega arith) inside)
          (eqb_tells v k);
      left = λ v t more inside. get_or-set_other new k v now t (λ e. absurd (omega arith)) ∙ h.left v t (omega arith) inside;
      matches = λ v t s less inside found. ⊎_elim
          (λ (q : (eqb v k ≡ true) × (v ≡ k)).
          let before : was ≡ get_or old v t = at_was ∙ (same_read new k was t (omega arith) ∙ (h.left k t (omega arith) lt ∙ ap (λ i. get_or old i t) (sym q.1))) in
          let its : sender ≡ Some s = at_sender ∙ (ap (at_place senders) (sym q.1) ∙ found) in
          let P : TakerView → Type 0 = λ w. AgreesWithSender w.state s.state in
          subst P before (known_some was sender s its matches))
          (λ (q : (eqb v k ≡ false) × (v ≢ k)). let n = q.1 in h.matches v t s (omega arith) inside found)
          (eqb_tells v k);
    }

pub gathers_row : (k : ℕ) (old new : List TakerView) (senders : List (Option SenderView)) → GathersTo k old new senders → k ≡ length senders → length senders ≡ length old → GathersRow old new senders
gathers_row k old new senders h end same = record { takers = h.count; taker = λ v t lt. h.done v t (omega arith) lt; matches = λ v t s lt found. h.matches v t s (omega arith) lt found }

-- each taker is still the taker of its inbox
pub into_inbox : (t : TakerView) (s : Option SenderView) → (gather_into t s).inbox ≡ t.inbox
into_inbox t None = refl
into_inbox t (Some s) = refl

pub still_takers : (inboxes : List InboxId) (k : ℕ) (old new : List TakerView) (senders : List (Option SenderView)) → AreTakersOf inboxes old → GathersTo k old new senders → AreTakersOf inboxes new
still_takers inboxes k old new senders a h =
    let count = a.count in
    record {
      count = h.count ∙ count;
      its = λ v id t lt. ⊎_elim
          (λ (less : v < k). ap (λ (u : TakerView). u.inbox) (h.done v t less (omega arith)) ∙ (into_inbox (get_or old v t) (at_place senders v) ∙ a.its v id t lt))
          (λ (more : k ≤ v). ap (λ (u : TakerView). u.inbox) (h.left v t more (omega arith)) ∙ a.its v id t lt)
          (cases_lt v k);
    }

pub sender_fits : (inboxes : List InboxId) (senders : List (Option SenderView)) (v : ℕ) (id : InboxId) (sender : Option SenderView) → AreSendersOn inboxes senders → v < length inboxes
    → id ≡ get_or inboxes v id → sender ≡ at_place senders v → IfSome sender (λ s. s.inbox ≡ id)
sender_fits inboxes senders v id None h lt at_id at_sender = tt
sender_fits inboxes senders v id (Some s) h lt at_id at_sender = h.its v id s lt (sym at_sender) ∙ sym at_id

-- the first of the senders that are left
pub next_is : (senders rest : List (Option SenderView)) (k : ℕ) (sender : Option SenderView) → drop k senders ≡ sender ∷ rest → (k < length senders) × (sender ≡ at_place senders k) × (rest ≡ drop (k + 1) senders)
next_is [] rest zero sender e = absurd cc
next_is [] rest (suc k) sender e = absurd cc
next_is (x ∷ xs) rest zero sender e = (omega arith, cc, cc)
next_is (x ∷ xs) rest (suc k) sender e =
    let h = next_is xs rest k sender e in
    let less = h.0 in
    (omega arith, h.1, h.2 ∙ rw (add-one k, add-one (suc k)) refl)

-- ---- the senders at the first k places are made
pub record OpensTo (worker k : ℕ) (old new : List TakerView) (senders : List (Option SenderView)) : Type 0 where
  pub takers : length new ≡ length old
  pub count : length senders ≡ k
  pub taker : (v : ℕ) (t : TakerView) → v < k → v < length old → slice_index_or new v t ≡ opened_taker (v == worker) (slice_index_or old v t)
  pub sender : (v : ℕ) (t : TakerView) → v < k → v < length old → at_place senders v ≡ opened_sender (v == worker) (slice_index_or old v t)
  pub left : (v : ℕ) (t : TakerView) → k ≤ v → v < length old → slice_index_or new v t ≡ slice_index_or old v t

opened_inbox : (own : Bool) (t : TakerView) → (opened_taker own t).inbox ≡ t.inbox
opened_inbox true t = refl
opened_inbox false t = refl

pub opened_takers : (inboxes : List InboxId) (worker : ℕ) (old new : List TakerView) (senders : List (Option SenderView)) → AreTakersOf inboxes old → Opens worker old new senders → AreTakersOf inboxes new
opened_takers inboxes worker old new senders a h =
    let count = a.count in
    record { count = h.takers ∙ count; its = λ v id t lt. ap (λ (u : TakerView). u.inbox) (h.taker v t (omega arith)) ∙ (opened_inbox (v == worker) (get_or old v t) ∙ a.its v id t lt) }

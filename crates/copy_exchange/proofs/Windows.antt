-- The endpoints and the takers in a window, and in the next one.
use Rattle.std.proofs.Common.{[], ◌≡◌, ℕ, ◌==◌, Bool, true, false, cond, List, ◌∷◌, ◌++◌, filter, refl, sym, ap, ◌∙◌, subst, arith}
use Rattle.copy_exchange.specs.Crossed.{is_to}
use Rattle.copy_exchange.specs.Endpoints.{IsEndpoint, Collects, Delivers, StartsAs, Returns}
use Rattle.copy_exchange.specs.Inboxes.{IsFresh, IsSettled}
use Rattle.copy_exchange.specs.Takers.{IsOrderly}
use Rattle.copy_exchange.specs.declared.endpoint.Endpoint.{Endpoint}
use Rattle.copy_inbox.proofs.Parts.{part-not_nil}
use Rattle.copy_inbox.specs.Gathered.{Whole}
use Rattle.copy_inbox.specs.Handles.{InboxId, TakerView, PacketsLeft}
use Rattle.copy_inbox.specs.Items.{copies_of, part}
use Rattle.copy_inbox.specs.Views.{make_taker_state}
use Rattle.copy_inbox.specs.declared.items.Item.{Item}
use Rattle.copy_inbox.specs.declared.rule.TakerState.{TakerState}
use Rattle.radio_packet.specs.declared.copy.RadioCopy.{RadioCopy}
use Rattle.window_laws.specs.Windows.{is_from_sender}
use Rattle.copy_exchange.proofs.Delivered.{stays_on}
use Rattle.copy_exchange.proofs.Parts.{from}

-- ---- at the start
pub none_left : (rest : List Item) → ((s : ℕ) → part s rest ≡ []) → rest ≡ []
none_left [] h = refl
none_left (x ∷ xs) h = absurd (part-not_nil x xs (h x.sender))

orderly_fresh : (marked : Bool) → IsOrderly (make_taker_state marked 0 [] [])
orderly_fresh marked = record {
  in_order = λ rest r s. ap (λ l. from s (copies_of l)) (none_left rest (λ k. r.1 k refl));
  begun = tt;
  unseen = λ s h. refl;
  apart = tt;
  later = λ u lt. absurd (omega arith);
  numbers = tt;
}

pub settled_fresh : (inbox : InboxId) (t : TakerView) → IsFresh inbox t → IsSettled inbox t
settled_fresh inbox t h =
    let P : TakerState → Type 0 = λ d. IsOrderly d × PacketsLeft d in
    let then_ = subst P (sym h.1) (orderly_fresh t.state.marked, tt) in
    record {
      its = h.0;
      orderly = then_.0;
      all = λ s lt. absurd (let none : t.state.made ≡ 0 = ap (λ (d : TakerState). d.made) h.1 in omega arith);
      no_mark = then_.1;
    }

-- ---- in a window
filter_none : (p : RadioCopy → Bool) (s : ℕ) (copies : List RadioCopy) → from s copies ≡ [] → from s (filter p copies) ≡ []
filter_none p s [] h = refl
filter_none p s (x ∷ xs) h = cases (is_from_sender s x) (p x) refl refl (filter_none p s xs)
  where
    cases : (b c : Bool) → is_from_sender s x ≡ b → p x ≡ c → (from s xs ≡ [] → from s (filter p xs) ≡ []) → from s (filter p (x ∷ xs)) ≡ []
    cases true c e f rest = absurd (let k : x ∷ from s xs ≡ [] = ap (λ (q : Bool). cond q (x ∷ from s xs) (from s xs)) (sym e) ∙ h in cc)
    cases false true e f rest =
        let k : from s xs ≡ [] = ap (λ (q : Bool). cond q (x ∷ from s xs) (from s xs)) (sym e) ∙ h in
        ap (λ (q : Bool). from s (cond q (x ∷ filter p xs) (filter p xs))) f ∙ (ap (λ (q : Bool). cond q (x ∷ from s (filter p xs)) (from s (filter p xs))) e ∙ rest k)
    cases false false e f rest =
        let k : from s xs ≡ [] = ap (λ (q : Bool). cond q (x ∷ from s xs) (from s xs)) (sym e) ∙ h in
        ap (λ (q : Bool). from s (cond q (x ∷ filter p xs) (filter p xs))) f ∙ rest k

-- an endpoint that was made, has collected, and has delivered copies from its own worker's motes is at the end of the
-- window
pub returns_from : (inboxes : List InboxId) (owners : List ℕ) (worker_of : ℕ → ℕ) (t : TakerView) (a b c : Endpoint) (arrived out : List RadioCopy) → StartsAs t a → Collects a b arrived → Delivers owners b c out → IsEndpoint inboxes c
    → ((s : ℕ) → (worker_of s == a.worker) ≡ false → filter (is_from_sender s) out ≡ []) → Returns inboxes worker_of a c
returns_from inboxes owners worker_of t a b c arrived out starts collects delivers endpoint own =
    let stays = stays_on a b c collects.stays delivers.stays in
    let P : TakerView → Type 0 = λ u. Whole u.state.gathered u.state.taken in
    record {
      stays = stays;
      endpoint = endpoint;
      plain = ap (λ (u : TakerView). u.state.marked) delivers.taker ∙ collects.plain;
      collected = subst P (sym delivers.taker) collects.all;
      own = λ s v other.
          let other' : (worker_of s == a.worker) ≡ false = ap (λ w. worker_of s == w) (sym stays.worker) ∙ other in
          ap (from s) (delivers.adds v ∙ ap (λ l. l ++ filter (is_to owners v) out) (collects.delivers_none v ∙ starts.nothing v)) ∙ filter_none (is_to owners v) s out (own s other');
    }

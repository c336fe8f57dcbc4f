-- The items of a share's agenda: wakes of the worker's motes and copies for these motes, none before the share's
-- moment.
use Rattle.std.proofs.Common.{◌≡◌, ℕ, ◌≤◌, Bool, true, false, cond, not, ◌&&◌, ltb, eqb, List, [], ◌∷◌, refl, sym, ap, subst, inl, inr, arith, Option, Some, None}
use Rattle.std.proofs.lemmas.Bool.{cases_Bool, eq-eqb, and_parts, le-ltb, ltb-false}
use Rattle.std.proofs.lemmas.Bool.Decides.{nat_tests}
use Rattle.std.specs.List.{filter, AllByRecursion}
use Rattle.copy_exchange.specs.Crossed.{copies_seen}
use Rattle.mote_net.specs.Net.{NetModel}
use Rattle.net_agenda.specs.Buckets.{Buckets}
use Rattle.net_agenda.specs.NetSystem.{system_of}
use Rattle.radio_packet.specs.declared.copy.RadioCopy.{RadioCopy}
use Rattle.window_laws.proofs.Lists.{every_passes, every_weaker}
use Rattle.window_laws.specs.Agenda.{Item, Wake, Packet, moment_of, mote_of, is_wake_of, packets, wake_items}
use Rattle.window_laws.specs.Windows.{NoneBefore, is_from_sender}
use Rattle.worker_window.specs.Share.{Motes, HasToCome, is_to_come, wake_from}

-- a property of each mote's wakes and each sender's copies is a property of each item
module _ (P : Item → Type 0) where
  abbrev pub Wakes : List Item → Type 0
  Wakes items = (k : ℕ) → AllByRecursion P (filter (is_wake_of k) items)

  abbrev pub Copies : List Item → Type 0
  Copies items = (s : ℕ) → AllByRecursion (λ c. P (Packet c)) (filter (is_from_sender s) (packets items))

  rest_wakes : (t m : ℕ) (items : List Item) → Wakes (Wake t m ∷ items) → Wakes items
  rest_wakes t m items h k = elim (cases_Bool (eqb m k)) [ inl e ↦ (let g = rw e at (h k) in g.1) | inr e ↦ (let g = rw e at (h k) in g) ]

  rest_copies : (c : RadioCopy) (items : List Item) → Copies (Packet c ∷ items) → Copies items
  rest_copies c items h s = elim (cases_Bool (eqb c.sender s)) [ inl e ↦ (let g = rw e at (h s) in g.1) | inr e ↦ (let g = rw e at (h s) in g) ]

  pub every_item : (items : List Item) → Wakes items → Copies items → AllByRecursion P items
  every_item [] w c = tt
  every_item (Wake t m ∷ items) w c =
      let e : eqb m m ≡ true = eq-eqb m m refl in
      let g = rw e at (w m) in
      (g.0, every_item items (rest_wakes t m items w) c)
  every_item (Packet x ∷ items) w c =
      let e : eqb x.sender x.sender ≡ true = eq-eqb x.sender x.sender refl in
      let g = rw e at (c x.sender) in
      (g.0, every_item items w (rest_copies x items c))

  -- conversely, a property of each item is a property of each mote's wakes
  pub wake_of_all : (items : List Item) (k : ℕ) → AllByRecursion P items → AllByRecursion P (filter (is_wake_of k) items)
  wake_of_all [] k h = tt
  wake_of_all (x ∷ items) k h = elim (cases_Bool (is_wake_of k x)) [ inl e ↦ rw e (h.0, wake_of_all items k h.1) | inr e ↦ rw e (wake_of_all items k h.1) ]

  pub packets_of_all : (items : List Item) → AllByRecursion P items → AllByRecursion (λ c. P (Packet c)) (packets items)
  packets_of_all [] h = tt
  packets_of_all (Wake t m ∷ items) h = packets_of_all items h.1
  packets_of_all (Packet c ∷ items) h = (h.0, packets_of_all items h.1)

not_before : (a b : ℕ) → not (ltb a b) ≡ true → b ≤ a
not_before a b h = grind (arith, nat_tests)

pub to_come : (own : Bool) (at from : ℕ) → (own && not (ltb at from)) ≡ true → (own ≡ true) × (from ≤ at)
to_come own at from h = let p = and_parts own (not (ltb at from)) h in (p.0, not_before at from p.1)

-- a wake that isn't before the moment
pub wake_still : (from : ℕ) (wake : Option ℕ) → NoneBefore from wake → wake_from from wake ≡ wake
wake_still from None h = refl
wake_still from (Some t) h = let e : ltb t from ≡ false = le-ltb t from h in rw e refl

-- all wakes stay, if no wake is before the moment
pub all_wakes : (own : ℕ → Bool) (from : ℕ) (motes : Motes) → ((k : ℕ) → own k ≡ true → NoneBefore from (motes k).wake) → (k : ℕ)
    → cond (own k) (wake_items k (wake_from from (motes k).wake)) [] ≡ cond (own k) (wake_items k (motes k).wake) []
all_wakes own from motes quiet k = owners (own k) refl
  where
    owners : (b : Bool) → own k ≡ b → cond b (wake_items k (wake_from from (motes k).wake)) [] ≡ cond b (wake_items k (motes k).wake) []
    owners true e = ap (wake_items k) (wake_still from (motes k).wake (quiet k e))
    owners false e = refl

module _ (n : NetModel) (own : ℕ → Bool) (from : ℕ) (motes : Motes) (taken : List RadioCopy) (buckets : Buckets) (has : HasToCome n own from motes taken buckets) where
  -- the item is for a mote of the worker, and isn't before the moment
  abbrev pub IsInside : Item → Type 0
  IsInside item = (own (mote_of item) ≡ true) × (from ≤ moment_of item)

  wake_inside : (k : ℕ) (b : Bool) → own k ≡ b → (wake : Option ℕ) → AllByRecursion IsInside (cond b (wake_items k (wake_from from wake)) [])
  wake_inside k false e wake = tt
  wake_inside k true e None = tt
  wake_inside k true e (Some t) = elim (cases_Bool (ltb t from)) [ inl f ↦ rw f tt | inr f ↦ rw f ((e, ltb-false t from f), tt) ]

  pub inside : AllByRecursion IsInside has.items
  inside =
      every_item IsInside has.items
      (λ k. subst (AllByRecursion IsInside) (sym (has.wakes k)) (wake_inside k (own k) refl (motes k).wake))
      (λ s. subst (AllByRecursion (λ c. IsInside (Packet c))) (sym (has.copies s))
      (every_weaker _ _ (λ c h. to_come (own c.to) c.at from h) _ (every_passes (is_to_come own from) (copies_seen (system_of n) own motes taken s))))

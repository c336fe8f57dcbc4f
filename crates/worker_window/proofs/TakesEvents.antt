-- The events that are taken out of an agenda, bucket by bucket.
use Rattle.std.proofs.Common.{◌≡◌, ℕ, ◌<◌, ◌≤◌, Bool, true, false, cond, not, ◌&&◌, ◌||◌, ltb, eqb, List, [], ◌∷◌, ◌++◌, map, refl, sym, ap, ◌∙◌, subst, inl, inr, arith, append_assoc, append-nil, Some}
use Rattle.std.proofs.Math.Bool.{or-false, or-true}
use Rattle.std.proofs.lemmas.Bool.{cases_Bool, cases_eq, eq-eqb, ne_eqb, eqb-true, and_parts, ltb-false, ltb-true, not-true}
use Rattle.std.proofs.lemmas.Bool.Decides.{nat_tests}
use Rattle.std.proofs.lemmas.List.Elements.{filter-append}
use Rattle.std.specs.List.{filter, list_any, AllByRecursion}
use Rattle.net_agenda.proofs.Ranks.{turns_left, left_falls}
use Rattle.net_agenda.specs.Buckets.{Buckets, HoldsItems, arrivals_at, first_key}
use Rattle.net_agenda.specs.Items.{copy_at}
use Rattle.radio_packet.specs.declared.arrival.Arrival.{Arrival}
use Rattle.radio_packet.specs.declared.copy.RadioCopy.{RadioCopy}
use Rattle.window_laws.proofs.Lists.{filter_none, filter_every, filter_stronger, every_append, every_weaker, every_filter, every_both, any_every, filled_any, is_filled}
use Rattle.window_laws.specs.Agenda.{Item, Wake, Packet, moment_of, mote_of, comes_at, packets, IsLeast}
use Rattle.window_laws.specs.Order.{sorted_by, in_order}
use Rattle.window_laws.specs.Windows.{is_at}
use Rattle.worker_window.specs.Events.{is_not_before, calls_for, TakesCopiesFor}
use Rattle.window_laws.proofs.Ahead.{on_from}
use Rattle.worker_window.proofs.Rises.{Rises, in_order_rises, rises_on, is_rising_from, copies_again, every_sorted}

-- some items were taken, each mote was given its copies, and the buckets hold the rest
pub record Part (until : ℕ) (items : List Item) (given : ℕ → List RadioCopy) (called : ℕ → Bool) (buckets : Buckets) : Type 0 where
  pub rest : List Item
  pub holds : HoldsItems buckets rest
  pub late : filter (is_not_before until) rest ≡ filter (is_not_before until) items
  pub calls : (k : ℕ) → list_any (calls_for until k) items ≡ (called k || list_any (calls_for until k) rest)
  pub parts : (t k : ℕ) → in_order (packets (filter (comes_at t k) items)) ≡ filter (is_at t) (given k) ++ in_order (packets (filter (comes_at t k) rest))
  pub early : (k : ℕ) → AllByRecursion (λ c. c.at < until) (given k)
  -- the remaining events of a mote are later than those that were taken for it
  pub ahead : (k : ℕ) → AllByRecursion (λ item. mote_of item ≡ k → AllByRecursion (λ c. c.at < moment_of item) (given k)) rest
  pub rises : (k : ℕ) → Rises (given k)
  pub inside : (p : Item → Bool) → AllByRecursion (λ item. p item ≡ true) items → AllByRecursion (λ item. p item ≡ true) rest

-- the tests as statements about numbers
late_not_due : (u k until t m : ℕ) → t < until → not (ltb u until) ≡ true → not (eqb u t && eqb k m) ≡ true
late_not_due u k until t m h e = grind (arith, nat_tests)

other_not_due : (u k j until t m : ℕ) → (j ≡ m → ⊥) → (ltb u until && eqb k j) ≡ true → not (eqb u t && eqb k m) ≡ true
other_not_due u k j until t m ne e = grind (arith, nat_tests)

due_calls : (u k until t m : ℕ) → t < until → (eqb u t && eqb k m) ≡ true → (ltb u until && eqb k m) ≡ true
due_calls u k until t m h e = grind (arith, nat_tests)

none_calls : (until u m k : ℕ) → until ≤ u → (ltb u until && eqb m k) ≡ false
none_calls until u m k h = grind (arith, nat_tests)

due_elsewhere : (u k s j t m : ℕ) → ((s ≡ t) × (j ≡ m) → ⊥) → (eqb u s && eqb k j) ≡ true → not (eqb u t && eqb k m) ≡ true
due_elsewhere u k s j t m ne e = grind (arith, nat_tests)

then_later : (u k t m : ℕ) → (ltb t u || (eqb u t && not (ltb k m))) ≡ true → not (eqb u t && eqb k m) ≡ true → k ≡ m → t < u
then_later u k t m h e f = grind (arith, nat_tests)

from_later : (until t m u k : ℕ) → until ≤ t → (ltb t u || (eqb u t && not (ltb k m))) ≡ true → until ≤ u
from_later until t m u k h e = grind (arith, nat_tests)

none_due : (until t k u m : ℕ) → t < until → until ≤ u → (eqb u t && eqb m k) ≡ false
none_due until t k u m h e = grind (arith, nat_tests)

is_late_from : (until u : ℕ) → until ≤ u → not (ltb u until) ≡ true
is_late_from until u h = grind (arith, nat_tests)

sooner_at : (c t until : ℕ) → c < until → until ≤ t → eqb c t ≡ false
sooner_at c t until h k = ne_eqb c t (λ e. absurd (omega arith))

in_order_nil : in_order [] ≡ []
unfolding sorted_by
in_order_nil = refl

-- a test that implies another
any_within : {X : Type 0} (q p : X → Bool) → ((x : X) → q x ≡ true → p x ≡ true) → (xs : List X) → list_any q (filter p xs) ≡ list_any q xs
any_within q p h xs = sym (filled_any q (filter p xs)) ∙ (ap is_filled (filter_stronger q p h xs) ∙ filled_any q xs)

any_none : {X : Type 0} (p : X → Bool) (xs : List X) → AllByRecursion (λ x. p x ≡ false) xs → list_any p xs ≡ false
any_none p xs h = sym (filled_any p xs) ∙ ap is_filled (filter_none p xs h)

any_weaker : {X : Type 0} (p q : X → Bool) → ((x : X) → p x ≡ true → q x ≡ true) → (xs : List X) → list_any p xs ≡ true → list_any q xs ≡ true
any_weaker p q f [] h = h
any_weaker p q f (x ∷ xs) h =
    elim (cases_Bool (q x)) [
      | inl e ↦ rw e refl
      | inr e ↦ rw e (elim (cases_Bool (p x)) [ inl g ↦ absurd (let k = f x g in cc) | inr g ↦ (let k = rw g at h in any_weaker p q f xs k) ])
    ]

due_parts : (t m : ℕ) (items : List Item) → AllByRecursion (λ c. (c.at ≡ t) × (c.to ≡ m)) (packets (filter (comes_at t m) items))
due_parts t m [] = tt
due_parts t m (Wake u k ∷ items) = elim (cases_Bool (comes_at t m (Wake u k))) [ inl e ↦ rw e (due_parts t m items) | inr e ↦ rw e (due_parts t m items) ]
due_parts t m (Packet c ∷ items) =
    elim (cases_Bool (comes_at t m (Packet c))) [
      | inl e ↦ (let p = and_parts (eqb c.at t) (eqb c.to m) e in rw e ((eqb-true c.at t p.0, eqb-true c.to m p.1), due_parts t m items))
      | inr e ↦ rw e (due_parts t m items)
    ]

pub none_yet : (until : ℕ) (items : List Item) (given : ℕ → List RadioCopy) (called : ℕ → Bool) (buckets : Buckets) → HoldsItems buckets items → ((k : ℕ) → given k ≡ []) → ((k : ℕ) → called k ≡ false)
    → Part until items given called buckets
none_yet until items given called buckets holds none not_called = record {
  rest = items;
  holds = holds;
  late = refl;
  calls = λ k. (let e = not_called k in rw e refl);
  parts = λ t k. (let e = none k in rw e refl);
  early = λ k. (let e = none k in rw e tt);
  ahead = λ k. (let e = none k in rw e (nothing _ items));
  rises = λ k. (let e = none k in rw e tt);
  inside = λ p all. all;
}
  where
    nothing : (P : Item → Type 0) (items : List Item) → AllByRecursion (λ item. P item → Unit {0}) items
    nothing P [] = tt
    nothing P (x ∷ items) = (λ _. tt, nothing P items)

module _ (until : ℕ) (items : List Item) (given : ℕ → List RadioCopy) (called : ℕ → Bool) (buckets : Buckets) (part : Part until items given called buckets) (t m : ℕ) (least : IsLeast t m part.rest) (soon : t < until)
    (arrivals : List Arrival) (are : arrivals ≡ arrivals_at t m part.rest) where
  abbrev rest : List Item
  rest = filter (λ item. not (comes_at t m item)) part.rest

  -- the copies that are taken now
  abbrev now : List RadioCopy
  now = in_order (packets (filter (comes_at t m) part.rest))

  now_parts : AllByRecursion (λ c. (c.at ≡ t) × (c.to ≡ m)) now
  now_parts = every_sorted (λ (c : RadioCopy). c.sender) (λ c. c.number) (λ c. (c.at ≡ t) × (c.to ≡ m)) (packets (filter (comes_at t m) part.rest)) (due_parts t m part.rest)

  now_at : AllByRecursion (λ c. c.at ≡ t) now
  now_at = every_weaker _ _ (λ c h. h.0) now now_parts

  now_is : map (copy_at t m) arrivals ≡ now
  now_is = ap (map (copy_at t m)) are ∙ copies_again t m now now_parts

  sooner : AllByRecursion (λ c. c.at < t) (given m)
  sooner = any_every _ (comes_at t m) _ (λ item e h. let p = and_parts (eqb (moment_of item) t) (eqb (mote_of item) m) e in
      subst (λ u. AllByRecursion (λ c. c.at < u) (given m)) (eqb-true (moment_of item) t p.0) (h (eqb-true (mote_of item) m p.1))) part.rest least.is_there (part.ahead m)

  -- the mote's copies, with those that are taken now
  pub rises_more : Rises (given m ++ map (copy_at t m) arrivals)
  rises_more =
      subst (λ l. Rises (given m ++ l)) (sym now_is)
      (rises_on t (given m) now (part.rises m) (in_order_rises t (packets (filter (comes_at t m) part.rest)) (every_weaker _ _ (λ c h. h.0) _ (due_parts t m part.rest))) sooner now_at)

  -- a test of motes that each item passes, so also this mote
  pub passes : (p : ℕ → Bool) → AllByRecursion (λ item. p (mote_of item) ≡ true) items → p m ≡ true
  passes p all =
      any_every _ (comes_at t m) _ (λ item e h. let parts = and_parts (eqb (moment_of item) t) (eqb (mote_of item) m) e in ap p (sym (eqb-true (mote_of item) m parts.1)) ∙ h) part.rest least.is_there
      (part.inside (λ item. p (mote_of item)) all)

  module _ (new : ℕ → List RadioCopy) (new_called : ℕ → Bool) (after : Buckets) (holds : HoldsItems after (filter (λ item. not (comes_at t m item)) part.rest))
      (more : new m ≡ given m ++ map (copy_at t m) arrivals) (given_other : (k : ℕ) → (k ≡ m → ⊥) → new k ≡ given k)
      (called_now : new_called m ≡ true) (called_else : (k : ℕ) → (k ≡ m → ⊥) → new_called k ≡ called k) where
    given_mine : new m ≡ given m ++ now
    given_mine = more ∙ ap (λ l. given m ++ l) now_is

    -- a proof by cases: this mote, or another
    by_mote : (P : ℕ → Type 0) → P m → ((k : ℕ) → (k ≡ m → ⊥) → P k) → (k : ℕ) → P k
    by_mote P one others k = elim (cases_eq k m) [ inl e ↦ subst P (sym e) one | inr ne ↦ others k ne ]

    rest_elsewhere : (s k : ℕ) → ((s ≡ t) × (k ≡ m) → ⊥) → filter (comes_at s k) rest ≡ filter (comes_at s k) part.rest
    rest_elsewhere s k ne = filter_stronger (comes_at s k) (λ item. not (comes_at t m item)) (λ item e. due_elsewhere (moment_of item) (mote_of item) s k t m ne e) part.rest

    rest_here : filter (comes_at t m) rest ≡ []
    rest_here = filter_none (comes_at t m) rest (every_filter (λ item. Unit {0}) _ (λ item. not (comes_at t m item)) (λ item _ e. not-true (comes_at t m item) e) part.rest (units part.rest))
      where
        units : (xs : List Item) → AllByRecursion (λ item. Unit {0}) xs
        units [] = tt
        units (x ∷ xs) = (tt, units xs)

    parts_mine : (s : ℕ) → in_order (packets (filter (comes_at s m) items)) ≡ filter (is_at s) (new m) ++ in_order (packets (filter (comes_at s m) rest))
    parts_mine s =
        part.parts s m
        ∙ sym (ap (λ l. filter (is_at s) l ++ in_order (packets (filter (comes_at s m) rest))) given_mine
        ∙ (ap (λ l. l ++ in_order (packets (filter (comes_at s m) rest))) (filter-append (is_at s) (given m) now)
        ∙ (append_assoc (filter (is_at s) (given m)) (filter (is_at s) now) (in_order (packets (filter (comes_at s m) rest)))
        ∙ ap (λ l. filter (is_at s) (given m) ++ l) (elim (cases_eq s t) [
          | inl e ↦ subst (λ u. filter (is_at u) now ++ in_order (packets (filter (comes_at u m) rest)) ≡ in_order (packets (filter (comes_at u m) part.rest))) (sym e)
              (ap (λ l. l ++ in_order (packets (filter (comes_at t m) rest))) (filter_every (is_at t) now (every_weaker _ _ (λ c h. eq-eqb c.at t h) now now_at))
              ∙ (ap (λ l. now ++ in_order (packets l)) rest_here ∙ (ap (λ l. now ++ l) in_order_nil ∙ append-nil now)))
          | inr ne ↦ ap (λ l. l ++ in_order (packets (filter (comes_at s m) rest))) (filter_none (is_at s) now (every_weaker _ _ (λ c h. ne_eqb c.at s (λ f. ne (sym f ∙ h))) now now_at))
              ∙ ap (λ l. in_order (packets l)) (rest_elsewhere s m (λ f. ne f.0))
        ]))))

    parts_other : (k : ℕ) → (k ≡ m → ⊥) → (s : ℕ) → in_order (packets (filter (comes_at s k) items)) ≡ filter (is_at s) (new k) ++ in_order (packets (filter (comes_at s k) rest))
    parts_other k ne s =
        part.parts s k
        ∙ sym (ap (λ l. filter (is_at s) l ++ in_order (packets (filter (comes_at s k) rest))) (given_other k ne)
        ∙ ap (λ l. filter (is_at s) (given k) ++ in_order (packets l)) (rest_elsewhere s k (λ f. ne f.1)))

    calls_mine : list_any (calls_for until m) items ≡ (new_called m || list_any (calls_for until m) rest)
    calls_mine =
        part.calls m
        ∙ (ap (λ b. called m || b) (any_weaker (comes_at t m) (calls_for until m) (λ item e. due_calls (moment_of item) (mote_of item) until t m soon e) part.rest least.is_there)
        ∙ (or-true (called m) ∙ sym (ap (λ b. b || list_any (calls_for until m) rest) called_now)))

    calls_other : (k : ℕ) → (k ≡ m → ⊥) → list_any (calls_for until k) items ≡ (new_called k || list_any (calls_for until k) rest)
    calls_other k ne =
        part.calls k
        ∙ (ap (λ b. b || list_any (calls_for until k) part.rest) (sym (called_else k ne))
        ∙ ap (λ b. new_called k || b) (sym (any_within (calls_for until k) (λ item. not (comes_at t m item)) (λ item e. other_not_due (moment_of item) (mote_of item) k until t m ne e) part.rest)))

    abbrev IsAhead : (ℕ → List RadioCopy) → ℕ → Item → Type 0
    IsAhead given k item = mote_of item ≡ k → AllByRecursion (λ c. c.at < moment_of item) (given k)

    ahead_mine : AllByRecursion (IsAhead new m) rest
    ahead_mine =
        every_filter _ _ (λ item. not (comes_at t m item)) (λ item h e f.
        subst (λ l. AllByRecursion (λ c. c.at < moment_of item) l) (sym given_mine)
        (every_append _ (given m) now (h.1 f)
        (every_weaker _ _ (λ c g. let lt = then_later (moment_of item) (mote_of item) t m h.0 e f in at_then c.at (moment_of item) g lt) now now_at)))
        part.rest (every_both _ _ part.rest least.is_first (part.ahead m))
      where
        at_then : (a u : ℕ) → a ≡ t → t < u → a < u
        at_then a u e h = omega arith

    ahead_other : (k : ℕ) → (k ≡ m → ⊥) → AllByRecursion (IsAhead new k) rest
    ahead_other k ne =
        every_filter _ _ (λ item. not (comes_at t m item)) (λ item h e f. subst (λ l. AllByRecursion (λ c. c.at < moment_of item) l) (sym (given_other k ne)) (h f)) part.rest (part.ahead k)

    early_mine : AllByRecursion (λ c. c.at < until) (new m)
    early_mine = subst (AllByRecursion (λ c. c.at < until)) (sym given_mine) (every_append _ (given m) now (part.early m) (every_weaker _ _ (λ c h. at_soon c.at h) now now_at))
      where
        at_soon : (a : ℕ) → a ≡ t → a < until
        at_soon a e = omega arith

    rises_mine : Rises (new m)
    rises_mine = subst Rises (sym more) rises_more

    pub one_bucket : Part until items new new_called after
    one_bucket = record {
      rest = rest;
      holds = holds;
      late = filter_stronger (is_not_before until) (λ item. not (comes_at t m item)) (λ item e. late_not_due (moment_of item) (mote_of item) until t m soon e) part.rest ∙ part.late;
      calls = by_mote (λ k. list_any (calls_for until k) items ≡ (new_called k || list_any (calls_for until k) rest)) calls_mine calls_other;
      parts = λ s. by_mote (λ k. in_order (packets (filter (comes_at s k) items)) ≡ filter (is_at s) (new k) ++ in_order (packets (filter (comes_at s k) rest))) (parts_mine s) (λ k ne. parts_other k ne s);
      early = by_mote (λ k. AllByRecursion (λ c. c.at < until) (new k)) early_mine (λ k ne. subst (AllByRecursion (λ c. c.at < until)) (sym (given_other k ne)) (part.early k));
      ahead = by_mote (λ k. AllByRecursion (IsAhead new k) rest) ahead_mine ahead_other;
      rises = by_mote (λ k. Rises (new k)) rises_mine (λ k ne. subst Rises (sym (given_other k ne)) (part.rises k));
      inside = λ p all. every_filter _ _ (λ item. not (comes_at t m item)) (λ item h e. h) part.rest (part.inside p all);
    }

-- nothing is left before the moment
module _ (until : ℕ) (items : List Item) (given : ℕ → List RadioCopy) (called : ℕ → Bool) (buckets : Buckets) (part : Part until items given called buckets) (over : AllByRecursion (λ item. until ≤ moment_of item) part.rest) where
  pub rest_is : part.rest ≡ filter (is_not_before until) items
  rest_is = sym (filter_every (is_not_before until) part.rest (every_weaker _ _ (λ item h. is_late_from until (moment_of item) h) part.rest over)) ∙ part.late

  at_each : (k t : ℕ) → filter (is_at t) (given k) ≡ cond (ltb t until) (in_order (packets (filter (comes_at t k) items))) []
  at_each k t =
      elim (cases_Bool (ltb t until)) [
        | inl e ↦ rw e (sym (part.parts t k
            ∙ (ap (λ l. filter (is_at t) (given k) ++ in_order (packets l))
            (filter_none (comes_at t k) part.rest (every_weaker _ _ (λ item h. none_due until t k (moment_of item) (mote_of item) (ltb-true t until e) h) part.rest over))
            ∙ (ap (λ l. filter (is_at t) (given k) ++ l) in_order_nil ∙ append-nil (filter (is_at t) (given k))))))
        | inr e ↦ rw e (filter_none (is_at t) (given k) (every_weaker _ _ (λ c h. sooner_at c.at t until h (ltb-false t until e)) (given k) (part.early k)))
      ]

  -- the called motes are those with an event
  pub calls_are : (k : ℕ) → called k ≡ list_any (calls_for until k) items
  calls_are k =
      sym (part.calls k
      ∙ (ap (λ b. called k || b) (any_none (calls_for until k) part.rest (every_weaker _ _ (λ item h. none_calls until (moment_of item) (mote_of item) k h) part.rest over)) ∙ or-false (called k)))

  pub takes_copies : (k : ℕ) → TakesCopiesFor until items k (given k)
  takes_copies k = record { rising = is_rising_from (given k) (part.rises k); all = at_each k }

pub least_over : (until t m : ℕ) (items : List Item) → IsLeast t m items → until ≤ t → AllByRecursion (λ item. until ≤ moment_of item) items
least_over until t m items least h = every_weaker _ _ (λ item e. from_later until t m (moment_of item) (mote_of item) h e) items least.is_first

pub empty_over : (until : ℕ) (items : List Item) → items ≡ [] → AllByRecursion (λ item. until ≤ moment_of item) items
empty_over until items e = subst (AllByRecursion (λ item. until ≤ moment_of item)) (sym e) tt

-- each bucket makes the first remaining event later
pub bucket_later : (until : ℕ) (items : List Item) (given : ℕ → List RadioCopy) (called : ℕ → Bool) (buckets after : Buckets) (part : Part until items given called buckets) (t m : ℕ) → IsLeast t m part.rest → t < until → m < 65536
    → first_key buckets ≡ Some (t, m) → HoldsItems after (filter (λ item. not (comes_at t m item)) part.rest) → turns_left 65536 until (first_key after) < turns_left 65536 until (first_key buckets)
bucket_later until items given called buckets after part t m least soon low first holds =
    let le : t ≤ until = omega arith in
    left_falls 65536 until t m (filter (λ item. not (comes_at t m item)) part.rest) (first_key buckets) (first_key after) after first low le
    (every_filter _ _ (λ item. not (comes_at t m item)) (λ item h e. on_from t m (moment_of item) (mote_of item) h (not-true (comes_at t m item) e)) part.rest least.is_first) holds refl

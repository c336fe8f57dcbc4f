-- A wake that is taken out, and then added again at the same moment and mote.
use Rattle.std.proofs.Common.{◌≡◌, ℕ, true, not, eqb, List, [], ◌∷◌, ◌++◌, length, refl, sym, ap, ◌∙◌, inl, inr, append-nil, arith, Option, Some, None, unwrap_or}
use Rattle.std.specs.List.{filter, AllByRecursion}
use Rattle.std.specs.Option.{option_eq}
use Rattle.std.proofs.lemmas.Bool.{cases_Bool, eqb-true, eq-eqb, and_parts, false≢true}
use Rattle.radio_packet.specs.declared.arrival.Arrival.{Arrival}
use Rattle.window_laws.specs.Agenda.{Item, Wake, Packet, comes_at, is_wake_of, mote_of, wake_items}
use Rattle.net_agenda.specs.Buckets.{Due, nothing_due, is_wake, gathered, due_of, is_here, with_wake, without_wake, is_none_left, Buckets, HoldsItems}
use Rattle.window_laws.proofs.Lists.{filter_not, filter_filter}
use Rattle.net_agenda.proofs.Gathered.{due_with, due_wake, due_unwoken, due_at_mote}

-- the wake is the only wake of its mote at its moment
one_wake : (u k : ℕ) (items : List Item) → filter (is_wake_of k) items ≡ Wake u k ∷ [] → length (filter is_wake (filter (comes_at u k) items)) ≡ 1
one_wake u k items one = ap length (only_of (filter (comes_at u k) items) (due_at_mote u k items) ∙ (filter_filter (is_wake_of k) (comes_at u k) items ∙ (ap (filter (comes_at u k)) one ∙ here (eq-eqb u u refl) (eq-eqb k k refl))))
  where
    only_of : (xs : List Item) → AllByRecursion (λ item. mote_of item ≡ k) xs → filter is_wake xs ≡ filter (is_wake_of k) xs
    only_of [] h = refl
    only_of (Wake t m ∷ xs) h = let e : eqb m k ≡ true = eq-eqb m k h.0 in rw e (ap (λ l. Wake t m ∷ l) (only_of xs h.1))
    only_of (Packet c ∷ xs) h = only_of xs h.1

    here : eqb u u ≡ true → eqb k k ≡ true → filter (comes_at u k) (Wake u k ∷ []) ≡ Wake u k ∷ []
    here e f = rw (e, f) refl

no_copies : (copies : List Arrival) → is_none_left copies ≡ true → copies ≡ []
no_copies [] h = refl
no_copies (a ∷ rest) h = absurd (false≢true h)

again : (d : Due) → d.wakes ≡ 1 → Some (with_wake (unwrap_or (without_wake (Some d)) nothing_due)) ≡ Some d
again d h =
    elim (cases_Bool (is_none_left d.copies)) [
      | inl e ↦ rw e (ap (λ (k : List Arrival). Some (due_with 1 k)) (sym (no_copies d.copies e)) ∙ ap (λ w. Some (due_with w d.copies)) (sym h))
      | inr e ↦ rw e (ap (λ w. Some (due_with w d.copies)) (sym h))
    ]

there : (xs : List Item) → length (filter is_wake xs) ≡ 1 → Some (with_wake (unwrap_or (without_wake (gathered xs)) nothing_due)) ≡ gathered xs
there [] h = absurd (omega arith)
there (x ∷ xs) h = again _ h

-- the due events don't change
due_again : (wake : Option ℕ) (m : ℕ) (items : List Item) → filter (is_wake_of m) items ≡ wake_items m wake → (t k : ℕ)
    → due_of t k items ≡ due_of t k (filter (λ item. not (is_wake_of m item)) items ++ wake_items m wake)
due_again None m items one t k = ap (due_of t k) (sym (append-nil _ ∙ filter_not (is_wake_of m) items one))
due_again (Some u) m items one t k =
    elim (cases_Bool (is_here u m t k)) [
      | inl e ↦ (let w = rw e at (due_wake rest u m t k) in
          let out = rw (eq-eqb u u refl, eq-eqb m m refl) at (due_unwoken items u m one u m) in
          let h = and_parts (eqb u t) (eqb m k) e in
          ap (λ x. due_of x k items) (sym (eqb-true u t h.0)) ∙ (ap (λ x. due_of u x items) (sym (eqb-true m k h.1))
          ∙ (sym (there (filter (comes_at u m) items) (one_wake u m items one)) ∙ (ap (λ o. Some (with_wake (unwrap_or o nothing_due))) (sym out) ∙ sym w))))
      | inr e ↦ (let w = rw e at (due_wake rest u m t k) in let out = rw e at (due_unwoken items u m one t k) in sym (w ∙ out))
    ]
  where
    rest : List Item
    rest = filter (λ item. not (is_wake_of m item)) items

pub rewoken : (buckets : Buckets) (wake : Option ℕ) (m : ℕ) (items : List Item) → HoldsItems buckets items → filter (is_wake_of m) items ≡ wake_items m wake
    → HoldsItems buckets (filter (λ item. not (is_wake_of m item)) items ++ wake_items m wake)
rewoken buckets wake m items holds one = record { due = λ t k. holds.due t k ∙ due_again wake m items one t k; ready = holds.ready }

pub same_wake : (a b : Option ℕ) → option_eq eqb a b ≡ true → a ≡ b
same_wake None None h = refl
same_wake None (Some b) h = absurd (false≢true h)
same_wake (Some a) None h = absurd (false≢true h)
same_wake (Some a) (Some b) h = ap Some (eqb-true a b h)

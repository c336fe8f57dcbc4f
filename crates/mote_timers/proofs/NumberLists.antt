-- Lists in which a number occurs at most once.
use Rattle.std.proofs.Common.{◌≡◌, ℕ, ◌<◌, ◌≤◌, Bool, true, false, eqb, List, [], ◌∷◌, length, refl, sym, ap, ◌∙◌, subst, arith}
use Rattle.std.specs.List.{AllByRecursion, IsDistinct, filter, items_where_true}
use Rattle.std.specs.List.Retain.{IsFiltered}
use Rattle.std.proofs.lemmas.Bool.{eq-eqb, or_parts, or_left, or_right, eqb-true, cond-false, cond_both}
use Rattle.std.proofs.lemmas.List.Elements.{All-cons, All-nil, All-contains, recursion_from_All, All-from_recursion}
use Rattle.std.proofs.lemmas.Map.Steps.{length-le_from_distinct_below}
use Rattle.std.proofs.lemmas.Map.Views.{Contains-from_any, any-filter_same}
use Rattle.mote_timers.specs.Numbers.{Numbers, numbers, AreNumbers, is_member, with_member}

apart_from_rest : (k : ℕ) (ks : List ℕ) → is_member k ks ≡ false → AllByRecursion (λ y. eqb k y ≡ false) ks
apart_from_rest k [] h = tt
apart_from_rest k (x ∷ xs) h = let both = or_parts (eqb k x) (is_member k xs) h in (both.0, apart_from_rest k xs both.1)

pub AreNumbers-nil : (n : ℕ) → AreNumbers [] n
unfolding IsDistinct
AreNumbers-nil n = record { once = tt; within = All-nil _ }

pub AreNumbers-cons : (k : ℕ) (ks : List ℕ) (n : ℕ) → AreNumbers ks n → k < n → is_member k ks ≡ false → AreNumbers (k ∷ ks) n
unfolding IsDistinct
AreNumbers-cons k ks n are below new = record {
  once = (apart_from_rest k ks new, are.once);
  within = All-cons (λ j. j < n) k ks below are.within;
}

-- each number occurs at most once, so the list isn't longer than the number of numbers below the limit
pub length-le_limit : (ks : List ℕ) (n : ℕ) → AreNumbers ks n → length ks ≤ n
length-le_limit ks n are = length-le_from_distinct_below ks n are.once (λ q there. All-contains (λ j. j < n) ks q are.within (Contains-from_any eqb-true q ks there))

-- if a number below the limit isn't on the list, the list has room for it
pub length-lt_limit : (k : ℕ) (ks : List ℕ) (n : ℕ) → AreNumbers ks n → k < n → is_member k ks ≡ false → length ks < n
length-lt_limit k ks n are below new = let most : length (k ∷ ks) ≤ n = length-le_limit (k ∷ ks) n (AreNumbers-cons k ks n are below new) in omega arith

-- the part of such a list that a filter keeps
module _ (n : ℕ) where
  kept_apart : (k : ℕ) (bs : List Bool) (ks : List ℕ) → AllByRecursion (λ y. eqb k y ≡ false) ks → AllByRecursion (λ y. eqb k y ≡ false) (items_where_true bs ks)
  kept_apart k [] ks h = tt
  kept_apart k (b ∷ bs) [] h = tt
  kept_apart k (true ∷ bs) (x ∷ xs) h = (h.0, kept_apart k bs xs h.1)
  kept_apart k (false ∷ bs) (x ∷ xs) h = kept_apart k bs xs h.1

  kept_once : (bs : List Bool) (ks : List ℕ) → IsDistinct eqb ks → IsDistinct eqb (items_where_true bs ks)
  unfolding IsDistinct
  kept_once [] ks h = tt
  kept_once (b ∷ bs) [] h = tt
  kept_once (true ∷ bs) (x ∷ xs) h = (kept_apart x bs xs h.0, kept_once bs xs h.1)
  kept_once (false ∷ bs) (x ∷ xs) h = kept_once bs xs h.1

  kept_within : (bs : List Bool) (ks : List ℕ) → AllByRecursion (λ k. k < n) ks → AllByRecursion (λ k. k < n) (items_where_true bs ks)
  kept_within [] ks h = tt
  kept_within (b ∷ bs) [] h = tt
  kept_within (true ∷ bs) (x ∷ xs) h = (h.0, kept_within bs xs h.1)
  kept_within (false ∷ bs) (x ∷ xs) h = kept_within bs xs h.1

  pub AreNumbers-filtered : {P : Type 0} (R : P → ℕ → Bool → P → Type 0) (p : P) (ks js : List ℕ) → IsFiltered R p ks js → AreNumbers ks n → AreNumbers js n
  AreNumbers-filtered R p ks js matches are = rw matches.4 (record {
    once = kept_once matches.0 ks are.once;
    within = All-from_recursion (λ k. k < n) _ (kept_within matches.0 ks (recursion_from_All (λ k. k < n) ks are.within));
  })

pub same_numbers : (a b : Numbers) → a.members ≡ b.members → a.limit ≡ b.limit → a ≡ b
same_numbers a b same_members same_limit = ap (λ ks. numbers ks a.limit) same_members ∙ ap (λ n. numbers b.members n) same_limit

-- a number that the code found to be missing from a list is missing from an equal list
pub lacks : (s t : Numbers) (k : ℕ) (answer : Bool) → s ≡ t → answer ≡ is_member k t.members → answer ≡ false → is_member k s.members ≡ false
lacks s t k answer same matches missing = ap (λ (l : Numbers). is_member k l.members) same ∙ sym matches ∙ missing

pub takes : (s t : Numbers) (k : ℕ) → s ≡ t → k < t.limit → k < s.limit
takes s t k same below = let limit = ap (λ (l : Numbers). l.limit) same in omega arith

pub with_member-new : (k : ℕ) (ks : List ℕ) → is_member k ks ≡ false → k ∷ ks ≡ with_member k ks
with_member-new k ks new = sym (cond-false (is_member k ks) ks (k ∷ ks) new)

-- a list stays without repeats when a number is added, or when the list is filtered
pub IsDistinct-with : (k : ℕ) (ks : List ℕ) → IsDistinct eqb ks → IsDistinct eqb (with_member k ks)
unfolding IsDistinct
IsDistinct-with k ks once = cond_both (is_member k ks) ks (k ∷ ks) (IsDistinct eqb) (λ _. once) (λ missing. (apart_from_rest k ks missing, once))

filtered_apart : (p : ℕ → Bool) (k : ℕ) (ks : List ℕ) → AllByRecursion (λ y. eqb k y ≡ false) ks → AllByRecursion (λ y. eqb k y ≡ false) (filter p ks)
filtered_apart p k [] h = tt
filtered_apart p k (x ∷ xs) h =
    cond_both (p x) (x ∷ filter p xs) (filter p xs) (AllByRecursion (λ y. eqb k y ≡ false)) (λ _. (h.0, filtered_apart p k xs h.1)) (λ _. filtered_apart p k xs h.1)

pub IsDistinct-filter : (p : ℕ → Bool) (ks : List ℕ) → IsDistinct eqb ks → IsDistinct eqb (filter p ks)
unfolding IsDistinct
IsDistinct-filter p [] once = tt
IsDistinct-filter p (k ∷ ks) once =
    cond_both (p k) (k ∷ filter p ks) (filter p ks) (IsDistinct eqb) (λ _. (filtered_apart p k ks once.0, IsDistinct-filter p ks once.1)) (λ _. IsDistinct-filter p ks once.1)

-- the members of a list after a change
pub is_member-with : (k : ℕ) (ks : List ℕ) → is_member k (with_member k ks) ≡ true
is_member-with k ks = cond_both (is_member k ks) ks (k ∷ ks) (λ (l : List ℕ). is_member k l ≡ true) (λ there. there) (λ _. or_left (eqb k k) _ (eq-eqb k k refl))

pub is_member-kept : (k j : ℕ) (ks : List ℕ) → is_member k ks ≡ true → is_member k (with_member j ks) ≡ true
is_member-kept k j ks there = cond_both (is_member j ks) ks (j ∷ ks) (λ (l : List ℕ). is_member k l ≡ true) (λ _. there) (λ _. or_right (eqb k j) _ there)

pub is_member-filter : (p : ℕ → Bool) (k : ℕ) (ks : List ℕ) → p k ≡ true → is_member k ks ≡ true → is_member k (filter p ks) ≡ true
is_member-filter p k ks passes there = any-filter_same (eqb k) p true (λ j same. subst (λ z. p z ≡ true) (eqb-true k j same) passes) ks ∙ there

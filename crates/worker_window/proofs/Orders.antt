-- Copies in order: the first copies, sorted, are all copies of their moment.
use Rattle.std.proofs.Common.{◌≡◌, ℕ, zero, suc, ◌-◌, ◌≤◌, min, Bool, true, false, not, ◌&&◌, ◌||◌, ltb, eqb, List, [], ◌∷◌, map, take, drop, length, Option, Some, None, refl, sym, ap, ◌∙◌, inl, inr, arith, length-drop}
use Rattle.std.proofs.lemmas.Bool.{cases_Bool, eqb-true, eqb-false, eq-eqb, ne_eqb, false≢true, and_parts}
use Rattle.std.proofs.lemmas.Bool.Decides.{nat_tests}
use Rattle.std.proofs.lemmas.List.{length-map}
use Rattle.std.proofs.lemmas.List.Sums.{take_while-cons}
use Rattle.net_agenda.specs.Buckets.{arrival_of}
use Rattle.radio_packet.specs.declared.arrival.Arrival.{Arrival}
use Rattle.radio_packet.specs.declared.copy.RadioCopy.{RadioCopy}
use Rattle.window_laws.proofs.Lists.{filter_none, filter_every, every_weaker, every_filter}
use Rattle.window_laws.specs.Order.{is_before, insert_by, sorted_by, in_order}
use Rattle.window_laws.specs.Windows.{is_at, NoneBefore, IsQuiet}
use Rattle.worker_window.specs.MoteWindow.{IsNextOf, comes_before, is_rising}
use Rattle.std.proofs.Math.Seq.{take-length}
use Rattle.std.specs.List.{slice_get, filter, list_any, list_all, take_while, AllByRecursion}
use Rattle.worker_window.proofs.Rises.{Rises}

module _ {X : Type 0} where
  every_of : (p : X → Bool) (xs : List X) → list_all p xs ≡ true → AllByRecursion (λ x. p x ≡ true) xs
  every_of p [] h = tt
  every_of p (x ∷ xs) h =
      elim (cases_Bool (p x)) [
        | inl e ↦ (e, every_of p xs (rw e at h))
        | inr e ↦ absurd (false≢true (rw e at h))
      ]

  insert_first : (first second : X → ℕ) (x : X) (ys : List X) → AllByRecursion (λ y. is_before first second x y ≡ true) ys → insert_by first second x ys ≡ x ∷ ys
  insert_first first second x [] h = refl
  insert_first first second x (y ∷ ys) h = rw h.0 refl

rest_rising : (x : RadioCopy) (xs : List RadioCopy) → is_rising (x ∷ xs) ≡ true → is_rising xs ≡ true
rest_rising x xs h = (and_parts (list_all (comes_before x) xs) (is_rising xs) h).1

pub rises : (xs : List RadioCopy) → is_rising xs ≡ true → Rises xs
rises [] h = tt
rises (x ∷ xs) h = (every_of (comes_before x) xs (and_parts (list_all (comes_before x) xs) (is_rising xs) h).0, rises xs (rest_rising x xs h))

pub is_rising-drop : (n : ℕ) (xs : List RadioCopy) → is_rising xs ≡ true → is_rising (drop n xs) ≡ true
is_rising-drop zero xs h = h
is_rising-drop (suc n) [] h = h
is_rising-drop (suc n) (x ∷ xs) h = is_rising-drop n xs (rest_rising x xs h)

at_le : (a b s t n m : ℕ) → (ltb a b || (eqb a b && (ltb s t || (eqb s t && not (ltb m n))))) ≡ true → a ≤ b
at_le a b s t n m h = grind (arith, nat_tests)

goes : (a b s t n m : ℕ) → a ≡ b → (ltb a b || (eqb a b && (ltb s t || (eqb s t && not (ltb m n))))) ≡ true → (ltb s t || (eqb s t && not (ltb m n))) ≡ true
goes a b s t n m e h = grind (arith, nat_tests)

rest_from : (x : RadioCopy) (xs : List RadioCopy) → AllByRecursion (λ y. comes_before x y ≡ true) xs → AllByRecursion (λ y. x.at ≤ y.at) xs
rest_from x xs h = every_weaker _ _ (λ y e. at_le x.at y.at x.sender y.sender x.number y.number e) xs h

-- no copy of a list in order arrives before the first one
from_first : (x : RadioCopy) (xs : List RadioCopy) → is_rising (x ∷ xs) ≡ true → AllByRecursion (λ y. x.at ≤ y.at) (x ∷ xs)
from_first x xs h = (omega arith, rest_from x xs (rises (x ∷ xs) h).0)

above : (m a b : ℕ) → m ≤ a → (a ≡ m → ⊥) → a ≤ b → eqb b m ≡ false
above m a b h ne g = ne_eqb b m (λ e. ne (omega arith))

none_at : (m : ℕ) (x : RadioCopy) (xs : List RadioCopy) → m ≤ x.at → is_at m x ≡ false → AllByRecursion (λ y. x.at ≤ y.at) xs → AllByRecursion (λ y. is_at m y ≡ false) xs
none_at m x xs h e g = every_weaker _ _ (λ y f. above m x.at y.at h (eqb-false x.at m e) f) xs g

front : (m : ℕ) (xs : List RadioCopy) → Rises xs → AllByRecursion (λ y. m ≤ y.at) xs → take_while (is_at m) xs ≡ filter (is_at m) xs
front m [] r h = refl
front m (x ∷ xs) r h =
    elim (cases_Bool (is_at m x)) [
      | inl e ↦ take_while-cons (is_at m) x xs ∙ rw e (ap (λ l. x ∷ l) (front m xs r.1 h.1))
      | inr e ↦ take_while-cons (is_at m) x xs ∙ rw e (sym (filter_none (is_at m) xs (none_at m x xs h.0 e (rest_from x xs r.0))))
    ]

behind : (m : ℕ) (xs : List RadioCopy) → Rises xs → AllByRecursion (λ y. m ≤ y.at) xs → drop (length (take_while (is_at m) xs)) xs ≡ filter (λ y. not (is_at m y)) xs
behind m [] r h = refl
behind m (x ∷ xs) r h =
    elim (cases_Bool (is_at m x)) [
      | inl e ↦ ap (λ l. drop (length l) (x ∷ xs)) (take_while-cons (is_at m) x xs) ∙ rw e (behind m xs r.1 h.1)
      | inr e ↦ ap (λ l. drop (length l) (x ∷ xs)) (take_while-cons (is_at m) x xs) ∙ rw e (ap (λ l. x ∷ l) (sym (filter_every (λ y. not (is_at m y)) xs (every_weaker _ _ (λ y f. ap not f) xs (none_at m x xs h.0 e (rest_from x xs r.0))))))
    ]

sorted_front : (m : ℕ) (xs : List RadioCopy) → Rises xs → in_order (filter (is_at m) xs) ≡ filter (is_at m) xs
unfolding sorted_by
sorted_front m [] r = refl
sorted_front m (x ∷ xs) r =
    elim (cases_Bool (is_at m x)) [
      | inl e ↦ (
          let ih = sorted_front m xs r.1 in
          let first = every_filter _ (λ y. is_before (λ copy. copy.sender) (λ copy. copy.number) x y ≡ true) (is_at m) (λ y b f. goes x.at y.at x.sender y.sender x.number y.number (eqb-true x.at m e ∙ sym (eqb-true y.at m f)) b) xs r.0 in
          rw (e, ih) (insert_first (λ copy. copy.sender) (λ copy. copy.number) x (filter (is_at m) xs) first))
      | inr e ↦ rw e (sorted_front m xs r.1)
    ]

-- the copies that the code takes from the front are those that the definition selects in the whole list
pub record IsTaken (m : ℕ) (xs : List RadioCopy) (given : List Arrival) : Type 0 where
  pub given_is : given ≡ map arrival_of (in_order (filter (is_at m) xs))
  pub rest_is : drop (length given) xs ≡ filter (λ y. not (is_at m y)) xs

pub taken : (m : ℕ) (xs : List RadioCopy) (given : List Arrival) → is_rising xs ≡ true → AllByRecursion (λ y. m ≤ y.at) xs → given ≡ map arrival_of (take_while (is_at m) xs) → IsTaken m xs given
taken m xs given r h e =
    let rising = rises xs r in
    record {
      given_is = e ∙ ap (map arrival_of) (front m xs rising h ∙ sym (sorted_front m xs rising));
      rest_is = ap (λ g. drop (length g) xs) e ∙ ap (λ n. drop n xs) (length-map (take_while (is_at m) xs) arrival_of) ∙ behind m xs rising h;
    }

pub quiet_before : (m until : ℕ) (wake : Option ℕ) (xs : List RadioCopy) → IsNextOf m wake xs → until ≤ m → IsQuiet until wake xs
quiet_before m until wake xs h le = record {
  no_wake = wake_before wake h.quiet.no_wake;
  no_copies = every_weaker _ _ (λ y f. omega arith) xs h.quiet.no_copies;
}
  where
    wake_before : (wake : Option ℕ) → NoneBefore m wake → NoneBefore until wake
    wake_before None g = tt
    wake_before (Some w) g = omega arith

own : (m : ℕ) → (eqb m m) ≡ true
own m = eq-eqb m m refl

copy_alone : (x : RadioCopy) (xs : List RadioCopy) → is_rising (x ∷ xs) ≡ true → IsNextOf x.at None (x ∷ xs)
copy_alone x xs r = record { quiet = record { no_wake = tt; no_copies = from_first x xs r }; comes = rw (own x.at) refl }

lesser : (w : ℕ) (x : RadioCopy) (xs : List RadioCopy) → is_rising (x ∷ xs) ≡ true → IsNextOf (min w x.at) (Some w) (x ∷ xs)
lesser w x xs r = record {
  quiet = record { no_wake = omega arith; no_copies = every_weaker _ _ (λ y f. omega arith) (x ∷ xs) (from_first x xs r) };
  comes = one w x.at (list_any (is_at (min w x.at)) xs);
}
  where
    one : (a b : ℕ) (c : Bool) → (eqb a (min a b) || (eqb b (min a b) || c)) ≡ true
    one a b c = grind (arith, nat_tests)

-- the rest of a slice, as the code computes it
pub rest_of : {X : Type 0} (n : ℕ) (s items : List X) → s ≡ items → take (length s - n) (drop n s) ≡ drop n items
rest_of n s items e = ap (λ k. take k (drop n s)) (sym (length-drop n s)) ∙ take-length (drop n s) ∙ ap (drop n) e

pub first_next : (x : RadioCopy) (xs : List RadioCopy) → Some x ≡ slice_get xs 0 → is_rising xs ≡ true → IsNextOf x.at None xs
first_next x [] e r = cc
first_next x (y ∷ ys) e r = let f : x ≡ y = cc in rw f (copy_alone y ys r)

pub lesser_next : (w : ℕ) (x : RadioCopy) (xs : List RadioCopy) → Some x ≡ slice_get xs 0 → is_rising xs ≡ true → IsNextOf (min w x.at) (Some w) xs
lesser_next w x [] e r = cc
lesser_next w x (y ∷ ys) e r = let f : x ≡ y = cc in rw f (lesser w y ys r)

-- The order of copies.
use Rattle.std.proofs.Common.{◌≡◌, ℕ, ◌<◌, Bool, true, false, not, ◌&&◌, ◌||◌, ltb, eqb, List, [], ◌∷◌, ◌++◌, map, refl, sym, ap, ◌∙◌, inl, inr, arith}
use Rattle.std.proofs.lemmas.Bool.{cases_Bool}
use Rattle.std.proofs.lemmas.Bool.Decides.{nat_tests}
use Rattle.std.specs.List.{list_all, AllByRecursion}
use Rattle.net_agenda.specs.Buckets.{arrival_of}
use Rattle.net_agenda.specs.Items.{copy_at}
use Rattle.radio_packet.specs.declared.copy.RadioCopy.{RadioCopy}
use Rattle.window_laws.proofs.Lists.{every_append, every_weaker, every_both}
use Rattle.window_laws.specs.Order.{is_before, insert_by, sorted_by, in_order}
use Rattle.worker_window.specs.MoteWindow.{comes_before, is_rising}

-- `is_before` as a statement about numbers
chained : (s a t b u c : ℕ) → (ltb s t || (eqb s t && not (ltb b a))) ≡ true → (ltb t u || (eqb t u && not (ltb c b))) ≡ true → (ltb s u || (eqb s u && not (ltb c a))) ≡ true
chained s a t b u c h k = grind (arith, nat_tests)

turned : (s a t b : ℕ) → (ltb s t || (eqb s t && not (ltb b a))) ≡ false → (ltb t s || (eqb t s && not (ltb a b))) ≡ true
turned s a t b h = grind (arith, nat_tests)

module _ {X : Type 0} (first second : X → ℕ) where
  abbrev pub IsUnder : X → List X → Type 0
  IsUnder x ys = AllByRecursion (λ y. is_before first second x y ≡ true) ys

  abbrev pub IsSorted : List X → Type 0
  IsSorted [] = Unit {0}
  IsSorted (x ∷ xs) = IsUnder x xs × IsSorted xs

  -- a property of each copy is a property of each copy in the sorted list
  pub every_insert : (P : X → Type 0) (x : X) (ys : List X) → P x → AllByRecursion P ys → AllByRecursion P (insert_by first second x ys)
  every_insert P x [] h k = (h, tt)
  every_insert P x (y ∷ ys) h k = elim (cases_Bool (is_before first second x y)) [ inl e ↦ rw e (h, k) | inr e ↦ rw e (k.0, every_insert P x ys h k.1) ]

  pub every_sorted : (P : X → Type 0) (xs : List X) → AllByRecursion P xs → AllByRecursion P (sorted_by first second xs)
  unfolding sorted_by
  every_sorted P [] h = tt
  every_sorted P (x ∷ xs) h = every_insert P x (sorted_by first second xs) h.0 (every_sorted P xs h.1)

  insert_sorted : (x : X) (ys : List X) → IsSorted ys → IsSorted (insert_by first second x ys)
  insert_sorted x [] h = (tt, tt)
  insert_sorted x (y ∷ ys) h =
      elim (cases_Bool (is_before first second x y)) [
        | inl e ↦ rw e ((e, every_weaker _ _ (λ z g. chained (first x) (second x) (first y) (second y) (first z) (second z) e g) ys h.0), h)
        | inr e ↦ rw e (every_insert (λ z. is_before first second y z ≡ true) x ys (turned (first x) (second x) (first y) (second y) e) h.0, insert_sorted x ys h.1)
      ]

  pub sorted_is_sorted : (xs : List X) → IsSorted (sorted_by first second xs)
  unfolding sorted_by
  sorted_is_sorted [] = tt
  sorted_is_sorted (x ∷ xs) = insert_sorted x (sorted_by first second xs) (sorted_is_sorted xs)

-- each copy may be before those after it
abbrev pub Rises : List RadioCopy → Type 0
Rises [] = Unit {0}
Rises (x ∷ xs) = AllByRecursion (λ y. comes_before x y ≡ true) xs × Rises xs

of_one_moment : (a b s n r m t : ℕ) → a ≡ t → b ≡ t → (ltb s r || (eqb s r && not (ltb m n))) ≡ true → (ltb a b || (eqb a b && (ltb s r || (eqb s r && not (ltb m n))))) ≡ true
of_one_moment a b s n r m t e f h = grind (arith, nat_tests)

of_two_moments : (a b t : ℕ) (c : Bool) → a < t → b ≡ t → (ltb a b || (eqb a b && c)) ≡ true
of_two_moments a b t c h e = grind (arith, nat_tests)

abbrev sender_of : RadioCopy → ℕ
sender_of c = c.sender

abbrev number_of : RadioCopy → ℕ
number_of c = c.number

rises_at : (t : ℕ) (xs : List RadioCopy) → IsSorted sender_of number_of xs → AllByRecursion (λ c. c.at ≡ t) xs → Rises xs
rises_at t [] s h = tt
rises_at t (x ∷ xs) s h = (
  every_weaker _ _ (λ y g. of_one_moment x.at y.at x.sender x.number y.sender y.number t h.0 g.1 g.0) xs (every_both _ _ xs s.0 h.1),
  rises_at t xs s.1 h.1,
)

-- the copies of one moment, sorted, are in order
pub in_order_rises : (t : ℕ) (xs : List RadioCopy) → AllByRecursion (λ c. c.at ≡ t) xs → Rises (in_order xs)
in_order_rises t xs h = rises_at t (in_order xs) (sorted_is_sorted sender_of number_of xs) (every_sorted sender_of number_of (λ c. c.at ≡ t) xs h)

-- copies in order after copies of earlier moments are in order
pub rises_on : (t : ℕ) (xs ys : List RadioCopy) → Rises xs → Rises ys → AllByRecursion (λ c. c.at < t) xs → AllByRecursion (λ c. c.at ≡ t) ys → Rises (xs ++ ys)
rises_on t [] ys r s h k = s
rises_on t (x ∷ xs) ys r s h k = (
  every_append _ xs ys r.0 (every_weaker _ _ (λ y e. of_two_moments x.at y.at t (ltb x.sender y.sender || (eqb x.sender y.sender && not (ltb y.number x.number))) h.0 e) ys k),
  rises_on t xs ys r.1 s h.1 k,
)

all_of : {X : Type 0} (p : X → Bool) (xs : List X) → AllByRecursion (λ x. p x ≡ true) xs → list_all p xs ≡ true
all_of p [] h = refl
all_of p (x ∷ xs) h = let e = h.0 in rw e (all_of p xs h.1)

pub is_rising_from : (xs : List RadioCopy) → Rises xs → is_rising xs ≡ true
is_rising_from [] r = refl
is_rising_from (x ∷ xs) r = let e = all_of (comes_before x) xs r.0 in rw e (is_rising_from xs r.1)

-- if arrivals are made from a mote's copies, the same copies can be made from the arrivals, the moment and the mote
pub copies_again : (t m : ℕ) (xs : List RadioCopy) → AllByRecursion (λ c. (c.at ≡ t) × (c.to ≡ m)) xs → map (copy_at t m) (map arrival_of xs) ≡ xs
copies_again t m [] h = refl
copies_again t m (x ∷ xs) h =
    ap (λ l. copy_at t m (arrival_of x) ∷ l) (copies_again t m xs h.1)
    ∙ (ap (λ (a : ℕ). record x { at = a; to = m } ∷ xs) (sym h.0.0) ∙ ap (λ (b : ℕ). record x { to = b } ∷ xs) (sym h.0.1))

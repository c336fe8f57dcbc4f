-- Whether a list has an element that passes a test: after a map, a filter, or a joining of lists.
use Rattle.std.proofs.Common.{◌≡◌, ℕ, zero, suc, ◌+◌, ◌<◌, ◌≤◌, Bool, true, false, cond, ◌&&◌, ◌||◌, ⊎_elim, List, [], ◌∷◌, map, Some, refl, ap, ◌∙◌, arith}
use Rattle.std.specs.List.{filter, find, flat_map, list_any, range_with_len}
use Rattle.std.proofs.lemmas.Bool.{cases_Bool, cases_eq, or_parts, or_left, or_right}
use Rattle.std.proofs.lemmas.List.Folds.{list_any-append}

pub not_so : (a b : Bool) → (a ≡ true → b ≡ true) → b ≡ false → a ≡ false
not_so true b h fails = let passes : b ≡ true = h refl in absurd (cc)
not_so false b h fails = refl

pub any-map : {X Y : Type 0} (p : Y → Bool) (f : X → Y) (xs : List X) → list_any p (map f xs) ≡ list_any (λ x. p (f x)) xs
any-map p f [] = refl
any-map p f (x ∷ xs) = ap (λ b. p (f x) || b) (any-map p f xs)

pub any-flat_map : {X Y : Type 0} (p : Y → Bool) (f : X → List Y) (xs : List X) → list_any p (flat_map f xs) ≡ list_any (λ x. list_any p (f x)) xs
any-flat_map p f [] = refl
any-flat_map p f (x ∷ xs) = list_any-append p (f x) (flat_map f xs) ∙ ap (λ b. list_any p (f x) || b) (any-flat_map p f xs)

pub any-filter : {X : Type 0} (p q : X → Bool) (xs : List X) → list_any p (filter q xs) ≡ list_any (λ x. q x && p x) xs
any-filter p q [] = refl
any-filter p q (x ∷ xs) =
    let rest : list_any p (filter q xs) ≡ list_any (λ x. q x && p x) xs = any-filter p q xs in
    ⊎_elim (λ passes. rw passes (ap (λ b. p x || b) rest)) (λ fails. rw fails rest) (cases_Bool (q x))

-- if no element passes a test, none passes a stricter one
pub none_stricter : {X : Type 0} (p q : X → Bool) → ((x : X) → p x ≡ true → q x ≡ true) → (xs : List X) → list_any q xs ≡ false → list_any p xs ≡ false
none_stricter p q h [] none = refl
none_stricter p q h (x ∷ xs) none =
    let parts : (q x ≡ false) × (list_any q xs ≡ false) = or_parts (q x) (list_any q xs) none in
    let first : p x ≡ false = not_so (p x) (q x) (h x) parts.0 in
    rw first (none_stricter p q h xs parts.1)

pub none_filtered : {X : Type 0} (p q : X → Bool) (xs : List X) → list_any p xs ≡ false → list_any p (filter q xs) ≡ false
none_filtered p q [] none = refl
none_filtered p q (x ∷ xs) none =
    let parts : (p x ≡ false) × (list_any p xs ≡ false) = or_parts (p x) (list_any p xs) none in
    let rest : list_any p (filter q xs) ≡ false = none_filtered p q xs parts.1 in
    let first : p x ≡ false = parts.0 in
    ⊎_elim (λ passes. rw passes (rw first rest)) (λ fails. rw fails rest) (cases_Bool (q x))

pub none_ever : {X : Type 0} (p : X → Bool) → ((x : X) → p x ≡ false) → (xs : List X) → list_any p xs ≡ false
none_ever p h [] = refl
none_ever p h (x ∷ xs) = let first : p x ≡ false = h x in rw first (none_ever p h xs)

-- a number of a range that passes
pub any_in_range : (p : ℕ → Bool) (low len k : ℕ) → low ≤ k → k < low + len → p k ≡ true → list_any p (range_with_len low len) ≡ true
any_in_range p low zero k le lt passes = absurd (omega arith)
any_in_range p low (suc len) k le lt passes =
    ⊎_elim
    (λ same. or_left (p low) _ (ap p same ∙ passes))
    (λ other. or_right (p low) _ (any_in_range p (low + 1) len k (omega arith) (omega arith) passes))
    (cases_eq low k)

-- a filter that keeps all that a search looks for changes nothing for it
pub find-filter : {X : Type 0} (p q : X → Bool) → ((x : X) → p x ≡ true → q x ≡ true) → (xs : List X) → find p (filter q xs) ≡ find p xs
find-filter p q h [] = refl
find-filter p q h (x ∷ xs) =
    let rest : find p (filter q xs) ≡ find p xs = find-filter p q h xs in
    ⊎_elim
    (λ passes. rw passes (ap (cond (p x) (Some x)) rest))
    (λ fails. let other : p x ≡ false = not_so (p x) (q x) (h x) fails in rw (fails, other) rest)
    (cases_Bool (q x))

-- two functions that agree where a test passes
pub map-filter_same : {X Y : Type 0} (f g : X → Y) (p : X → Bool) → ((x : X) → p x ≡ true → f x ≡ g x) → (xs : List X) → map f (filter p xs) ≡ map g (filter p xs)
map-filter_same f g p h [] = refl
map-filter_same f g p h (x ∷ xs) =
    let rest : map f (filter p xs) ≡ map g (filter p xs) = map-filter_same f g p h xs in
    ⊎_elim (λ passes. let same : f x ≡ g x = h x passes in rw (passes, same) (ap (λ l. g x ∷ l) rest)) (λ fails. rw fails rest) (cases_Bool (p x))

pub map-map : {X Y Z : Type 0} (g : Y → Z) (f : X → Y) (xs : List X) → map g (map f xs) ≡ map (λ x. g (f x)) xs
map-map g f [] = refl
map-map g f (x ∷ xs) = ap (λ l. g (f x) ∷ l) (map-map g f xs)

-- Lists side by side, and lists of pairs.
use Rattle.std.proofs.Common.{◌≡◌, ℕ, zero, suc, ◌≤◌, List, [], ◌∷◌, length, map, refl, ap, arith, Some, None, Result, Ok, Err}
use Rattle.std.proofs.lemmas.List.Elements.{All-from_recursion, recursion_from_All}
use Rattle.std.proofs.lemmas.List.Sorted.{All-permutation}
use Rattle.std.specs.List.{zip, slice_get, AllByRecursion as Each, AllZip}
use Rattle.std.specs.Prelude.{IfOk, IsPermutation}

module _ {A B : Type 0} where
  pub each_zip : (R : A → B → Type 0) (xs : List A) (ys : List B) → AllZip R xs ys → Each (λ (p : A × B). R p.0 p.1) (zip xs ys)
  each_zip R [] ys h = tt
  each_zip R (x ∷ xs) [] h = absurd h
  each_zip R (x ∷ xs) (y ∷ ys) h = (h.0, each_zip R xs ys h.1)

  pub zip_each : (R : A → B → Type 0) (ps : List (A × B)) → Each (λ (p : A × B). R p.0 p.1) ps → AllZip R (map (λ (p : A × B). p.0) ps) (map (λ (p : A × B). p.1) ps)
  zip_each R [] h = tt
  zip_each R (p ∷ ps) h = (h.0, zip_each R ps h.1)

  pub firsts : (R : A → B → Type 0) (xs : List A) (ys : List B) → AllZip R xs ys → map (λ (p : A × B). p.0) (zip xs ys) ≡ xs
  firsts R [] ys h = refl
  firsts R (x ∷ xs) [] h = absurd h
  firsts R (x ∷ xs) (y ∷ ys) h = ap (λ l. x ∷ l) (firsts R xs ys h.1)

  pub second_at : (xs : List A) (ys : List B) (i : ℕ) (p : A × B) → slice_get (zip xs ys) i ≡ Some p → slice_get ys i ≡ Some p.1
  second_at [] ys i p e = cc
  second_at (x ∷ xs) [] i p e = cc
  second_at (x ∷ xs) (y ∷ ys) zero p e = cc
  second_at (x ∷ xs) (y ∷ ys) (suc i) p e = second_at xs ys i p e

module _ {X : Type 0} where
  pub beyond : (xs : List X) (i : ℕ) → length xs ≤ i → slice_get xs i ≡ None
  beyond [] i h = refl
  beyond (x ∷ xs) zero h = absurd (omega arith)
  beyond (x ∷ xs) (suc i) h = beyond xs i (omega arith)

  pub same_found : (xs : List X) (i : ℕ) (x y : X) → slice_get xs i ≡ Some x → slice_get xs i ≡ Some y → x ≡ y
  same_found xs i x y e f = cc

  pub each_permutes : (P : X → Type 0) (xs ys : List X) → IsPermutation xs ys → Each P xs → Each P ys
  each_permutes P xs ys same h = recursion_from_All P ys (All-permutation P xs ys same (All-from_recursion P xs h))

module _ {X Y : Type 0} where
  pub each_mapped : (P : Y → Type 0) (f : X → Y) (xs : List X) → Each P (map f xs) → Each (λ x. P (f x)) xs
  each_mapped P f [] h = tt
  each_mapped P f (x ∷ xs) h = (h.0, each_mapped P f xs h.1)

-- a property of the second element of each pair is a property of all second elements
pub seconds_have : {A B : Type 0} (P : B → Type 0) (ps : List (A × B)) → Each (λ (p : A × B). P p.1) ps → Each P (map (λ (p : A × B). p.1) ps)
seconds_have P [] h = tt
seconds_have P (p ∷ ps) h = (h.0, seconds_have P ps h.1)

-- a weaker property of a result
pub if_ok : {X E : Type 0} (P Q : X → Type 0) (r : Result X E) → ((x : X) → P x → Q x) → IfOk r P → IfOk r Q
if_ok P Q (Ok x) f h = f x h
if_ok P Q (Err e) f h = tt

-- three properties of the result are one property
pub all_ok : {T E : Type 0} (P Q R : T → Type 0) (r : Result T E) → IfOk r P → IfOk r Q → IfOk r R → IfOk r (λ x. P x × Q x × R x)
all_ok P Q R (Ok x) p q r = (p, q, r)
all_ok P Q R (Err e) p q r = tt

-- Lists, element by element.
use Rattle.std.proofs.Common.{[], ◌≡◌, ℕ, zero, suc, ◌<◌, Bool, true, false, List, ◌∷◌, ◌++◌, length, get_or, refl, arith}
use Rattle.std.specs.List.{AllByRecursion as Each}

module _ {A : Type 0} (P : A → Type 0) where
  pub each_at : (xs : List A) (i : ℕ) (d : A) → Each P xs → i < length xs → P (get_or xs i d)
  each_at [] i d h lt = absurd (omega arith)
  each_at (x ∷ xs) zero d h lt = h.0
  each_at (x ∷ xs) (suc i) d h lt = each_at xs i d h.1 (omega arith)

  pub each_from : (xs : List A) → ((i : ℕ) (d : A) → i < length xs → P (get_or xs i d)) → Each P xs
  each_from [] f = tt
  each_from (x ∷ xs) f = (f 0 x (omega arith), each_from xs (λ i d lt. f (suc i) d (omega arith)))

  pub each_more : (xs : List A) (x : A) → Each P xs → P x → Each P (xs ++ x ∷ [])
  each_more [] x h p = (p, tt)
  each_more (y ∷ ys) x h p = (h.0, each_more ys x h.1 p)

  pub each_join : (xs ys : List A) → Each P xs → Each P ys → Each P (xs ++ ys)
  each_join [] ys h k = k
  each_join (x ∷ xs) ys h k = (h.0, each_join xs ys h.1 k)

module _ {A : Type 0} (P Q : A → Type 0) where
  pub each_map : (xs : List A) → ((x : A) → P x → Q x) → Each P xs → Each Q xs
  each_map [] f h = tt
  each_map (x ∷ xs) f h = (f x h.0, each_map xs f h.1)

-- equal lists have equal first elements, and equal rests
pub heads : (x y : ℕ) (xs ys : List ℕ) → x ∷ xs ≡ y ∷ ys → (x ≡ y) × (xs ≡ ys)
heads x y xs ys e = (cc, cc)

-- the default doesn't matter inside a list
pub same_read : {A : Type 0} (xs : List A) (i : ℕ) (d e : A) → i < length xs → get_or xs i d ≡ get_or xs i e
same_read [] i d e lt = absurd (omega arith)
same_read (x ∷ xs) zero d e lt = refl
same_read (x ∷ xs) (suc i) d e lt = same_read xs i d e (omega arith)

-- a proof by the two cases of a bool
pub either : {P : Type 0} (b : Bool) → (b ≡ true → P) → (b ≡ false → P) → P
either true f g = f refl
either false f g = g refl

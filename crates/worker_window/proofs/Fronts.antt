-- The longest prefix of a list in which all elements pass a test.
use Rattle.std.proofs.Common.{◌≡◌, ℕ, zero, suc, ◌+◌, ◌<◌, Bool, true, false, List, [], ◌∷◌, take, length, get_or, refl, sym, ap, ◌∙◌, subst, arith}
use Rattle.std.proofs.lemmas.List.{take_more}
use Rattle.std.proofs.lemmas.List.Sums.{take_while-cons}
use Rattle.std.specs.List.{take_while, AllByRecursion}
use Rattle.window_laws.proofs.Lists.{every_append}

module _ {X : Type 0} (p : X → Bool) where
  abbrev pub Pass : List X → Type 0
  Pass xs = AllByRecursion (λ x. p x ≡ true) xs

  pub pass_more : (xs : List X) (i : ℕ) (d : X) → i < length xs → Pass (take i xs) → p (get_or xs i d) ≡ true → Pass (take (i + 1) xs)
  pass_more xs i d lt h e = subst (AllByRecursion (λ x. p x ≡ true)) (sym (take_more xs i d lt)) (every_append (λ x. p x ≡ true) (take i xs) (get_or xs i d ∷ []) h (e, tt))

  -- the prefix up to the first element that doesn't pass
  pub front_at : (i : ℕ) (xs : List X) (d : X) → i < length xs → Pass (take i xs) → p (get_or xs i d) ≡ false → take_while p xs ≡ take i xs
  front_at i [] d lt h e = absurd (omega arith)
  front_at zero (x ∷ xs) d lt h e = take_while-cons p x xs ∙ rw e refl
  front_at (suc i) (x ∷ xs) d lt h e = take_while-cons p x xs ∙ rw h.0 (ap (λ l. x ∷ l) (front_at i xs d (omega arith) h.1 e))

  pub front_all : (xs : List X) → Pass xs → take_while p xs ≡ xs
  front_all [] h = refl
  front_all (x ∷ xs) h = take_while-cons p x xs ∙ rw h.0 (ap (λ l. x ∷ l) (front_all xs h.1))

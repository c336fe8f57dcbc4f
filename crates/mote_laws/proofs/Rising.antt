-- Lists of numbers in which no number is below an earlier one, and two such lists joined.
use Rattle.std.proofs.Common.{ℕ, ◌≡◌, ◌-◌, ◌≤◌, inl, inr, List, [], ◌++◌, length, refl, ap, arith}
use Rattle.std.proofs.lemmas.Bool.{cases_lt}
use Rattle.std.proofs.lemmas.List.{get_or_append_left, get_or-append_right, length-append}
use Rattle.std.specs.List.{All}
use Rattle.std.specs.List.Sorted.{IsNonDecreasingBy}

module _ {X : Type 0} (n : X → ℕ) where
  pub rises_empty : IsNonDecreasingBy n []
  rises_empty i j d le lt = absurd (omega arith)

  pub rises_level : (m : ℕ) (xs : List X) → All (λ x. n x ≡ m) xs → IsNonDecreasingBy n xs
  rises_level m xs h i j d le lt = omega (arith, h i d (omega arith), h j d lt)

  -- the second list begins with a number that isn't below the end of the first list
  pub rises_joined : (m : ℕ) (xs ys : List X) → IsNonDecreasingBy n xs → All (λ x. n x ≤ m) xs → IsNonDecreasingBy n ys → All (λ y. m ≤ n y) ys → IsNonDecreasingBy n (xs ++ ys)
  rises_joined m xs ys hx below hy above i j d le lt =
      let long = length-append xs ys in
      elim (cases_lt j (length xs)) [
        | inl l ↦ omega (arith, ap n (get_or_append_left xs ys d i (omega arith)), ap n (get_or_append_left xs ys d j l), hx i j d le l)
        | inr g ↦ elim (cases_lt i (length xs)) [
          | inl l ↦ omega (arith, ap n (get_or_append_left xs ys d i l), ap n (get_or-append_right xs ys (length xs) j d refl g), below i d l, above (j - length xs) d (omega arith))
          | inr k ↦ omega (arith, ap n (get_or-append_right xs ys (length xs) i d refl k), ap n (get_or-append_right xs ys (length xs) j d refl g), hy (i - length xs) (j - length xs) d (omega arith) (omega arith))
        ]
      ]

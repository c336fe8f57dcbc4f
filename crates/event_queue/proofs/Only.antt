-- A list with one element.
use Rattle.std.proofs.Common.{◌≡◌, ◌-◌, List, [], ◌∷◌, length, take, IfSome, refl, arith}
use Rattle.circular_buffer.specs.Buffer.{last_item}

-- the last element is the first
pub only_first : {A : Type 0} (xs : List A) → length xs ≡ 1 → IfSome (last_item xs) (λ first. xs ≡ first ∷ take (length xs - 1) xs)
only_first [] h = tt
only_first (x ∷ []) h = refl
only_first (x ∷ y ∷ ys) h = absurd (omega arith)

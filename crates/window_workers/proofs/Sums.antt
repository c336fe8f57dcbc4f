-- Sums over the workers.
use Rattle.std.proofs.Common.{◌≡◌, ℕ, zero, suc, ◌+◌, List, [], ◌∷◌, length, arith, refl, Some}
use Rattle.std.proofs.lemmas.List.Sums.{sum_by-cons}
use Rattle.std.specs.List.{slice_get, sum_by}
use Rattle.copy_exchange.proofs.Counts.{total}

total_first : (h : ℕ → ℕ) (n : ℕ) → total h (suc n) ≡ h 0 + total (λ k. h (suc k)) n
total_first h zero = omega arith
total_first h (suc n) = let e = total_first h n in omega arith

-- a property of each worker's numbers is a property of the sums
pub two_sums : {A B : Type 0} (f : A → ℕ) (a b : B → ℕ) (h : ℕ → ℕ) (xs : List A) (ys : List B) → length ys ≡ length xs
    → ((v : ℕ) (x : A) (y : B) → slice_get xs v ≡ Some x → slice_get ys v ≡ Some y → f x + a y ≡ h v + b y)
    → sum_by f xs + sum_by a ys ≡ total h (length xs) + sum_by b ys
two_sums f a b h [] [] e each = refl
two_sums f a b h [] (y ∷ ys) e each = absurd (omega arith)
two_sums f a b h (x ∷ xs) [] e each = absurd (omega arith)
two_sums f a b h (x ∷ xs) (y ∷ ys) e each =
    let i = each 0 x y refl refl in
    let r = two_sums f a b (λ k. h (suc k)) xs ys (omega arith) (λ v p q s t. each (suc v) p q s t) in
    let t = total_first h (length xs) in
    let u = sum_by-cons f x xs in
    let v = sum_by-cons a y ys in
    let w = sum_by-cons b y ys in
    omega arith

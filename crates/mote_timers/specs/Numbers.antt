-- Lists in which a number occurs at most once.
use Rattle.std.specs.Prelude.{ℕ, ◌<◌, ◌==◌, nat_eq, Bool, not, if◌then◌else◌, List, ◌∷◌, All, filter}
use Rattle.std.specs.List.{list_any, IsDistinct}

-- the numbers, from front to back, and the limit; `AreNumbers` states that each number is below the limit
pub record Numbers : Type 0 where
  pub members : List ℕ
  pub limit : ℕ

-- no number occurs twice, and each is below the limit
pub record AreNumbers (ks : List ℕ) (limit : ℕ) : Type 0 where
  pub once : IsDistinct nat_eq ks
  pub within : All (λ k. k < limit) ks

-- the list of these numbers, with this limit
abbrev pub numbers : List ℕ → ℕ → Numbers
numbers ks n = record { members = ks; limit = n }

-- whether the number is on the list
abbrev pub is_member : ℕ → List ℕ → Bool
is_member k ks = list_any (nat_eq k) ks

-- a new number is added at the front; a number that is already on the list keeps its place
abbrev pub with_member : ℕ → List ℕ → List ℕ
with_member k ks = if is_member k ks then ks else k ∷ ks

-- the list without the number
abbrev pub without_member : ℕ → List ℕ → List ℕ
without_member k ks = filter (λ x. not (x == k)) ks

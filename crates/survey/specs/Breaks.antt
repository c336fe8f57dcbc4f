-- The result of a survey. A break is a set of faults with a claim that doesn't hold in the run with this set.
use Rattle.std.specs.Prelude.{◌≡◌, ◌≢◌, ℕ, ◌<◌, ◌≤◌, ◌⊎◌, Bool, true, false, List, length, map, slice_index_or}
use Rattle.std.specs.List.{Contains}
use Rattle.survey.specs.FaultSet.{IsSet, IsWithin}
use Rattle.survey.specs.declared.broken.Broken.{Broken}

-- the breaks of a list: each a set and a claim
abbrev pub breaks_of : List Broken → List (List ℕ × ℕ)
breaks_of found = map (λ b. (b.faults.items, b.claim)) found

-- some listed set within F breaks the claim
abbrev pub HasBreak : List (List ℕ × ℕ) → List ℕ → ℕ → Type 0
HasBreak breaks F c = (B : List ℕ) × Contains breaks (B, c) × IsWithin B F

-- each claim holds with F, or a set within F is listed for it
abbrev pub IsSettled : (List ℕ → ℕ → Bool) → ℕ → List (List ℕ × ℕ) → List ℕ → Type 0
IsSettled holds claims breaks F = (c : ℕ) → c < claims → (holds F c ≡ true) ⊎ HasBreak breaks F c

-- what is listed is a set of at most k faults, and breaks its claim
abbrev pub IsSound : ℕ → ℕ → (List ℕ → ℕ → Bool) → ℕ → List (List ℕ × ℕ) → Type 0
IsSound n k holds claims breaks =
    (B : List ℕ) (c : ℕ) → Contains breaks (B, c) → IsSet n B × (length B ≤ k) × (c < claims) × (holds B c ≡ false)

-- the claim holds with each smaller set within a listed one
abbrev pub IsMinimal : ℕ → (List ℕ → ℕ → Bool) → List (List ℕ × ℕ) → Type 0
IsMinimal n holds breaks =
    (B : List ℕ) (c : ℕ) (F : List ℕ) → Contains breaks (B, c) → IsSet n F → IsWithin F B → (IsWithin B F → ⊥) → holds F c ≡ true

-- no break is listed twice
abbrev pub IsListedOnce : List (List ℕ × ℕ) → Type 0
IsListedOnce breaks =
    (i j : ℕ) (d : List ℕ × ℕ) → i < j → j < length breaks → slice_index_or breaks i d ≢ slice_index_or breaks j d

-- all sets of fewer than `size` faults are settled
abbrev pub AreSmallerSettled : ℕ → ℕ → (List ℕ → ℕ → Bool) → ℕ → List (List ℕ × ℕ) → Type 0
AreSmallerSettled n size holds claims breaks = (F : List ℕ) → IsSet n F → length F < size
    → IsSettled holds claims breaks F

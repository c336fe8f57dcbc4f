-- The count of a semaphore after its uses.
use Rattle.std.specs.Prelude.{ℕ, ◌≡◌, ◌+◌, ◌-◌, ◌%◌, ◌^◌, ◌<◌, List, [], ◌∷◌}

-- a use of a semaphore
pub data Use : Type 0 where
  takes : Use
  signals : Use

-- these uses change the count of a semaphore from `start` to `count`, and all are possible: none takes from a count of
-- 0
abbrev pub Counts : (start : ℕ) → List Use → (count : ℕ) → Type 0
Counts start [] count = start ≡ count
Counts start (takes ∷ us) count = (0 < start) × Counts (start - 1) us count
Counts start (signals ∷ us) count = Counts ((start + 1) % 2 ^ 16) us count

-- the number of uses of each of the two kinds
abbrev pub taken : List Use → ℕ
taken [] = 0
taken (takes ∷ us) = 1 + taken us
taken (signals ∷ us) = taken us

abbrev pub signalled : List Use → ℕ
signalled [] = 0
signalled (takes ∷ us) = signalled us
signalled (signals ∷ us) = 1 + signalled us

-- the count is the first count plus the number of signals minus the number of takes, modulo 65,536
abbrev pub CountsAreSignalsLessTakes : Type 0
CountsAreSignalsLessTakes =
    (start : ℕ) (uses : List Use) (count : ℕ) → Counts start uses count
    → (count + taken uses) % 2 ^ 16 ≡ (start + signalled uses) % 2 ^ 16

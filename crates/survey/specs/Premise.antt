-- What a survey needs to know of the runs that it makes.
use Rattle.std.specs.Prelude.{◌≡◌, ℕ, ◌<◌, Bool, List, [], ◌∷◌, ◌++◌}
use Rattle.std.specs.List.{Contains}
use Rattle.survey.specs.FaultSet.{IsOnce, IsSet, IsWithin}

-- The runs with each set of faults. All keys are below `bound`; so many claims hold or don't hold in each run; and a run
-- offers the keys of those faults that may change it.
pub record Runs : Type 0 where
  pub bound : ℕ
  pub claims : ℕ
  pub holds : List ℕ → ℕ → Bool
  pub offers : List ℕ → List ℕ

-- what a survey rests on
pub record OffersAll (runs : Runs) : Type 0 where
  -- an offered key is below the bound, and isn't one of the set
  pub fresh : (F : List ℕ) (k : ℕ) → Contains (runs.offers F) k → (k < runs.bound) × (Contains F k → ⊥)
  -- no key is offered twice
  pub once : (F : List ℕ) → IsOnce (runs.offers F)
  -- the order of the faults means nothing
  pub unordered : (F G : List ℕ) → IsSet runs.bound F → IsSet runs.bound G → IsWithin F G → IsWithin G F
      → (c : ℕ) → runs.holds F c ≡ runs.holds G c
  -- a fault that isn't offered changes no claim
  pub holds_same : (F : List ℕ) (k : ℕ) → IsSet runs.bound (F ++ k ∷ []) → (Contains (runs.offers F) k → ⊥)
      → (c : ℕ) → runs.holds (F ++ k ∷ []) c ≡ runs.holds F c
  -- nor does the run offer more with it
  pub offers_same : (F : List ℕ) (k j : ℕ) → IsSet runs.bound (F ++ k ∷ []) → (Contains (runs.offers F) k → ⊥)
      → Contains (runs.offers (F ++ k ∷ [])) j → Contains (runs.offers F) j

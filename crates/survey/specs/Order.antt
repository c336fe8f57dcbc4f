-- The one order in which the faults of a set are taken: each time the first that is offered. So each set is tried once, and not
-- once for each order of its faults.
use Rattle.std.specs.Prelude.{◌≡◌, ℕ, ◌==◌, not, Bool, if◌then◌else◌, List, [], ◌∷◌, ◌++◌}
use Rattle.std.specs.List.{Contains, filter, list_any}
use Rattle.survey.specs.FaultSet.{IsSet, IsWithin}

-- the keys before k
abbrev pub before : ℕ → List ℕ → List ℕ
before k [] = []
before k (x ∷ xs) = if x == k then [] else x ∷ before k xs

-- the offered keys that aren't asleep
abbrev pub awake : (asleep offered : List ℕ) → List ℕ
awake asleep offered = filter (λ k. not (list_any (λ x. x == k) asleep)) offered

-- After the faults `before` with these keys asleep, the faults of `set` are taken. A key falls asleep when a later one is
-- taken: a set with both takes it first.
abbrev pub asleep_from : (offers : List ℕ → List ℕ) → (asleep before set : List ℕ) → List ℕ
asleep_from offers asleep done [] = asleep
asleep_from offers asleep done (k ∷ set) =
    asleep_from offers (asleep ++ before k (awake asleep (offers done))) (done ++ k ∷ []) set

abbrev pub asleep : (offers : List ℕ → List ℕ) → List ℕ → List ℕ
asleep offers F = asleep_from offers [] [] F

-- the keys that may come next after the set
abbrev pub next_keys : (offers : List ℕ → List ℕ) → List ℕ → List ℕ
next_keys offers F = awake (asleep offers F) (offers F)

-- a set of which each fault may come next after the earlier ones
pub data IsNode (next : List ℕ → List ℕ) : List ℕ → Type 0 where
  Root : {F : List ℕ} → F ≡ [] → IsNode next F
  Child : {F : List ℕ} (G : List ℕ) (k : ℕ) → F ≡ G ++ k ∷ [] → IsNode next G → Contains (next G) k → IsNode next F

-- in each set there are some faults that come one after another, and with these alone the claims are the same
abbrev pub EachHasNode : ℕ → (List ℕ → List ℕ) → (List ℕ → ℕ → Bool) → Type 0
EachHasNode n next holds = (G : List ℕ) → IsSet n G
    → (N : List ℕ) × IsNode next N × IsSet n N × IsWithin N G × ((c : ℕ) → holds G c ≡ holds N c)

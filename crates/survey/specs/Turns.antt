-- The sets that a survey tries, in order, where `breaks` is what it lists.
use Rattle.std.specs.Prelude.{◌≡◌, ℕ, zero, suc, ◌<◌, ◌⊎◌, List, [], ◌∷◌, ◌++◌, length, map}
use Rattle.std.specs.List.{Contains, flat_map}
use Rattle.survey.specs.FaultSet.{IsWithin}

-- a smaller set within F is listed for the claim
abbrev pub HasSmallerBreak : List (List ℕ × ℕ) → List ℕ → ℕ → Type 0
HasSmallerBreak breaks F c = (B : List ℕ) × Contains breaks (B, c) × IsWithin B F × (length B < length F)

-- nothing is left to learn from F: a smaller set within it is listed for each claim
abbrev pub IsPruned : ℕ → List (List ℕ × ℕ) → List ℕ → Type 0
IsPruned claims breaks F = (c : ℕ) → c < claims → HasSmallerBreak breaks F c

-- F is worth a run: for some claim, no smaller set within it is listed
abbrev pub IsWorthRun : ℕ → List (List ℕ × ℕ) → List ℕ → Type 0
IsWorthRun claims breaks F = (c : ℕ) × (c < claims) × (HasSmallerBreak breaks F c → ⊥)

-- `picked` has those of the sets that are worth a run, in their order
abbrev pub Picks : ℕ → List (List ℕ × ℕ) → (sets picked : List (List ℕ)) → Type 0
Picks claims breaks [] picked = picked ≡ []
Picks claims breaks (F ∷ sets) picked =
    (IsPruned claims breaks F × Picks claims breaks sets picked)
    ⊎ (IsWorthRun claims breaks F × (rest : List (List ℕ)) × (picked ≡ F ∷ rest) × Picks claims breaks sets rest)

-- `picked` has those that are worth a run, before one that is worth a run too
abbrev pub StopsIn : ℕ → List (List ℕ × ℕ) → (sets picked : List (List ℕ)) → Type 0
StopsIn claims breaks sets picked = (front : List (List ℕ)) × (F : List ℕ) × (rest : List (List ℕ))
    × (sets ≡ front ++ F ∷ rest) × IsWorthRun claims breaks F × Picks claims breaks front picked

-- F with one more fault, for each that may come next
abbrev pub children : (next : List ℕ → List ℕ) → List ℕ → List (List ℕ)
children next F = map (λ k. F ++ k ∷ []) (next F)

-- the sets of this size that come into question: those with one more fault than a smaller set that was worth its run
abbrev pub AreSetsOfSize : (next : List ℕ → List ℕ) → ℕ → List (List ℕ × ℕ) → (size : ℕ) → List (List ℕ) → Type 0
AreSetsOfSize next claims breaks zero sets = sets ≡ [] ∷ []
AreSetsOfSize next claims breaks (suc size) sets = (smaller : List (List ℕ)) × (tried : List (List ℕ))
    × AreSetsOfSize next claims breaks size smaller × Picks claims breaks smaller tried
    × (sets ≡ flat_map (children next) tried)

-- all sets of fewer faults than `sizes` that are worth a run, in their order
abbrev pub AreTried : (next : List ℕ → List ℕ) → ℕ → List (List ℕ × ℕ) → (sizes : ℕ) → List (List ℕ) → Type 0
AreTried next claims breaks zero all = all ≡ []
AreTried next claims breaks (suc size) all = (smaller : List (List ℕ)) × (sets : List (List ℕ)) × (tried : List (List ℕ))
    × AreTried next claims breaks size smaller × AreSetsOfSize next claims breaks size sets
    × Picks claims breaks sets tried × (all ≡ smaller ++ tried)

-- the same and the first sets of this size that are worth a run, before one more of them
abbrev pub StopAt : (next : List ℕ → List ℕ) → ℕ → List (List ℕ × ℕ) → (size : ℕ) → List (List ℕ) → Type 0
StopAt next claims breaks size all = (smaller : List (List ℕ)) × (sets : List (List ℕ)) × (tried : List (List ℕ))
    × AreTried next claims breaks size smaller × AreSetsOfSize next claims breaks size sets
    × StopsIn claims breaks sets tried × (all ≡ smaller ++ tried)

-- rising numbers
abbrev pub IsRising : List ℕ → Type 0
IsRising [] = Unit {0}
IsRising (c ∷ cs) = ((d : ℕ) → Contains cs d → c < d) × IsRising cs

-- the breaks stand in the order in which their sets were tried, and those of one set in the order of their claims
abbrev pub AreListedIn : (tried : List (List ℕ)) → List (List ℕ × ℕ) → Type 0
AreListedIn [] breaks = breaks ≡ []
AreListedIn (F ∷ tried) breaks = (cs : List ℕ) × (rest : List (List ℕ × ℕ)) × IsRising cs
    × (breaks ≡ map (λ c. (F, c)) cs ++ rest) × AreListedIn tried rest

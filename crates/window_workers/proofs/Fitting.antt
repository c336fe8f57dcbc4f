-- The properties of a partition without an error.
use Rattle.std.proofs.Common.{◌≡◌, ◌⊎◌, ℕ, ◌<◌, ◌≤◌, true, false, not, ◌||◌, ltb, eqb, List, [], ◌∷◌, length, inl, inr, arith, None}
use Rattle.std.proofs.lemmas.Bool.{cases_Bool, and_parts, ltb-true}
use Rattle.std.proofs.lemmas.Bool.Decides.{nat_tests}
use Rattle.std.specs.List.{list_all, AllByRecursion as Each}
use Rattle.window_workers.specs.Fits.{cut_fault}
use Rattle.window_workers.specs.WorkerGroup.{IsCut}

all_there : (workers : ℕ) (owners : List ℕ) → list_all (λ worker. ltb worker workers) owners ≡ true → Each (λ worker. worker < workers) owners
all_there workers [] e = tt
all_there workers (w ∷ owners) e = let p = and_parts (ltb w workers) (list_all (λ worker. ltb worker workers) owners) e in (ltb-true w workers p.0, all_there workers owners p.1)

few : (workers : ℕ) → (eqb workers 0 || ltb 16 workers) ≡ false → workers ≤ 16
few workers e = grind (arith, nat_tests)

as_many : (a b : ℕ) → not (eqb a b) ≡ false → a ≡ b
as_many a b e = grind (arith, nat_tests)

pub fits_is : (motes workers : ℕ) (owners : List ℕ) → cut_fault motes workers owners ≡ None → (workers ≤ 16) × IsCut motes workers owners
fits_is motes workers owners e = by_workers (cases_Bool (eqb workers 0 || ltb 16 workers)) e
  where
    by_places : not (eqb (length owners) motes) ≡ false → (list_all (λ worker. ltb worker workers) owners ≡ true) ⊎ (list_all (λ worker. ltb worker workers) owners ≡ false)
        → (eqb workers 0 || ltb 16 workers) ≡ false → cut_fault motes workers owners ≡ None → (workers ≤ 16) × IsCut motes workers owners
    by_places l (inl a) w e = (few workers w, record { len = as_many (length owners) motes l; there = all_there workers owners a })
    by_places l (inr a) w e = let f = rw (w, l, a) at e in absurd (cc)

    by_length : (not (eqb (length owners) motes) ≡ true) ⊎ (not (eqb (length owners) motes) ≡ false) → (eqb workers 0 || ltb 16 workers) ≡ false → cut_fault motes workers owners ≡ None → (workers ≤ 16) × IsCut motes workers owners
    by_length (inl l) w e = let f = rw (w, l) at e in absurd (cc)
    by_length (inr l) w e = by_places l (cases_Bool (list_all (λ worker. ltb worker workers) owners)) w e

    by_workers : ((eqb workers 0 || ltb 16 workers) ≡ true) ⊎ ((eqb workers 0 || ltb 16 workers) ≡ false) → cut_fault motes workers owners ≡ None → (workers ≤ 16) × IsCut motes workers owners
    by_workers (inl w) e = let f = rw w at e in absurd (cc)
    by_workers (inr w) e = by_length (cases_Bool (not (eqb (length owners) motes))) w e

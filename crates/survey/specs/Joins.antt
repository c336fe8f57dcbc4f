-- The joining of lists.
use Rattle.std.specs.Prelude.{◌≡◌, List, [], ◌∷◌, ◌++◌, Vec, Result, Ok, Err}
use Rattle.std.specs.Global.{Global}
use Rattle.std.specs.declared.alloc.AllocError.{AllocError}

-- each of the lists was made, and these are their elements, in order
abbrev pub Joins : {X : Type 0} → List (Result (Vec X Global) AllocError) → List X → Type 0
Joins [] all = all ≡ []
Joins {X} (Ok part ∷ parts) all = (rest : List X) × (all ≡ part.items ++ rest) × Joins parts rest
Joins (Err e ∷ parts) all = ⊥

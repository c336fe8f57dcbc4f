-- The number of codes.
use Rattle.std.proofs.Common.{◌≡◌, ℕ, suc, ◌+◌, List, [], ◌∷◌, length, refl, ap}
use Rattle.program_tree.specs.InScope.{NamesInScope, outside}
use Rattle.program_tree.specs.Numbers.{inside, codes_in}
use Rattle.program_tree.specs.Shapes.{CodeShape}

pub length-codes_in : (k : ℕ) (n : NamesInScope) (cs : List CodeShape) → length (codes_in k n cs) ≡ length cs
length-codes_in k n [] = refl
length-codes_in k n (c ∷ cs) = ap suc (length-codes_in (k + 1) (outside (inside n c)) cs)

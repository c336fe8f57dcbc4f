-- The number of lines.
use Rattle.std.proofs.Common.{◌≡◌, ◌∙◌, refl, arith, length, cond, List, [], ◌∷◌, count_by}
use Rattle.std.proofs.lemmas.List.Sums.{sum_by-cons}
use Rattle.claims.specs.declared.trace.Found.{Found}
use Rattle.claims.specs.declared.values.Mark.TheVariants.{Any}
use Rattle.claims.specs.PerMote.{has_mark}

pub count_by-any : (ls : List Found) → count_by (has_mark Any) ls ≡ length ls
count_by-any [] = refl
count_by-any (l ∷ ls) = sum_by-cons (λ f. cond (has_mark Any f) 1 0) l ls ∙ omega (arith, count_by-any ls)

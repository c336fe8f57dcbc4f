-- The lines in the order of the moments: the meaning of tests of values.
use Rattle.std.specs.Prelude.{Bool, true, false, ◌&&◌, List, [], ◌∷◌}
use Rattle.std.specs.List.{list_all}
use Rattle.claims.specs.declared.trace.Found.{Found}
use Rattle.claims.specs.declared.set.Set.{Set}
use Rattle.claims.specs.Values.{is_earlier, has_value}

-- each line is earlier than all that follow it, so no line occurs twice
abbrev pub are_in_time : List Found → Bool
are_in_time [] = true
are_in_time (l ∷ ls) = list_all (is_earlier l) ls && are_in_time ls

-- as many lines as sets, and each set has the value of the line at its place
abbrev pub fit_one_by_one : List Set → List Found → Bool
fit_one_by_one [] [] = true
fit_one_by_one (s ∷ ss) (l ∷ ls) = has_value s l && fit_one_by_one ss ls
fit_one_by_one ss ls = false

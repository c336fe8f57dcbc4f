-- The least number of a list, found one element at a time.
use Rattle.std.proofs.Common.{◌≡◌, ℕ, ◌+◌, ◌<◌, min, List, [], ◌∷◌, ◌++◌, length, get_or, take, map, Option, Some, None, refl, ap, arith}
use Rattle.std.specs.Option.{option_map_or}
use Rattle.std.proofs.lemmas.List.{take_more, map-append}
use Rattle.mote_timers.specs.TimerLists.{least}

pub least_push : (xs : List ℕ) (y : ℕ) → least (xs ++ y ∷ []) ≡ Some (option_map_or (λ best. min best y) (least xs) y)
least_push [] y = refl
least_push (x ∷ xs) y = rw (least_push xs y) (turned (least xs))
  where
    turned : (o : Option ℕ) → Some (min x (option_map_or (λ best. min best y) o y)) ≡ Some (min (option_map_or (min x) o x) y)
    turned None = refl
    turned (Some best) = let same : min x (min best y) ≡ min (min x best) y = omega arith in ap Some same

-- the least of the first i numbers and of one more
pub least_more : (f : ℕ → ℕ) (xs : List ℕ) (i : ℕ) → i < length xs
    → least (map f (take (i + 1) xs)) ≡ Some (option_map_or (λ best. min best (f (get_or xs i 0))) (least (map f (take i xs))) (f (get_or xs i 0)))
least_more f xs i within = rw (take_more xs i 0 within, map-append) (least_push (map f (take i xs)) (f (get_or xs i 0)))

-- one iteration of a loop: r is the earlier of the best moment so far and the next one
pub least_step : (f : ℕ → ℕ) (xs : List ℕ) (i : ℕ) (best : Option ℕ) (e r : ℕ) → i < length xs → best ≡ least (map f (take i xs)) → e ≡ f (get_or xs i 0)
    → r ≡ option_map_or (λ earlier. min earlier e) best e → Some r ≡ least (map f (take (i + 1) xs))
least_step f xs i best e r within so_far next sooner = rw (least_more f xs i within, ← next, ← so_far) (ap Some sooner)

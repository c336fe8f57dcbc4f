-- The least delay.
use Rattle.std.proofs.Common.{◌≡◌, ℕ, ◌+◌, ◌<◌, ◌≤◌, min, true, List, [], ◌∷◌, map, length, None, unwrap_or, arith}
use Rattle.std.specs.List.{AllByRecursion, fold, reduce}
use Rattle.radio_medium.specs.Medium.{Radio, motes, receivers, hears, delay, delays, lookahead, medium_fault}
use Rattle.radio_medium.proofs.Elements.{each, each_map, each_flat_map, before_map, before_filter, before_flat_map, within_range}
use Rattle.radio_medium.proofs.Faults.{base_above}
use Rattle.radio_medium.proofs.Hearing.{there-hears, there-heard}

pub least_of_all : (a : ℕ) (xs : List ℕ) → (fold min a xs ≤ a) × AllByRecursion (λ x. fold min a xs ≤ x) xs
least_of_all a [] = (omega arith, tt)
least_of_all a (x ∷ xs) =
    let rest : (fold min (min a x) xs ≤ min a x) × AllByRecursion (λ y. fold min (min a x) xs ≤ y) xs = least_of_all (min a x) xs in
    let least : fold min (min a x) xs ≤ min a x = rest.0 in
    (omega arith, (omega arith, rest.1))

-- no element is less than the least one
pub least_below : (xs : List ℕ) (d : ℕ) → AllByRecursion (λ x. unwrap_or (reduce min xs) d ≤ x) xs
least_below [] d = tt
least_below (x ∷ xs) d = least_of_all x xs

-- a lower bound of all elements is a lower bound of the least element
pub least_above : (low : ℕ) (xs : List ℕ) (d : ℕ) → AllByRecursion (λ x. low ≤ x) xs → low ≤ d → low ≤ unwrap_or (reduce min xs) d
least_above low [] d h k = k
least_above low (x ∷ xs) d h k = from x xs h.0 h.1
  where
    from : (a : ℕ) (ys : List ℕ) → low ≤ a → AllByRecursion (λ y. low ≤ y) ys → low ≤ fold min a ys
    from a [] p q = p
    from a (y ∷ ys) p q = let first : low ≤ y = q.0 in from (min a y) ys (omega arith) q.1

-- if a mote hears another one, the delay between them isn't below the lookahead
pub lookahead-le : (radio : Radio) (s r end : ℕ) → hears radio r s ≡ true → lookahead radio end ≤ delay radio s r
unfolding lookahead delays receivers
lookahead-le radio s r end heard =
    let D : ℕ → Type 0 = λ d. unwrap_or (reduce min (delays radio)) (end + 1) ≤ d in
    let by_sender : AllByRecursion (λ k. AllByRecursion D (map (delay radio k) (receivers radio k))) (motes radio) =
    before_flat_map D (λ k. map (delay radio k) (receivers radio k)) (motes radio) (least_below (delays radio) (end + 1)) in
    let here : AllByRecursion D (map (delay radio s) (receivers radio s)) =
    within_range (λ k. AllByRecursion D (map (delay radio k) (receivers radio k))) 0 (length radio.places) s by_sender (omega arith) (let l : s < length radio.places = there-heard radio r s heard in omega arith) in
    let by_receiver : AllByRecursion (λ k. hears radio k s ≡ true → D (delay radio s k)) (motes radio) =
    before_filter (λ k. D (delay radio s k)) (λ k. hears radio k s) (motes radio) (before_map D (delay radio s) (receivers radio s) here) in
    within_range (λ k. hears radio k s ≡ true → D (delay radio s k)) 0 (length radio.places) r by_receiver (omega arith) (let l : r < length radio.places = there-hears radio r s heard in omega arith) heard

-- a medium without a fault has a lookahead above 0
pub lookahead-above : (radio : Radio) → medium_fault radio ≡ None → (end : ℕ) → 0 < lookahead radio end
unfolding lookahead delays delay
lookahead-above radio sound end =
    let base : 0 < radio.base = base_above radio sound in
    least_above 1 (delays radio) (end + 1)
    (each_flat_map (λ d. 1 ≤ d) (λ s. map (delay radio s) (receivers radio s)) (motes radio)
    (λ s. each_map (λ d. 1 ≤ d) (delay radio s) (receivers radio s) (each (λ r. 1 ≤ delay radio s r) (λ r. omega arith) (receivers radio s))))
    (omega arith)

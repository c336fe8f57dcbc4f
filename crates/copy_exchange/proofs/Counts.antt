-- The numbers of copies, and their order, by the worker of their receiver and by their sender.
use Rattle.std.proofs.Common.{[], ◌≡◌, ◌⊎◌, ℕ, zero, suc, ◌+◌, ◌<◌, ◌≤◌, true, false, cond, eqb, List, ◌∷◌, length, refl, ap, ap₂, ◌∙◌, arith, inl, inr, Some}
use Rattle.std.specs.Option.{option_map_or}
use Rattle.copy_exchange.specs.Crossed.{is_own, is_to}
use Rattle.radio_packet.specs.declared.copy.RadioCopy.{RadioCopy}
use Rattle.std.specs.List.{filter, slice_get, AllByRecursion}
use Rattle.std.proofs.lemmas.Bool.{eq-eqb, ne_eqb, cases_Bool, cases_order}

-- the sum of the numbers of all workers below n
abbrev pub total : (ℕ → ℕ) → (n : ℕ) → ℕ
total f zero = 0
total f (suc n) = total f n + f n

total_same : (f g : ℕ → ℕ) (n : ℕ) → ((k : ℕ) → k < n → f k ≡ g k) → total f n ≡ total g n
total_same f g zero h = refl
total_same f g (suc n) h = ap₂ (λ a b. a + b) (total_same f g n (λ k l. h k (omega arith))) (h n (omega arith))

total_zero : (n : ℕ) → total (λ k. 0) n ≡ 0
total_zero zero = refl
total_zero (suc n) = ap (λ a. a + 0) (total_zero n) ∙ refl

total_plus : (f g : ℕ → ℕ) (n : ℕ) → total (λ k. f k + g k) n ≡ total f n + total g n
total_plus f g zero = refl
total_plus f g (suc n) = let e = total_plus f g n in omega arith

-- 1 for one of these workers and 0 for each other worker have the sum 1
total_one : (w n : ℕ) → w < n → total (λ k. cond (eqb w k) 1 0) n ≡ 1
total_one w zero h = absurd (omega arith)
total_one w (suc n) h = of (total_one w n) (cases_order w n)
  where
    below : (m : ℕ) → m ≤ w → total (λ k. cond (eqb w k) 1 0) m ≡ 0
    below zero l = refl
    below (suc m) l = let e : eqb w m ≡ false = ne_eqb w m (λ q. absurd (omega arith)) in (let b = below m (omega arith) in rw e (omega arith))

    of : (w < n → total (λ k. cond (eqb w k) 1 0) n ≡ 1) → (w ≡ n) ⊎ ((w < n) ⊎ (n < w)) → total (λ k. cond (eqb w k) 1 0) n + cond (eqb w n) 1 0 ≡ 1
    of ih (inl e) = let f = eq-eqb w n e in let b = below n (omega arith) in rw f (omega arith)
    of ih (inr (inl l)) = let e : eqb w n ≡ false = ne_eqb w n (λ q. absurd (omega arith)) in (let b = ih l in rw e (omega arith))
    of ih (inr (inr l)) = absurd (omega arith)

module _ (owners : List ℕ) (workers : ℕ) where
  -- a mote belongs to some worker
  abbrev pub IsHad : (mote : ℕ) → Type 0
  IsHad mote = (w : ℕ) × (slice_get owners mote ≡ Some w) × (w < workers)

  pub by_worker : (xs : List RadioCopy) → AllByRecursion (λ copy. IsHad copy.to) xs → total (λ v. length (filter (is_to owners v) xs)) workers ≡ length xs
  by_worker [] h = total_zero workers
  by_worker (x ∷ xs) h =
      let a : total (λ v. length (filter (is_to owners v) (x ∷ xs))) workers ≡ total (λ k. cond (eqb h.0.0 k) 1 0 + length (filter (is_to owners k) xs)) workers = total_same _ _ workers (λ k l. one k) in
      let b = total_plus (λ k. cond (eqb h.0.0 k) 1 0) (λ v. length (filter (is_to owners v) xs)) workers in
      let c = total_one h.0.0 workers h.0.2 in
      let d = by_worker xs h.1 in
      omega arith
    where
      has_is : (k : ℕ) → is_own owners k x.to ≡ eqb h.0.0 k
      has_is k = ap (λ o. option_map_or (λ w. eqb w k) o false) h.0.1

      one : (k : ℕ) → length (filter (is_to owners k) (x ∷ xs)) ≡ cond (eqb h.0.0 k) 1 0 + length (filter (is_to owners k) xs)
      one k = let e = has_is k in of_case (cases_Bool (eqb h.0.0 k)) e
        where
          of_case : (eqb h.0.0 k ≡ true) ⊎ (eqb h.0.0 k ≡ false) → is_own owners k x.to ≡ eqb h.0.0 k → length (filter (is_to owners k) (x ∷ xs)) ≡ cond (eqb h.0.0 k) 1 0 + length (filter (is_to owners k) xs)
          of_case (inl t) e = let f : is_own owners k x.to ≡ true = e ∙ t in rw (f, t) (omega arith)
          of_case (inr t) e = let f : is_own owners k x.to ≡ false = e ∙ t in rw (f, t) (omega arith)

-- The faults of one mote more.
use Rattle.std.proofs.Common.{◌≡◌, ℕ, zero, suc, ◌+◌, Bool, true, false, if◌then◌else◌, List, [], ◌∷◌, ◌++◌, map, filter, append-nil, append_assoc, refl, ap, ◌∙◌, arith}
use Rattle.std.specs.List.{flat_map, range_with_len}
use Rattle.std.proofs.lemmas.List.{map-append}
use Rattle.std.proofs.lemmas.List.Concat.{flat_map-append}
use Rattle.std.proofs.lemmas.List.Elements.{filter-append}

range-more : (a n j : ℕ) → a + n ≡ j → range_with_len a (n + 1) ≡ range_with_len a n ++ j ∷ []
range-more a zero j is = let same : a ≡ j = omega arith in rw same refl
range-more a (suc n) j is = let shifted : suc n + 1 ≡ suc (n + 1) = omega arith in rw shifted (ap (λ ks. a ∷ ks) (range-more (a + 1) n j (omega arith)))

module _ {X : Type 0} (old all new : List X) (n : ℕ) where
  -- the fault of one receiver more, if it has one
  pub one_more : (f : ℕ → X) (p : ℕ → Bool) → all ≡ old ++ map f (filter p (range_with_len 0 n)) → new ≡ all ++ (if p n then f n ∷ [] else [])
      → new ≡ old ++ map f (filter p (range_with_len 0 (n + 1)))
  one_more f p before after = after ∙ (ap (λ l. l ++ (if p n then f n ∷ [] else [])) before ∙ (append_assoc old _ _ ∙ ap (λ l. old ++ l) grown))
    where
      grown : map f (filter p (range_with_len 0 n)) ++ (if p n then f n ∷ [] else []) ≡ map f (filter p (range_with_len 0 (n + 1)))
      grown =
          rw (range-more 0 n n (omega arith), filter-append p (range_with_len 0 n) (n ∷ []), map-append)
          (ap (λ ks. map f (filter p (range_with_len 0 n)) ++ ks) (elim (p n) as (λ b. (if b then f n ∷ [] else []) ≡ map f (if b then n ∷ [] else [])) [ true ↦ refl | false ↦ refl ]))

  -- the faults of one sender more
  pub more_from : (f : ℕ → List X) → all ≡ old ++ flat_map f (range_with_len 0 n) → new ≡ all ++ f n → new ≡ old ++ flat_map f (range_with_len 0 (n + 1))
  more_from f before after =
      after ∙ (ap (λ l. l ++ f n) before ∙ (append_assoc old _ _ ∙ ap (λ l. old ++ l) (rw (range-more 0 n n (omega arith), flat_map-append) (ap (λ l. flat_map f (range_with_len 0 n) ++ l) last))))
    where
      last : f n ≡ flat_map f (n ∷ [])
      last = rw append-nil refl

  -- the fault of one mote more
  pub mote_more : (f : ℕ → X) → all ≡ old ++ map f (range_with_len 0 n) → new ≡ all ++ f n ∷ [] → new ≡ old ++ map f (range_with_len 0 (n + 1))
  mote_more f before after =
      after ∙ (ap (λ l. l ++ f n ∷ []) before ∙ (append_assoc old _ _ ∙ ap (λ l. old ++ l) (rw (range-more 0 n n (omega arith), map-append) refl)))

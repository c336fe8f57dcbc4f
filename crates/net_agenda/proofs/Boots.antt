-- A net before the motes' first turns.
use Rattle.std.proofs.Common.{◌≡◌, ℕ, ◌+◌, ◌<◌, List, [], ◌∷◌, ◌++◌, length, map, get_or, sym, ap, ◌∙◌, subst, inl, inr, arith, add-one}
use Rattle.std.proofs.Math.ListN.{get_or-append}
use Rattle.std.proofs.Math.Seq.{get_or-append_seam}
use Rattle.std.proofs.lemmas.Bool.{cases_eq}
use Rattle.std.proofs.lemmas.List.{map-append}
use Rattle.window_laws.specs.Agenda.{Wake, up_to}

-- a property of each element, and of one more element
pub pushed : {X : Type 0} (P : ℕ → X → Type 0) (xs ys : List X) (x : X) (i : ℕ) → ys ≡ xs ++ x ∷ [] → length xs ≡ i
    → ((k : ℕ) (d : X) → k < i → P k (get_or xs k d)) → P i x → (k : ℕ) (d : X) → k < i + 1 → P k (get_or ys k d)
pushed P xs ys x i e n all one k d h =
    elim (cases_eq k i) [
      | inl f ↦ subst (λ l. P k (get_or l k d)) (sym e)
          (subst (λ j. P j (get_or (xs ++ x ∷ []) j d)) (n ∙ sym f) (subst (P (length xs)) (sym (get_or-append_seam xs x [] d)) (subst (λ j. P j x) (sym n) one)))
      | inr ne ↦ (let low : k < i = omega arith in let low' : k < length xs = omega arith in
          subst (λ l. P k (get_or l k d)) (sym e) (subst (P k) (sym (get_or-append xs (x ∷ []) d k low')) (all k d low)))
    ]

pub wakes_more : (i : ℕ) → map (λ k. Wake 0 k) (up_to i) ++ Wake 0 i ∷ [] ≡ map (λ k. Wake 0 k) (up_to (i + 1))
wakes_more i = sym (ap (λ j. map (λ k. Wake 0 k) (up_to j)) (add-one i) ∙ map-append (λ k. Wake 0 k) (up_to i) (i ∷ []))

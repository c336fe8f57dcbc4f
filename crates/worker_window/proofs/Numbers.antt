-- Lists of different numbers.
use Rattle.std.proofs.Common.{◌≡◌, ◌∙◌, ℕ, zero, suc, ◌<◌, true, false, not, ◌||◌, eqb, List, [], ◌∷◌, ◌++◌, length, get_or, refl, sym, ap, subst, inl, inr, arith}
use Rattle.std.proofs.Math.Bool.{or-false, or-true}
use Rattle.std.proofs.lemmas.Bool.{cases_Bool, eq-eqb, eqb-true, ne_eqb, false≢true, and_parts, not-true, or_parts}
use Rattle.std.specs.List.{AllByRecursion}
use Rattle.worker_window.specs.Events.{is_one_of, are_different}

-- a list with one more number
pub among_more : (j : ℕ) (ks : List ℕ) (k : ℕ) → is_one_of j (ks ++ k ∷ []) ≡ (is_one_of j ks || eqb k j)
among_more j [] k = or-false (eqb k j)
among_more j (i ∷ ks) k = elim (cases_Bool (eqb i j)) [ inl e ↦ rw e refl | inr e ↦ rw e (among_more j ks k) ]

pub different_more : (ks : List ℕ) (k : ℕ) → are_different ks ≡ true → is_one_of k ks ≡ false → are_different (ks ++ k ∷ []) ≡ true
different_more [] k d n = refl
different_more (i ∷ ks) k d n =
    let parts = and_parts (not (is_one_of i ks)) (are_different ks) d in
    elim (cases_Bool (eqb i k)) [
      | inl e ↦ absurd (let f = rw e at n in false≢true (sym f))
      | inr e ↦ (let f = rw e at n in
          let g : eqb k i ≡ false = ne_eqb k i (λ q. false≢true (sym e ∙ eq-eqb i k (sym q))) in
          let h : is_one_of i (ks ++ k ∷ []) ≡ false = among_more i ks k ∙ (ap (λ b. is_one_of i ks || b) g ∙ (or-false (is_one_of i ks) ∙ not-true (is_one_of i ks) parts.0)) in
          rw h (different_more ks k parts.1 f))
    ]

-- a list with one number less
pub different_less : (ks : List ℕ) (k : ℕ) → are_different (ks ++ k ∷ []) ≡ true → (are_different ks ≡ true) × (is_one_of k ks ≡ false)
different_less [] k d = (refl, refl)
different_less (i ∷ ks) k d =
    let parts = and_parts (not (is_one_of i (ks ++ k ∷ []))) (are_different (ks ++ k ∷ [])) d in
    let ih = different_less ks k parts.1 in
    let h : (is_one_of i ks || eqb k i) ≡ false = sym (among_more i ks k) ∙ not-true (is_one_of i (ks ++ k ∷ [])) parts.0 in
    let none = or_parts (is_one_of i ks) (eqb k i) h in
    let a : is_one_of i ks ≡ false = none.0 in
    let b : eqb k i ≡ false = none.1 in
    let c : eqb i k ≡ false = ne_eqb i k (λ q. false≢true (sym b ∙ eq-eqb k i (sym q))) in
    (rw a ih.0, rw c ih.1)

pub among_all : (P : ℕ → Type 0) (ks : List ℕ) (k : ℕ) → AllByRecursion P ks → is_one_of k ks ≡ true → P k
among_all P [] k h e = absurd (false≢true e)
among_all P (j ∷ ks) k h e = elim (cases_Bool (eqb j k)) [ inl f ↦ subst P (eqb-true j k f) h.0 | inr f ↦ (let g = rw f at e in among_all P ks k h.1 g) ]

pub read_among : (ks : List ℕ) (i d : ℕ) → i < length ks → is_one_of (get_or ks i d) ks ≡ true
read_among [] i d low = absurd (omega arith)
read_among (j ∷ ks) zero d low = let e = eq-eqb j j refl in rw e refl
read_among (j ∷ ks) (suc i) d low = elim (cases_Bool (eqb j (get_or ks i d))) [ inl f ↦ rw f refl | inr f ↦ rw f (read_among ks i d (omega arith)) ]

-- a property of each number of a list
pub all_among : (P : ℕ → Type 0) (ks : List ℕ) → ((k : ℕ) → is_one_of k ks ≡ true → P k) → AllByRecursion P ks
all_among P [] h = tt
all_among P (j ∷ ks) h = (h j (let e = eq-eqb j j refl in rw e refl), all_among P ks (λ k e. h k (later k e)))
  where
    later : (k : ℕ) → is_one_of k ks ≡ true → is_one_of k (j ∷ ks) ≡ true
    later k e = elim (cases_Bool (eqb j k)) [ inl f ↦ rw f refl | inr f ↦ rw f e ]

-- the last of different numbers, and the others
module _ (all front : List ℕ) (k : ℕ) (popped : all ≡ front ++ k ∷ []) (different : are_different all ≡ true) where
  among : (j : ℕ) → is_one_of j all ≡ (is_one_of j front || eqb k j)
  among j = ap (is_one_of j) popped ∙ among_more j front k

  pub front_different : (are_different front ≡ true) × (is_one_of k front ≡ false)
  front_different = different_less front k (ap are_different (sym popped) ∙ different)

  pub last_among : is_one_of k all ≡ true
  last_among = among k ∙ (ap (λ b. is_one_of k front || b) (eq-eqb k k refl) ∙ or-true (is_one_of k front))

  pub among_else : (j : ℕ) → (j ≡ k → ⊥) → is_one_of j all ≡ is_one_of j front
  among_else j ne = among j ∙ (ap (λ b. is_one_of j front || b) (ne_eqb k j (λ f. ne (sym f))) ∙ or-false (is_one_of j front))

  pub not_last : (j : ℕ) → is_one_of j front ≡ true → j ≡ k → ⊥
  not_last j e f = false≢true (sym front_different.1 ∙ (ap (λ i. is_one_of i front) (sym f) ∙ e))

  pub still_among : (j : ℕ) → is_one_of j front ≡ true → is_one_of j all ≡ true
  still_among j e = among_else j (not_last j e) ∙ e

-- Two sets with the same elements are permutations of each other.
use Rattle.std.proofs.Common.{◌≡◌, ℕ, ◌<◌, List, [], ◌∷◌, ◌++◌, ap, sym, subst, inl, inr, arith}
use Rattle.std.specs.Prelude.{IsPermutation}
use Rattle.std.specs.List.{Contains}
use Rattle.std.proofs.lemmas.List.Elements.{Contains-append_left, Contains-append_right, Contains-append_cases}
use Rattle.std.proofs.lemmas.List.Sorted.{IsPermutation-refl, IsPermutation-sym, IsPermutation-trans, IsPermutation-cons, IsPermutation-middle}
use Rattle.survey.specs.FaultSet.{IsSet, IsWithin}
use Rattle.survey.proofs.Within.{contains_here, contains_later, contains_cases}

-- a list around one of its elements
record Around (G : List ℕ) (x : ℕ) : Type 0 where
  front : List ℕ
  back : List ℕ
  is : G ≡ front ++ x ∷ back

around : (G : List ℕ) (x : ℕ) → Contains G x → Around G x
around [] x at = absurd (omega arith)
around (y ∷ G) x at = elim (contains_cases y x G at) [
  | inl e ↦ record { front = []; back = G; is = ap (λ z. z ∷ G) e }
  | inr later ↦ let r = around G x later in record { front = y ∷ r.front; back = r.back; is = ap (λ l. y ∷ l) r.is }
]

-- without one element a set is a set, and doesn't have it
set_without : (n : ℕ) (A : List ℕ) (x : ℕ) (B : List ℕ) → IsSet n (A ++ x ∷ B) → IsSet n (A ++ B)
set_without n [] x B set = set.2
set_without n (a ∷ A) x B set = (
  set.0,
  (λ at. set.1 (elim (Contains-append_cases A B a at) [ inl front ↦ Contains-append_left A (x ∷ B) a front | inr back ↦ Contains-append_right A (x ∷ B) a (contains_later x a B back) ])),
  set_without n A x B set.2,
)

gone : (n : ℕ) (A : List ℕ) (x : ℕ) (B : List ℕ) → IsSet n (A ++ x ∷ B) → Contains (A ++ B) x → ⊥
gone n [] x B set at = set.1 at
gone n (a ∷ A) x B set at = elim (contains_cases a x (A ++ B) at) [
  | inl e ↦ set.1 (subst (Contains (A ++ x ∷ B)) (sym e) (Contains-append_right A (x ∷ B) x (contains_here x B)))
  | inr later ↦ gone n A x B set.2 later
]

pub permutes : (n : ℕ) (F G : List ℕ) → IsSet n F → IsSet n G → IsWithin F G → IsWithin G F → IsPermutation F G
permutes n [] [] f g there back = IsPermutation-refl []
permutes n [] (y ∷ G) f g there back = absurd (let none = back y (contains_here y G) in omega arith)
permutes n (x ∷ F) G f g there back =
    let r = around G x (there x (contains_here x F)) in
    let set = subst (IsSet n) r.is g in
    let there' : IsWithin F (r.front ++ r.back) = λ k at.
    elim (Contains-append_cases r.front (x ∷ r.back) k (subst (λ (l : List ℕ). Contains l k) r.is (there k (contains_later x k F at)))) [
      | inl front ↦ Contains-append_left r.front r.back k front
      | inr later ↦ elim (contains_cases x k r.back later) [
        | inl e ↦ absurd (f.1 (subst (Contains F) (sym e) at))
        | inr rest ↦ Contains-append_right r.front r.back k rest
      ]
    ] in
    let back' : IsWithin (r.front ++ r.back) F = λ k at.
    let old : Contains G k = subst (λ (l : List ℕ). Contains l k) (sym r.is) (elim (Contains-append_cases r.front r.back k at) [
      | inl front ↦ Contains-append_left r.front (x ∷ r.back) k front
      | inr rest ↦ Contains-append_right r.front (x ∷ r.back) k (contains_later x k r.back rest)
    ]) in
    elim (contains_cases x k F (back k old)) [
      | inl e ↦ absurd (gone n r.front x r.back set (subst (Contains (r.front ++ r.back)) (sym e) at))
      | inr later ↦ later
    ] in
    let rest = permutes n F (r.front ++ r.back) f.2 (set_without n r.front x r.back set) there' back' in
    subst (IsPermutation (x ∷ F)) (sym r.is)
    (IsPermutation-trans _ _ _ (IsPermutation-cons x F (r.front ++ r.back) rest) (IsPermutation-sym _ _ (IsPermutation-middle r.front x r.back)))

-- the last key of a set
pub last_below : (n : ℕ) (F : List ℕ) (k : ℕ) → IsSet n (F ++ k ∷ []) → k < n
last_below n [] k set = set.0
last_below n (x ∷ F) k set = last_below n F k set.2

pub last_fresh : (n : ℕ) (F : List ℕ) (k : ℕ) → IsSet n (F ++ k ∷ []) → Contains F k → ⊥
last_fresh n [] k set at = absurd (omega arith)
last_fresh n (x ∷ F) k set at = elim (contains_cases x k F at) [
  | inl e ↦ set.1 (subst (Contains (F ++ k ∷ [])) (sym e) (Contains-append_right F (k ∷ []) k (contains_here k [])))
  | inr later ↦ last_fresh n F k set.2 later
]

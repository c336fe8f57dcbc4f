-- In each set, the faults that are taken one after another: each time the first that is offered.
use Rattle.std.proofs.Common.{◌≡◌, ℕ, zero, suc, ◌+◌, ◌<◌, ◌⊎◌, Bool, true, false, not, eqb, List, [], ◌∷◌, ◌++◌, length, length-append, get_or, take, refl, ap, sym, subst, inl, inr, arith, ◌∙◌}
use Rattle.std.specs.List.{Contains, filter, list_any}
use Rattle.std.proofs.lemmas.Bool.{cases_Bool, eqb-true, eq-eqb, ne_eqb}
use Rattle.std.proofs.lemmas.List.Elements.{Contains-append_right, Contains-append_cases, Contains-append_left, Contains-push_cases, Contains-get_or}
use Rattle.survey.specs.FaultSet.{IsOnce, IsSet, IsWithin}
use Rattle.survey.specs.Premise.{Runs, OffersAll}
use Rattle.survey.specs.Order.{IsNode, EachHasNode, before, awake, asleep, asleep_from, next_keys}
use Rattle.survey.specs.Order.IsNode.{Root, Child}
use Rattle.survey.proofs.Within.{contains_here, contains_later, contains_cases, has_or_not, within_short, set_push, set_front, set_join, rest_of}

pub push_assoc : (P : List ℕ) (q : ℕ) (Q : List ℕ) → (P ++ q ∷ []) ++ Q ≡ P ++ q ∷ Q
push_assoc [] q Q = refl
push_assoc (x ∷ P) q Q = ap (λ t. x ∷ t) (push_assoc P q Q)

pub append_nil : (P : List ℕ) → P ++ [] ≡ P
append_nil [] = refl
append_nil (x ∷ P) = ap (λ t. x ∷ t) (append_nil P)

pub kept : (p : ℕ → Bool) (xs : List ℕ) (k : ℕ) → p k ≡ true → Contains xs k → Contains (filter p xs) k
kept p [] k is at = absurd (omega arith)
kept p (x ∷ xs) k is at =
    elim (contains_cases x k xs at) [
      | inl e ↦
          let px : p x ≡ true = ap p e ∙ is in
          let C : ℕ → Type 0 = λ y. Contains (x ∷ filter p xs) y in
          rw px (subst C e (contains_here x (filter p xs)))
      | inr later ↦ elim (cases_Bool (p x)) [
        | inl px ↦ rw px (contains_later x k (filter p xs) (kept p xs k is later))
        | inr px ↦ rw px (kept p xs k is later)
      ]
    ]

pub from_kept : (p : ℕ → Bool) (xs : List ℕ) (k : ℕ) → Contains (filter p xs) k → Contains xs k
from_kept p [] k at = at
from_kept p (x ∷ xs) k at =
    elim (cases_Bool (p x)) [
      | inl px ↦ let here = rw px at at in elim (contains_cases x k (filter p xs) here) [
        | inl e ↦ let C : ℕ → Type 0 = λ y. Contains (x ∷ xs) y in subst C e (contains_here x xs)
        | inr later ↦ contains_later x k xs (from_kept p xs k later)
      ]
      | inr px ↦ let here = rw px at at in contains_later x k xs (from_kept p xs k here)
    ]

no_any : (xs : List ℕ) (k : ℕ) → (Contains xs k → ⊥) → list_any (λ x. eqb x k) xs ≡ false
no_any [] k none = refl
no_any (x ∷ xs) k none =
    elim (cases_Bool (eqb x k)) [
      | inl is ↦ let C : ℕ → Type 0 = λ y. Contains (x ∷ xs) y in absurd (none (subst C (eqb-true x k is) (contains_here x xs)))
      | inr isnt ↦ rw isnt (no_any xs k (λ at. none (contains_later x k xs at)))
    ]

-- an offered key that isn't asleep is awake
pub awake_of : (S xs : List ℕ) (k : ℕ) → Contains xs k → (Contains S k → ⊥) → Contains (awake S xs) k
awake_of S xs k at none = kept (λ j. not (list_any (λ x. eqb x j) S)) xs k (ap not (no_any S k none)) at

pub awake_in : (S xs : List ℕ) (k : ℕ) → Contains (awake S xs) k → Contains xs k
awake_in S xs k at = from_kept (λ j. not (list_any (λ x. eqb x j) S)) xs k at

filter_once : (p : ℕ → Bool) (xs : List ℕ) → IsOnce xs → IsOnce (filter p xs)
filter_once p [] once = tt
filter_once p (x ∷ xs) once =
    elim (cases_Bool (p x)) [
      | inl px ↦ rw px ((λ at. once.0 (from_kept p xs x at)), filter_once p xs once.1)
      | inr px ↦ rw px (filter_once p xs once.1)
    ]

pub awake_once : (S xs : List ℕ) → IsOnce xs → IsOnce (awake S xs)
awake_once S xs once = filter_once (λ j. not (list_any (λ x. eqb x j) S)) xs once

before_here : (x : ℕ) (xs : List ℕ) → before x (x ∷ xs) ≡ []
before_here x xs = rw (eq-eqb x x refl) refl

before_later : (k x : ℕ) (xs : List ℕ) → (x ≡ k → ⊥) → before k (x ∷ xs) ≡ x ∷ before k xs
before_later k x xs other = rw (ne_eqb x k other) refl

-- in a list without repeats, the keys before that at a place are those at smaller places
pub before_place : (xs : List ℕ) (i : ℕ) → IsOnce xs → i < length xs → before (get_or xs i 0) xs ≡ take i xs
before_place [] i once lt = absurd (omega arith)
before_place (x ∷ xs) zero once lt = before_here x xs
before_place (x ∷ xs) (suc i) once lt =
    let at : Contains xs (get_or xs i 0) = Contains-get_or xs i 0 (omega arith) in
    let C : ℕ → Type 0 = λ y. Contains xs y in
    before_later (get_or xs i 0) x xs (λ e. once.0 (subst C (sym e) at)) ∙ ap (λ t. x ∷ t) (before_place xs i once.1 (omega arith))

asleep_from_push : (offers : List ℕ → List ℕ) (S P F : List ℕ) (k : ℕ) → asleep_from offers S P (F ++ k ∷ [])
    ≡ asleep_from offers S P F ++ before k (awake (asleep_from offers S P F) (offers (P ++ F)))
asleep_from_push offers S P [] k = ap (λ (t : List ℕ). S ++ before k (awake S (offers t))) (sym (append_nil P))
asleep_from_push offers S P (x ∷ F) k =
    let S' = S ++ before x (awake S (offers P)) in
    let A = asleep_from offers S' (P ++ x ∷ []) F in
    asleep_from_push offers S' (P ++ x ∷ []) F k ∙ ap (λ (t : List ℕ). A ++ before k (awake A (offers t))) (push_assoc P x F)

pub asleep_push : (offers : List ℕ → List ℕ) (F : List ℕ) (k : ℕ) → asleep offers (F ++ k ∷ []) ≡ asleep offers F ++ before k (next_keys offers F)
asleep_push offers F k = asleep_from_push offers [] [] F k

-- the first element that the other list also has, or none
abbrev First : List ℕ → List ℕ → Type 0
First G xs = (k : ℕ) × Contains xs k × Contains G k × ((j : ℕ) → Contains (before k xs) j → Contains G j → ⊥)

first : (G xs : List ℕ) → First G xs ⊎ ((k : ℕ) → Contains xs k → Contains G k → ⊥)
first G [] = inr (λ k at there. absurd (omega arith))
first G (x ∷ xs) =
    elim (has_or_not G x) [
      | inl at ↦
          let none : (j : ℕ) → Contains (before x (x ∷ xs)) j → Contains G j → ⊥ = λ j in' g.
          let C : List ℕ → Type 0 = λ t. Contains t j in
          let never : Contains [] j = subst C (before_here x xs) in' in
          absurd (omega arith) in
          inl (x, contains_here x xs, at, none)
      | inr other ↦ elim (first G xs) [
        | inl one ↦
            let InG : ℕ → Type 0 = λ y. Contains G y in
            let none : (j : ℕ) → Contains (before one.0 (x ∷ xs)) j → Contains G j → ⊥ = λ j in' g.
            let C : List ℕ → Type 0 = λ t. Contains t j in
            let here : Contains (x ∷ before one.0 xs) j = subst C (before_later one.0 x xs (λ e. other (subst InG (sym e) one.2))) in' in
            elim (contains_cases x j (before one.0 xs) here) [ inl e ↦ other (subst InG (sym e) g) | inr later ↦ one.3 j later g ] in
            inl (one.0, contains_later x one.0 xs one.1, one.2, none)
        | inr none ↦ inr (λ k at there. elim (contains_cases x k xs at) [
          | inl e ↦ let InG : ℕ → Type 0 = λ y. Contains G y in other (subst InG (sym e) there)
          | inr later ↦ none k later there
        ])
      ]
    ]

module _ (runs : Runs) (all : OffersAll runs) where
  -- faults that aren't offered change nothing
  all_nothing : (R N : List ℕ) → IsSet runs.bound (N ++ R) → ((k : ℕ) → Contains R k → Contains (runs.offers N) k → ⊥) → (c : ℕ)
      → runs.holds (N ++ R) c ≡ runs.holds N c
  all_nothing [] N set none c = ap (λ t. runs.holds t c) (append_nil N)
  all_nothing (r ∷ R) N set none c =
      let S : List ℕ → Type 0 = λ t. IsSet runs.bound t in
      let moved : IsSet runs.bound ((N ++ r ∷ []) ++ R) = subst S (sym (push_assoc N r R)) set in
      let here : IsSet runs.bound (N ++ r ∷ []) = set_front runs.bound (N ++ r ∷ []) R moved in
      let never : Contains (runs.offers N) r → ⊥ = none r (contains_here r R) in
      let rest = all_nothing R (N ++ r ∷ []) moved (λ k at there. none k (contains_later r k R at) (all.offers_same N r k here never there)) c in
      ap (λ t. runs.holds t c) (sym (push_assoc N r R)) ∙ rest ∙ all.holds_same N r here never c

  same_as : (G N : List ℕ) → IsSet runs.bound G → IsSet runs.bound N → IsWithin N G → ((k : ℕ) → Contains G k → Contains (runs.offers N) k → ⊥)
      → (c : ℕ) → runs.holds G c ≡ runs.holds N c
  same_as G N hG hN within none c =
      let r = rest_of runs.bound G N hG in
      let R = r.0 in
      let both : IsSet runs.bound (N ++ R) = set_join runs.bound N R hN r.1 (λ k a b. (r.2 k a).1 b) in
      let there : IsWithin G (N ++ R) = λ f at. elim (r.3 f at) [ inl a ↦ Contains-append_left N R f a | inr b ↦ Contains-append_right N R f b ] in
      let back : IsWithin (N ++ R) G = λ f at. elim (Contains-append_cases N R f at) [ inl a ↦ within f a | inr b ↦ (r.2 f b).0 ] in
      all.unordered G (N ++ R) hG both there back c ∙ all_nothing R N both (λ k at. none k (r.2 k at).0) c

  abbrev Found : List ℕ → Type 0
  Found G = (M : List ℕ) × IsNode (next_keys runs.offers) M × IsSet runs.bound M × IsWithin M G × ((c : ℕ) → runs.holds G c ≡ runs.holds M c)

  -- no key of G is asleep
  abbrev Outside : List ℕ → List ℕ → Type 0
  Outside G N = (k : ℕ) → Contains (asleep runs.offers N) k → Contains G k → ⊥

  none_offered : (G N : List ℕ) → Outside G N → ((k : ℕ) → Contains (next_keys runs.offers N) k → Contains G k → ⊥)
      → (k : ℕ) → Contains G k → Contains (runs.offers N) k → ⊥
  none_offered G N out none k in' there = none k (awake_of (asleep runs.offers N) (runs.offers N) k there (λ at. out k at in')) in'

  outside_push : (G N : List ℕ) (one : First G (next_keys runs.offers N)) → Outside G N → Outside G (N ++ one.0 ∷ [])
  outside_push G N one out k at in' =
      let C : List ℕ → Type 0 = λ t. Contains t k in
      elim (Contains-append_cases (asleep runs.offers N) (before one.0 (next_keys runs.offers N)) k (subst C (asleep_push runs.offers N one.0) at)) [
        | inl old ↦ out k old in'
        | inr new ↦ one.3 k new in'
      ]

  push_within : (G N : List ℕ) (k : ℕ) → Contains G k → IsWithin N G → IsWithin (N ++ k ∷ []) G
  push_within G N k in' within f at =
      elim (Contains-push_cases N k f at) [
        | inl old ↦ within f old
        | inr e ↦ let C : ℕ → Type 0 = λ y. Contains G y in subst C e in'
      ]

  push_set : (G N : List ℕ) (one : First G (next_keys runs.offers N)) → IsSet runs.bound N → IsSet runs.bound (N ++ one.0 ∷ [])
  push_set G N one h =
      let is = all.fresh N one.0 (awake_in (asleep runs.offers N) (runs.offers N) one.0 one.1) in
      set_push runs.bound N one.0 h is.0 is.1

  taken : (G : List ℕ) → IsSet runs.bound G → (room : ℕ) (N : List ℕ) → length N + room ≡ length G → IsNode (next_keys runs.offers) N
      → IsSet runs.bound N → IsWithin N G → Outside G N → Found G
  taken G hG zero N len node hN within out =
      elim (first G (next_keys runs.offers N)) [
        | inr none ↦ (N, node, hN, within, same_as G N hG hN within (none_offered G N out none))
        | inl one ↦ absurd (let s = within_short runs.bound (N ++ one.0 ∷ []) G (push_set G N one hN) (push_within G N one.0 one.2 within) in omega (arith, length-append N (one.0 ∷ [])))
      ]
  taken G hG (suc room) N len node hN within out =
      elim (first G (next_keys runs.offers N)) [
        | inr none ↦ (N, node, hN, within, same_as G N hG hN within (none_offered G N out none))
        | inl one ↦ taken G hG room (N ++ one.0 ∷ []) (omega (arith, length-append N (one.0 ∷ []))) (Child N one.0 refl node one.1)
            (push_set G N one hN) (push_within G N one.0 one.2 within) (outside_push G N one out)
      ]

  pub each_has_node : EachHasNode runs.bound (next_keys runs.offers) runs.holds
  each_has_node G hG = taken G hG (length G) [] (omega arith) (Root refl) tt (λ f at. absurd (omega arith)) (λ k at in'. absurd (omega arith))

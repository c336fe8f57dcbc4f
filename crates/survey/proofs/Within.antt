-- Sets within sets.
use Rattle.std.proofs.Common.{◌≡◌, ℕ, zero, suc, ◌<◌, ◌≤◌, ◌⊎◌, List, [], ◌∷◌, ◌++◌, length, length-append, get_or, refl, sym, ap, subst, inl, inr, arith}
use Rattle.std.specs.List.{Contains}
use Rattle.std.proofs.lemmas.List.Elements.{Contains-append_left, Contains-append_right, Contains-append_cases, Contains-push_cases}
use Rattle.survey.specs.FaultSet.{IsSet, IsWithin}

pub contains_here : (x : ℕ) (xs : List ℕ) → Contains (x ∷ xs) x
contains_here x xs = (0, omega arith, refl)

pub contains_later : (x y : ℕ) (xs : List ℕ) → Contains xs y → Contains (x ∷ xs) y
contains_later x y xs at = (suc at.0, omega arith, at.2)

contains_at : (x y : ℕ) (xs : List ℕ) (k : ℕ) → k < length (x ∷ xs) → get_or (x ∷ xs) k y ≡ y → (x ≡ y) ⊎ Contains xs y
contains_at x y xs zero lt e = inl e
contains_at x y xs (suc k) lt e = inr (k, omega arith, e)

pub contains_cases : (x y : ℕ) (xs : List ℕ) → Contains (x ∷ xs) y → (x ≡ y) ⊎ Contains xs y
contains_cases x y xs at = contains_at x y xs at.0 at.1 at.2

pub within_itself : (F : List ℕ) → IsWithin F F
within_itself F f at = at

same_or_not : (x q : ℕ) → (x ≡ q) ⊎ (x ≡ q → ⊥)
same_or_not x q = grind arith

pub has_or_not : (xs : List ℕ) (q : ℕ) → Contains xs q ⊎ (Contains xs q → ⊥)
has_or_not [] q = inr (λ at. absurd (omega arith))
has_or_not (x ∷ xs) q =
    elim (has_or_not xs q) [
      | inl at ↦ inl (contains_later x q xs at)
      | inr not ↦ elim (same_or_not x q) [
        | inl e ↦ let P : ℕ → Type 0 = λ y. Contains (x ∷ xs) y in inl (subst P e (contains_here x xs))
        | inr other ↦ inr (λ at. elim (contains_cases x q xs at) [ inl e ↦ other e | inr later ↦ not later ])
      ]
    ]

split : (x : ℕ) (B : List ℕ) → Contains B x → (P : List ℕ) × (Q : List ℕ) × (B ≡ P ++ x ∷ Q)
split x [] at = absurd (omega arith)
split x (b ∷ B) at =
    elim (contains_cases b x B at) [
      | inl e ↦ ([], B, ap (λ y. y ∷ B) e)
      | inr later ↦ let r = split x B later in (b ∷ r.0, r.1, ap (λ t. b ∷ t) r.2)
    ]

other_than : (x f : ℕ) (P Q : List ℕ) → (x ≡ f → ⊥) → Contains (P ++ x ∷ Q) f → Contains (P ++ Q) f
other_than x f P Q other at =
    elim (Contains-append_cases P (x ∷ Q) f at) [
      | inl front ↦ Contains-append_left P Q f front
      | inr back ↦ elim (contains_cases x f Q back) [
        | inl e ↦ absurd (other e)
        | inr later ↦ Contains-append_right P Q f later
      ]
    ]

-- a set within a list has no more elements
pub within_short : (n : ℕ) (F B : List ℕ) → IsSet n F → IsWithin F B → length F ≤ length B
within_short n [] B h w = omega arith
within_short n (x ∷ F) B h w =
    let s = split x B (w x (contains_here x F)) in
    let w' : IsWithin F (s.0 ++ s.1) = λ f at.
    let C : ℕ → Type 0 = λ y. Contains F y in
    let D : List ℕ → Type 0 = λ t. Contains t f in
    other_than x f s.0 s.1 (λ e. h.1 (subst C (sym e) at)) (subst D s.2 (w f (contains_later x f F at))) in
    let r = within_short n F (s.0 ++ s.1) h.2 w' in
    omega (arith, length-append s.0 s.1, length-append s.0 (x ∷ s.1), ap length s.2)

all_or_missing : (B F : List ℕ) → IsWithin B F ⊎ ((x : ℕ) × Contains B x × (Contains F x → ⊥))
all_or_missing [] F = inl (λ f at. absurd (omega arith))
all_or_missing (b ∷ B) F =
    elim (has_or_not F b) [
      | inl at ↦ elim (all_or_missing B F) [
        | inl all ↦ inl (λ f there. elim (contains_cases b f B there) [
          | inl e ↦ let C : ℕ → Type 0 = λ y. Contains F y in subst C e at
          | inr later ↦ all f later
        ])
        | inr one ↦ inr (one.0, contains_later b one.0 B one.1, one.2)
      ]
      | inr not ↦ inr (b, contains_here b B, not)
    ]

pub below : (n : ℕ) (B : List ℕ) (x : ℕ) → IsSet n B → Contains B x → x < n
below n [] x h at = absurd (omega arith)
below n (b ∷ B) x h at = elim (contains_cases b x B at) [ inl e ↦ (let l = h.0 in omega arith) | inr later ↦ below n B x h.2 later ]

-- a set within a set has all its elements, or is smaller
pub all_or_smaller : (n : ℕ) (F B : List ℕ) → IsSet n F → IsSet n B → IsWithin F B → IsWithin B F ⊎ (length F < length B)
all_or_smaller n F B hF hB w =
    elim (all_or_missing B F) [
      | inl all ↦ inl all
      | inr one ↦
          let more : IsSet n (one.0 ∷ F) = (below n B one.0 hB one.1, one.2, hF) in
          let w' : IsWithin (one.0 ∷ F) B = λ f at. elim (contains_cases one.0 f F at) [
            | inl e ↦ let C : ℕ → Type 0 = λ y. Contains B y in subst C e one.1
            | inr later ↦ w f later
          ] in
          inr (let r = within_short n (one.0 ∷ F) B more w' in omega arith)
    ]

pub set_push : (n : ℕ) (F : List ℕ) (k : ℕ) → IsSet n F → k < n → (Contains F k → ⊥) → IsSet n (F ++ k ∷ [])
set_push n [] k h lt not = (lt, (λ at. absurd (omega arith)), tt)
set_push n (x ∷ F) k h lt not = (
  h.0,
  λ at. elim (Contains-push_cases F k x at) [
    | inl old ↦ h.1 old
    | inr e ↦ let C : ℕ → Type 0 = λ y. Contains (x ∷ F) y in not (subst C (sym e) (contains_here x F))
  ],
  set_push n F k h.2 lt (λ at. not (contains_later x k F at)),
)

pub set_front : (n : ℕ) (F G : List ℕ) → IsSet n (F ++ G) → IsSet n F
set_front n [] G h = tt
set_front n (x ∷ F) G h = (h.0, (λ at. h.1 (Contains-append_left F G x at)), set_front n F G h.2)

-- sets with nothing in common
pub set_join : (n : ℕ) (N R : List ℕ) → IsSet n N → IsSet n R → ((k : ℕ) → Contains R k → Contains N k → ⊥) → IsSet n (N ++ R)
set_join n [] R h g apart = g
set_join n (x ∷ N) R h g apart = (
  h.0,
  λ at. elim (Contains-append_cases N R x at) [ inl old ↦ h.1 old | inr new ↦ apart x new (contains_here x N) ],
  set_join n N R h.2 g (λ k a b. apart k a (contains_later x k N b)),
)

-- the elements of a set that aren't in another list
pub rest_of : (n : ℕ) (G N : List ℕ) → IsSet n G
    → (R : List ℕ) × IsSet n R × ((k : ℕ) → Contains R k → Contains G k × (Contains N k → ⊥)) × ((k : ℕ) → Contains G k → Contains N k ⊎ Contains R k)
rest_of n [] N h = ([], tt, (λ k at. absurd (omega arith)), λ k at. absurd (omega arith))
rest_of n (g ∷ G) N h =
    let r = rest_of n G N h.2 in
    let InN : ℕ → Type 0 = λ y. Contains N y in
    elim (has_or_not N g) [
      | inl at ↦ (
        r.0,
        r.1,
        (λ k there. let q = r.2 k there in (contains_later g k G q.0, q.1)),
        λ k there. elim (contains_cases g k G there) [ inl e ↦ inl (subst InN e at) | inr later ↦ r.3 k later ],
      )
      | inr not ↦ (
        g ∷ r.0,
        (h.0, (λ at. h.1 (r.2 g at).0), r.1),
        (λ k there. elim (contains_cases g k r.0 there) [
          | inl e ↦
              let InG : ℕ → Type 0 = λ y. Contains (g ∷ G) y in
              (subst InG e (contains_here g G), λ at. not (subst InN (sym e) at))
          | inr later ↦ let q = r.2 k later in (contains_later g k G q.0, q.1)
        ]),
        λ k there. elim (contains_cases g k G there) [
          | inl e ↦ let InR : ℕ → Type 0 = λ y. Contains (g ∷ r.0) y in inr (subst InR e (contains_here g r.0))
          | inr later ↦ elim (r.3 k later) [ inl a ↦ inl a | inr b ↦ inr (contains_later g k r.0 b) ]
        ],
      )
    ]

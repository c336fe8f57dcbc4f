-- Which sets are tried, in order.
use Rattle.std.proofs.Common.{◌≡◌, ℕ, zero, suc, ◌+◌, ◌<◌, ◌≤◌, ◌⊎◌, List, [], ◌∷◌, ◌++◌, length, length-append, map, append_assoc, append-nil, refl, ap, sym, subst, inl, inr, arith, ◌∙◌}
use Rattle.std.specs.List.{Contains, flat_map}
use Rattle.std.proofs.lemmas.List.Elements.{Contains-append_left, Contains-append_right, Contains-append_cases}
use Rattle.survey.specs.FaultSet.{IsSet}
use Rattle.survey.specs.Order.{IsNode}
use Rattle.survey.specs.Order.IsNode.{Root, Child}
use Rattle.survey.specs.Turns.{HasSmallerBreak, IsPruned, Picks, StopsIn, AreSetsOfSize, AreTried, AreListedIn, IsRising, children}
use Rattle.survey.proofs.Within.{set_front}

abbrev Breaks : Type 0
Breaks = List (List ℕ × ℕ)

abbrev Sets : Type 0
Sets = List (List ℕ)

-- Elements of any lists.
pub here : {X : Type 0} (x : X) (xs : List X) → Contains (x ∷ xs) x
here x xs = (0, omega arith, refl)

pub later : {X : Type 0} (x y : X) (xs : List X) → Contains xs y → Contains (x ∷ xs) y
later x y xs at = (suc at.0, omega arith, at.2)

pub cases : {X : Type 0} (x y : X) (xs : List X) → Contains (x ∷ xs) y → (x ≡ y) ⊎ Contains xs y
cases x y xs (zero, lt, e) = inl e
cases x y xs (suc k, lt, e) = inr (k, omega arith, e)

pub in_map : {X Y : Type 0} (f : X → Y) (xs : List X) (y : Y) → Contains (map f xs) y → (x : X) × Contains xs x × (f x ≡ y)
in_map f [] y at = absurd (omega arith)
in_map f (x ∷ xs) y at =
    elim (cases (f x) y (map f xs) at) [
      | inl e ↦ (x, here x xs, e)
      | inr rest ↦ let r = in_map f xs y rest in (r.0, later x r.0 xs r.1, r.2)
    ]

pub map_has : {X Y : Type 0} (f : X → Y) (xs : List X) (x : X) → Contains xs x → Contains (map f xs) (f x)
map_has f [] x at = absurd (omega arith)
map_has {X} {Y} f (z ∷ xs) x at =
    elim (cases z x xs at) [
      | inl e ↦ let C : X → Type 0 = λ t. Contains (f z ∷ map f xs) (f t) in subst C e (here (f z) (map f xs))
      | inr rest ↦ later (f z) (f x) (map f xs) (map_has f xs x rest)
    ]

pub in_flat : {X Y : Type 0} (f : X → List Y) (xs : List X) (y : Y) → Contains (flat_map f xs) y → (x : X) × Contains xs x × Contains (f x) y
in_flat f [] y at = absurd (omega arith)
in_flat f (x ∷ xs) y at =
    elim (Contains-append_cases (f x) (flat_map f xs) y at) [
      | inl front ↦ (x, here x xs, front)
      | inr rest ↦ let r = in_flat f xs y rest in (r.0, later x r.0 xs r.1, r.2)
    ]

pub flat_has : {X Y : Type 0} (f : X → List Y) (xs : List X) (x : X) (y : Y) → Contains xs x → Contains (f x) y → Contains (flat_map f xs) y
flat_has f [] x y at there = absurd (omega arith)
flat_has {X} {Y} f (z ∷ xs) x y at there =
    elim (cases z x xs at) [
      | inl e ↦ let C : X → Type 0 = λ t. Contains (f t) y in Contains-append_left (f z) (flat_map f xs) y (subst C (sym e) there)
      | inr rest ↦ Contains-append_right (f z) (flat_map f xs) y (flat_has f xs x y rest there)
    ]

module _ (claims : ℕ) (breaks : Breaks) where
  pub picks_append : (xs ys a b : Sets) → Picks claims breaks xs a → Picks claims breaks ys b → Picks claims breaks (xs ++ ys) (a ++ b)
  picks_append [] ys a b p q = let P : Sets → Type 0 = λ t. Picks claims breaks ys (t ++ b) in subst P (sym p) q
  picks_append (F ∷ xs) ys a b p q =
      elim p [
        | inl pruned ↦ inl (pruned.0, picks_append xs ys a b pruned.1 q)
        | inr worth ↦ inr (worth.0, worth.1 ++ b, ap (λ t. t ++ b) worth.2, picks_append xs ys worth.1 b worth.3 q)
      ]

  pub stops_later : (xs ys a b : Sets) → Picks claims breaks xs a → StopsIn claims breaks ys b → StopsIn claims breaks (xs ++ ys) (a ++ b)
  stops_later xs ys a b p s = (
    xs ++ s.0,
    s.1,
    s.2,
    ap (λ t. xs ++ t) s.3 ∙ sym (append_assoc xs s.0 (s.1 ∷ s.2)),
    s.4,
    picks_append xs s.0 a b p s.5,
  )

  pub stops_before : (xs ys a : Sets) → StopsIn claims breaks xs a → StopsIn claims breaks (xs ++ ys) a
  stops_before xs ys a s = (s.0, s.1, s.2 ++ ys, ap (λ t. t ++ ys) s.3 ∙ append_assoc s.0 (s.1 ∷ s.2) ys, s.4, s.5)

  pub picked_or_pruned : (sets picked : Sets) (F : List ℕ) → Picks claims breaks sets picked → Contains sets F → IsPruned claims breaks F ⊎ Contains picked F
  picked_or_pruned [] picked F p at = absurd (omega arith)
  picked_or_pruned (G ∷ sets) picked F p at =
      let Q : List ℕ → Type 0 = λ t. IsPruned claims breaks t in
      elim p [
        | inl pruned ↦ elim (cases G F sets at) [
          | inl e ↦ inl (subst Q e pruned.0)
          | inr rest ↦ picked_or_pruned sets picked F pruned.1 rest
        ]
        | inr worth ↦
            let C : Sets → Type 0 = λ t. Contains t F in
            let D : List ℕ → Type 0 = λ t. Contains (G ∷ worth.1) t in
            elim (cases G F sets at) [
              | inl e ↦ inr (subst C (sym worth.2) (subst D e (here G worth.1)))
              | inr rest ↦ elim (picked_or_pruned sets worth.1 F worth.3 rest) [
                | inl pruned ↦ inl pruned
                | inr one ↦ inr (subst C (sym worth.2) (later G F worth.1 one))
              ]
            ]
      ]

  pub picked_from : (sets picked : Sets) (F : List ℕ) → Picks claims breaks sets picked → Contains picked F → Contains sets F
  picked_from [] picked F p at = let C : Sets → Type 0 = λ t. Contains t F in subst C p at
  picked_from (G ∷ sets) picked F p at =
      elim p [
        | inl pruned ↦ later G F sets (picked_from sets picked F pruned.1 at)
        | inr worth ↦
            let C : Sets → Type 0 = λ t. Contains t F in
            let D : List ℕ → Type 0 = λ t. Contains (G ∷ sets) t in
            elim (cases G F worth.1 (subst C worth.2 at)) [
              | inl e ↦ subst D e (here G sets)
              | inr rest ↦ later G F sets (picked_from sets worth.1 F worth.3 rest)
            ]
      ]

  pub sets_size : (next : List ℕ → List ℕ) (size : ℕ) (sets : Sets) (F : List ℕ) → AreSetsOfSize next claims breaks size sets → Contains sets F → length F ≡ size
  sets_size next zero sets F is at =
      let C : Sets → Type 0 = λ t. Contains t F in
      elim (cases [] F [] (subst C is at)) [ inl e ↦ ap length (sym e) | inr none ↦ absurd (omega arith) ]
  sets_size next (suc size) sets F is at =
      let C : Sets → Type 0 = λ t. Contains t F in
      let r = in_flat (children next) is.1 F (subst C is.4 at) in
      let m = in_map (λ k. r.0 ++ k ∷ []) (next r.0) F r.2 in
      let one = sets_size next size is.0 r.0 is.2 (picked_from is.0 is.1 r.0 is.3 r.1) in
      omega (arith, ap length m.2, length-append r.0 (m.0 ∷ []))

-- the same smaller sets are listed within the sets of fewer faults than m
abbrev pub SameBelow : ℕ → Breaks → Breaks → Type 0
SameBelow m breaks more = (F : List ℕ) → length F < m → (c : ℕ)
    → (HasSmallerBreak breaks F c → HasSmallerBreak more F c) × (HasSmallerBreak more F c → HasSmallerBreak breaks F c)

-- larger sets were listed
pub grown_same : (m : ℕ) (breaks new : Breaks) → ((B : List ℕ) (c : ℕ) → Contains new (B, c) → m ≤ length B) → SameBelow (m + 1) breaks (breaks ++ new)
grown_same m breaks new large F lt c = (
  λ has. (has.0, Contains-append_left breaks new (has.0, c) has.1, has.2, has.3),
  λ has. elim (Contains-append_cases breaks new (has.0, c) has.1) [
    | inl old ↦ (has.0, old, has.2, has.3)
    | inr other ↦ absurd (let l = large has.0 c other in let s = has.3 in omega arith)
  ],
)

module _ (claims : ℕ) (breaks more : Breaks) where
  pub picks_same : (m : ℕ) → SameBelow m breaks more → (sets picked : Sets) → ((F : List ℕ) → Contains sets F → length F < m)
      → Picks claims breaks sets picked → Picks claims more sets picked
  picks_same m same [] picked small p = p
  picks_same m same (F ∷ sets) picked small p =
      let lt : length F < m = small F (here F sets) in
      let rest : (G : List ℕ) → Contains sets G → length G < m = λ G at. small G (later F G sets at) in
      elim p [
        | inl pruned ↦ inl ((λ c less. (same F lt c).0 (pruned.0 c less)), picks_same m same sets picked rest pruned.1)
        | inr worth ↦ inr (
          (worth.0.0, worth.0.1, λ has. worth.0.2 ((same F lt worth.0.0).1 has)),
          worth.1,
          worth.2,
          picks_same m same sets worth.1 rest worth.3,
        )
      ]

  pub stops_same : (m : ℕ) → SameBelow m breaks more → (sets picked : Sets) → ((F : List ℕ) → Contains sets F → length F < m)
      → StopsIn claims breaks sets picked → StopsIn claims more sets picked
  stops_same m same sets picked small s =
      let C : List ℕ → Sets → Type 0 = λ F t. Contains t F in
      let lt : length s.1 < m = small s.1 (let D : Sets → Type 0 = λ t. Contains t s.1 in subst D (sym s.3) (Contains-append_right s.0 (s.1 ∷ s.2) s.1 (here s.1 s.2))) in
      let front : (F : List ℕ) → Contains s.0 F → length F < m = λ F at.
      small F (let D : Sets → Type 0 = λ t. Contains t F in subst D (sym s.3) (Contains-append_left s.0 (s.1 ∷ s.2) F at)) in
      let worth = s.4 in (
        s.0,
        s.1,
        s.2,
        s.3,
        (worth.0, worth.1, λ has. worth.2 ((same s.1 lt worth.0).1 has)),
        picks_same m same s.0 picked front s.5,
      )

  pub sizes_same : (next : List ℕ → List ℕ) (size : ℕ) (sets : Sets) → SameBelow size breaks more → AreSetsOfSize next claims breaks size sets
      → AreSetsOfSize next claims more size sets
  sizes_same next zero sets same is = is
  sizes_same next (suc size) sets same is = (
    is.0,
    is.1,
    sizes_same next size is.0 (λ F lt c. same F (omega arith) c) is.2,
    picks_same (suc size) same is.0 is.1 (λ F at. let l = sets_size claims breaks next size is.0 F is.2 at in omega arith) is.3,
    is.4,
  )

  pub tried_same : (next : List ℕ → List ℕ) (size : ℕ) (all : Sets) → SameBelow size breaks more → AreTried next claims breaks size all
      → AreTried next claims more size all
  tried_same next zero all same is = is
  tried_same next (suc size) all same is = (
    is.0,
    is.1,
    is.2,
    tried_same next size is.0 (λ F lt c. same F (omega arith) c) is.3,
    sizes_same next size is.1 (λ F lt c. same F (omega arith) c) is.4,
    picks_same (suc size) same is.1 is.2 (λ F at. let l = sets_size claims breaks next size is.1 F is.4 at in omega arith) is.5,
    is.6,
  )

-- a pruned set's children are pruned
pub child_pruned : (claims : ℕ) (breaks more : Breaks) (G : List ℕ) (k : ℕ) → ((B : List ℕ) (c : ℕ) → Contains breaks (B, c) → Contains more (B, c))
    → IsPruned claims breaks G → IsPruned claims more (G ++ k ∷ [])
child_pruned claims breaks more G k grows pruned c lt =
    let has = pruned c lt in (
      has.0,
      grows has.0 c has.1,
      (λ f at. Contains-append_left G (k ∷ []) f (has.2 f at)),
      (let s = has.3 in omega (arith, length-append G (k ∷ []))),
    )

-- the nodes with one more fault are children of those that were tried, or pruned
pub next_nodes : (n : ℕ) (next : List ℕ → List ℕ) (claims : ℕ) (breaks more : Breaks) (size : ℕ) (sets picked : Sets)
    → ((B : List ℕ) (c : ℕ) → Contains breaks (B, c) → Contains more (B, c))
    → ((F : List ℕ) → IsNode next F → IsSet n F → length F ≡ size → IsPruned claims breaks F ⊎ Contains sets F)
    → Picks claims breaks sets picked
    → (F : List ℕ) → IsNode next F → IsSet n F → length F ≡ size + 1 → IsPruned claims more F ⊎ Contains (flat_map (children next) picked) F
next_nodes n next claims breaks more size sets picked grows all p F (Root e) set len = absurd (omega (arith, ap length e))
next_nodes n next claims breaks more size sets picked grows all p F (Child G k e node at) set len =
    let S : List ℕ → Type 0 = λ t. IsSet n t in
    let front : IsSet n G = set_front n G (k ∷ []) (subst S e set) in
    let short : length G ≡ size = omega (arith, ap length e, length-append G (k ∷ [])) in
    let R : List ℕ → Type 0 = λ t. IsPruned claims more t ⊎ Contains (flat_map (children next) picked) t in
    subst R (sym e) (elim (all G node front short) [
      | inl pruned ↦ inl (child_pruned claims breaks more G k grows pruned)
      | inr there ↦ elim (picked_or_pruned claims breaks sets picked G p there) [
        | inl pruned ↦ inl (child_pruned claims breaks more G k grows pruned)
        | inr one ↦ inr (flat_has (children next) picked G (G ++ k ∷ []) one (map_has (λ j. G ++ j ∷ []) (next G) k at))
      ]
    ])

abbrev pub with_set : List ℕ → ℕ → List ℕ × ℕ
with_set F d = (F, d)

-- one more set in the order
pub listed_push : (tried : Sets) (breaks : Breaks) (F : List ℕ) (cs : List ℕ) → IsRising cs → AreListedIn tried breaks
    → AreListedIn (tried ++ F ∷ []) (breaks ++ map (with_set F) cs)
listed_push [] breaks F cs rising is = (cs, [], rising, ap (λ (t : Breaks). t ++ map (with_set F) cs) is ∙ sym (append-nil (map (with_set F) cs)), refl)
listed_push (G ∷ tried) breaks F cs rising is = (
  is.0,
  is.1 ++ map (with_set F) cs,
  is.2,
  ap (λ (t : Breaks). t ++ map (with_set F) cs) is.3 ∙ append_assoc (map (with_set G) is.0) is.1 (map (with_set F) cs),
  listed_push tried is.1 F cs rising is.4,
)

pub only_of : (F : List ℕ) (cs : List ℕ) (B : List ℕ) (c : ℕ) → Contains (map (with_set F) cs) (B, c) → B ≡ F
only_of F cs B c at = let r = in_map (with_set F) cs (B, c) at in sym (ap (λ (x : List ℕ × ℕ). x.0) r.2)

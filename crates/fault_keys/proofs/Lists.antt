-- Lists of keys.
use Rattle.std.proofs.Common.{◌≡◌, ℕ, zero, suc, ◌+◌, ◌<◌, ◌⊎◌, Bool, true, false, ◌||◌, eqb, if◌then◌else◌, List, [], ◌∷◌, ◌++◌, map, append_assoc, refl, ap, sym, subst, inl, inr, arith, ◌∙◌}
use Rattle.std.specs.List.{Contains, filter, list_any, range_with_len}
use Rattle.std.proofs.lemmas.Bool.{cases_Bool, eqb-true, eq-eqb}
use Rattle.std.proofs.lemmas.List.{map-append}
use Rattle.std.proofs.lemmas.List.Elements.{filter-append, Contains-append_left, Contains-push, Contains-push_cases}
use Rattle.survey.specs.FaultSet.{IsOnce}
use Rattle.survey.proofs.Turns.{here, later, cases}
use Rattle.fault_keys.specs.Keys.{new_keys, with_new}

pub range_more : (a n j : ℕ) → a + n ≡ j → range_with_len a (n + 1) ≡ range_with_len a n ++ j ∷ []
range_more a zero j is = let same : a ≡ j = omega arith in rw same refl
range_more a (suc n) j is = let shifted : suc n + 1 ≡ suc (n + 1) = omega arith in rw shifted (ap (λ ks. a ∷ ks) (range_more (a + 1) n j (omega arith)))

pub map_more : (f : ℕ → ℕ) (old all new : List ℕ) (n x : ℕ) → all ≡ old ++ map f (range_with_len 0 n) → new ≡ all ++ x ∷ [] → x ≡ f n
    → new ≡ old ++ map f (range_with_len 0 (n + 1))
map_more f old all new n x before after is =
    after ∙ (ap (λ t. t ++ x ∷ []) before ∙ (append_assoc old (map f (range_with_len 0 n)) (x ∷ [])
    ∙ ap (λ t. old ++ t) (ap (λ y. map f (range_with_len 0 n) ++ y ∷ []) is ∙ (sym (map-append f (range_with_len 0 n) (n ∷ [])) ∙ ap (map f) (sym (range_more 0 n n (omega arith)))))))

pub filter_more : (p : ℕ → Bool) (old all new : List ℕ) (n : ℕ) → all ≡ old ++ filter p (range_with_len 0 n)
    → new ≡ all ++ (if p n then n ∷ [] else []) → new ≡ old ++ filter p (range_with_len 0 (n + 1))
filter_more p old all new n before after =
    after ∙ (ap (λ t. t ++ (if p n then n ∷ [] else [])) before ∙ (append_assoc old (filter p (range_with_len 0 n)) (if p n then n ∷ [] else [])
    ∙ ap (λ t. old ++ t) (sym (filter-append p (range_with_len 0 n) (n ∷ [])) ∙ ap (filter p) (sym (range_more 0 n n (omega arith))))))

pub any_map : {X Y : Type 0} (p : Y → Bool) (f : X → Y) (xs : List X) → list_any (λ x. p (f x)) xs ≡ list_any p (map f xs)
any_map p f [] = refl
any_map p f (x ∷ xs) = ap (λ b. p (f x) || b) (any_map p f xs)

pub any_from : {X : Type 0} (p : X → Bool) (xs : List X) → list_any p xs ≡ true → (x : X) × Contains xs x × (p x ≡ true)
any_from p [] h = absurd (let never : true ≡ false = sym h in cc)
any_from p (x ∷ xs) h =
    elim (cases_Bool (p x)) [
      | inl is ↦ (x, here x xs, is)
      | inr isnt ↦ let r = any_from p xs (rw isnt at h) in (r.0, later x r.0 xs r.1, r.2)
    ]

first_true : (a b : Bool) → a ≡ true → (a || b) ≡ true
first_true true b h = refl
first_true false b h = absurd (cc)

second_true : (a b : Bool) → b ≡ true → (a || b) ≡ true
second_true true b h = refl
second_true false b h = h

pub any_of : {X : Type 0} (p : X → Bool) (xs : List X) (x : X) → Contains xs x → p x ≡ true → list_any p xs ≡ true
any_of p [] x at is = absurd (omega arith)
any_of {X} p (z ∷ xs) x at is =
    elim (cases z x xs at) [
      | inl e ↦ first_true (p z) (list_any p xs) (ap p e ∙ is)
      | inr rest ↦ second_true (p z) (list_any p xs) (any_of p xs x rest is)
    ]

pub filter_in : (p : ℕ → Bool) (xs : List ℕ) (k : ℕ) → Contains (filter p xs) k → Contains xs k × (p k ≡ true)
filter_in p [] k at = absurd (omega arith)
filter_in p (x ∷ xs) k at =
    elim (cases_Bool (p x)) [
      | inl px ↦ let now = rw px at at in elim (cases x k (filter p xs) now) [
        | inl e ↦ let C : ℕ → Type 0 = λ y. Contains (x ∷ xs) y × (p y ≡ true) in subst C e (here x xs, px)
        | inr rest ↦ let r = filter_in p xs k rest in (later x k xs r.0, r.1)
      ]
      | inr px ↦ let now = rw px at at in let r = filter_in p xs k now in (later x k xs r.0, r.1)
    ]

pub filter_has : (p : ℕ → Bool) (xs : List ℕ) (k : ℕ) → Contains xs k → p k ≡ true → Contains (filter p xs) k
filter_has p [] k at is = absurd (omega arith)
filter_has p (x ∷ xs) k at is =
    elim (cases x k xs at) [
      | inl e ↦
          let px : p x ≡ true = ap p e ∙ is in
          let C : ℕ → Type 0 = λ y. Contains (x ∷ filter p xs) y in
          rw px (subst C e (here x (filter p xs)))
      | inr rest ↦ elim (cases_Bool (p x)) [
        | inl px ↦ rw px (later x k (filter p xs) (filter_has p xs k rest is))
        | inr px ↦ rw px (filter_has p xs k rest is)
      ]
    ]

pub range_in : (a n k : ℕ) → Contains (range_with_len a n) k → (k < a + n)
range_in a zero k at = absurd (omega arith)
range_in a (suc n) k at = elim (cases a k (range_with_len (a + 1) n) at) [ inl e ↦ omega arith | inr rest ↦ (let r = range_in (a + 1) n k rest in omega arith) ]

pub range_has : (a n i : ℕ) → i < n → Contains (range_with_len a n) (a + i)
range_has a zero i lt = absurd (omega arith)
range_has a (suc n) zero lt = let C : ℕ → Type 0 = λ y. Contains (a ∷ range_with_len (a + 1) n) y in subst C (omega arith) (here a (range_with_len (a + 1) n))
range_has a (suc n) (suc i) lt =
    let C : ℕ → Type 0 = λ y. Contains (a ∷ range_with_len (a + 1) n) y in
    let e : (a + 1) + i ≡ a + suc i = omega arith in
    subst C e (later a ((a + 1) + i) (range_with_len (a + 1) n) (range_has (a + 1) n i (omega arith)))

-- New keys, each once.
has_true : (xs : List ℕ) (k : ℕ) → Contains xs k → list_any (λ x. eqb x k) xs ≡ true
has_true xs k at = any_of (λ x. eqb x k) xs k at (eq-eqb k k refl)

true_has : (xs : List ℕ) (k : ℕ) → list_any (λ x. eqb x k) xs ≡ true → Contains xs k
true_has xs k h = let r = any_from (λ x. eqb x k) xs h in let C : ℕ → Type 0 = λ y. Contains xs y in subst C (eqb-true r.0 k r.2) r.1

once_push : (xs : List ℕ) (k : ℕ) → IsOnce xs → (Contains xs k → ⊥) → IsOnce (xs ++ k ∷ [])
once_push [] k once none = ((λ at. absurd (omega arith)), tt)
once_push (x ∷ xs) k once none = (
  λ at. elim (Contains-push_cases xs k x at) [
    | inl old ↦ once.0 old
    | inr e ↦ let C : ℕ → Type 0 = λ y. Contains (x ∷ xs) y in none (subst C (sym e) (here x xs))
  ],
  once_push xs k once.1 (λ at. none (later x k xs at)),
)

-- what a step keeps: all known keys, each once, and none of them in the set
abbrev Fine : (set known : List ℕ) → Type 0
Fine set known = IsOnce known × ((k : ℕ) → Contains known k → Contains set k → ⊥)

step : (set known : List ℕ) (k : ℕ) → Fine set known → Fine set (with_new set known k)
    × ((j : ℕ) → Contains (with_new set known k) j → (k ≡ j) ⊎ Contains known j)
    × ((j : ℕ) → Contains known j → Contains (with_new set known k) j)
    × ((Contains set k → ⊥) → Contains (with_new set known k) k)
step set known k fine =
    elim (cases_Bool (list_any (λ x. eqb x k) set)) [
      | inl there ↦ rw there (fine, (λ j at. inr at), (λ j at. at), λ none. absurd (none (true_has set k there)))
      | inr absent ↦ elim (cases_Bool (list_any (λ x. eqb x k) known)) [
        | inl there ↦ rw (absent, there) (fine, (λ j at. inr at), (λ j at. at), λ none. true_has known k there)
        | inr new ↦ rw (absent, new) (
          (
            once_push known k fine.0 (λ at. let yes = has_true known k at in let never : true ≡ false = sym yes ∙ new in cc),
            λ j at there. elim (Contains-push_cases known k j at) [
              | inl old ↦ fine.1 j old there
              | inr e ↦
                  let C : ℕ → Type 0 = λ y. Contains set y in
                  (let yes = has_true set k (subst C (sym e) there) in let never : true ≡ false = sym yes ∙ absent in cc)
            ],
          ),
          (λ j at. elim (Contains-push_cases known k j at) [ inl old ↦ inr old | inr e ↦ inl e ]),
          (λ j at. Contains-append_left known (k ∷ []) j at),
          λ none. Contains-push known k,
        )
      ]
    ]

pub new_members : (set known keys : List ℕ) → Fine set known → Fine set (new_keys set known keys)
    × ((j : ℕ) → Contains (new_keys set known keys) j → Contains keys j ⊎ Contains known j)
    × ((j : ℕ) → Contains known j → Contains (new_keys set known keys) j)
    × ((j : ℕ) → Contains keys j → (Contains set j → ⊥) → Contains (new_keys set known keys) j)
new_members set known [] fine = (fine, (λ j at. inr at), (λ j at. at), λ j at none. absurd (omega arith))
new_members set known (k ∷ keys) fine =
    let s = step set known k fine in
    let r = new_members set (with_new set known k) keys s.0 in (
      r.0,
      (λ j at. elim (r.1 j at) [
        | inl rest ↦ inl (later k j keys rest)
        | inr one ↦ elim (s.1 j one) [
          | inl e ↦ let C : ℕ → Type 0 = λ y. Contains (k ∷ keys) y in inl (subst C e (here k keys))
          | inr old ↦ inr old
        ]
      ]),
      (λ j at. r.2 j (s.2 j at)),
      λ j at none. elim (cases k j keys at) [
        | inl e ↦
            let C : ℕ → Type 0 = λ y. Contains (with_new set known k) y in
            let D : ℕ → Type 0 = λ y. Contains set y → ⊥ in
            r.2 j (subst C e (s.3 (subst D (sym e) none)))
        | inr rest ↦ r.3 j rest none
      ],
    )

pub fine_none : (set : List ℕ) → Fine set []
fine_none set = (tt, λ k at there. absurd (omega arith))

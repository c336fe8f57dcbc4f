-- Places of names in lists to which names are added.
use Rattle.std.proofs.Common.{◌≡◌, ℕ, suc, ◌+◌, List, [], ◌∷◌, ◌++◌, length, cond, not, nat_lt, refl, sym, ap, ◌∙◌}
use Rattle.std.proofs.Common.{arith, Bool, true, false, Option, Some, None, option_map, ◌⊎◌, inl, inr}
use Rattle.std.proofs.lemmas.Bool.{ltb-true, ltb-false}
use Rattle.std.specs.List.{position, position_or_len}
use Rattle.std.specs.Str.{bytes_eq}
use Rattle.program_tree.specs.InScope.{place_in_names}

position_step : (b : Bool) (m n : ℕ) (v w : Bool) → nat_lt (cond (not b) (1 + m) 0) (suc n) ≡ v → nat_lt m n ≡ w
    → cond v (Some (cond (not b) (1 + m) 0)) None ≡ cond b (Some 0) (option_map (λ i. 1 + i) (cond w (Some m) None))
position_step true m n true w e f = refl
position_step true m n false w e f = absurd (omega (arith, ltb-false _ _ e))
position_step false m n true true e f = refl
position_step false m n true false e f = absurd (omega (arith, ltb-true _ _ e, ltb-false _ _ f))
position_step false m n false true e f = absurd (omega (arith, ltb-false _ _ e, ltb-true _ _ f))
position_step false m n false false e f = refl

position-cons : {X : Type 0} (p : X → Bool) (x : X) (xs : List X)
    → position p (x ∷ xs) ≡ cond (p x) (Some 0) (option_map (λ i. 1 + i) (position p xs))
position-cons p x xs = position_step (p x) (position_or_len p xs) (length xs) _ _ refl refl

one_more : (b : Bool) (o : Option ℕ) (i : ℕ) → cond b (Some 0) (option_map (λ i. 1 + i) o) ≡ Some i
    → ((b ≡ true) × (i ≡ 0)) ⊎ ((b ≡ false) × (j : ℕ) × (o ≡ Some j) × (i ≡ 1 + j))
one_more true o i e = inl (refl, cc)
one_more false None i e = absurd cc
one_more false (Some j) i e = inr (refl, j, refl, cc)

position_left : {X : Type 0} (p : X → Bool) (xs ys : List X) (i : ℕ) → position p xs ≡ Some i
    → position p (xs ++ ys) ≡ Some i
position_left p [] ys i e = absurd cc
position_left p (x ∷ xs) ys i e = position-cons p x (xs ++ ys)
    ∙ go (one_more (p x) (position p xs) i (sym (position-cons p x xs) ∙ e)) (λ j h. position_left p xs ys j h)
  where
    go : ((p x ≡ true) × (i ≡ 0)) ⊎ ((p x ≡ false) × (j : ℕ) × (position p xs ≡ Some j) × (i ≡ 1 + j))
        → ((j : ℕ) → position p xs ≡ Some j → position p (xs ++ ys) ≡ Some j) →
        cond (p x) (Some 0) (option_map (λ i. 1 + i) (position p (xs ++ ys))) ≡ Some i
    go (inl h) ih = rw h.0 (ap Some (sym h.1))
    go (inr h) ih = rw (h.0, ih h.1 h.2) (ap Some (sym h.3))

none_here : (b : Bool) (o : Option ℕ) → cond b (Some 0) (option_map (λ i. 1 + i) o) ≡ None → (b ≡ false) × (o ≡ None)
none_here true o e = absurd cc
none_here false None e = (refl, refl)
none_here false (Some j) e = absurd cc

shifted : (n : ℕ) (o : Option ℕ) → option_map (λ i. 1 + i) (option_map (λ i. n + i) o) ≡ option_map (λ i. suc n + i) o
shifted n None = refl
shifted n (Some i) = ap Some (omega arith)

unshifted : (o : Option ℕ) → o ≡ option_map (λ i. 0 + i) o
unshifted None = refl
unshifted (Some i) = ap Some (omega arith)

position_right : {X : Type 0} (p : X → Bool) (xs ys : List X) → position p xs ≡ None
    → position p (xs ++ ys) ≡ option_map (λ i. length xs + i) (position p ys)
position_right p [] ys e = unshifted (position p ys)
position_right p (x ∷ xs) ys e =
    let h = none_here (p x) (position p xs) (sym (position-cons p x xs) ∙ e) in
    position-cons p x (xs ++ ys) ∙ ap (λ b. cond b (Some 0) (option_map (λ i. 1 + i) (position p (xs ++ ys)))) h.0
    ∙ ap (option_map (λ i. 1 + i)) (position_right p xs ys h.1) ∙ shifted (length xs) (position p ys)

pub place_left : (xs ys : List (List ℕ)) (x : List ℕ) (i : ℕ) → place_in_names xs x ≡ Some i → place_in_names (xs ++ ys) x ≡ Some i
unfolding place_in_names
place_left xs ys x i e = position_left (λ y. bytes_eq x y) xs ys i e

pub place_right : (xs ys : List (List ℕ)) (x : List ℕ) → place_in_names xs x ≡ None
    → place_in_names (xs ++ ys) x ≡ option_map (λ i. length xs + i) (place_in_names ys x)
unfolding place_in_names
place_right xs ys x e = position_right (λ y. bytes_eq x y) xs ys e

pub place_in_second : (xs ys : List (List ℕ)) (x : List ℕ) (i n : ℕ) → place_in_names xs x ≡ None → place_in_names ys x ≡ Some i
    → n ≡ length xs → place_in_names (xs ++ ys) x ≡ Some (n + i)
place_in_second xs ys x i n e f h = place_right xs ys x e ∙ ap (option_map (λ i. length xs + i)) f
    ∙ ap (λ m. Some (m + i)) (sym h)

pub place_in_neither : (xs ys : List (List ℕ)) (x : List ℕ) → place_in_names xs x ≡ None → place_in_names ys x ≡ None
    → place_in_names (xs ++ ys) x ≡ None
place_in_neither xs ys x e f = place_right xs ys x e ∙ ap (option_map (λ i. length xs + i)) f

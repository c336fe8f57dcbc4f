-- Tests of which some element of a list passes one.
use Rattle.std.proofs.Common.{◌≡◌, ◌∙◌, refl, sym, ap, ℕ, Bool, true, false, ◌&&◌, ◌||◌, not, List, [], ◌∷◌, drop, take, ⊎_elim}
use Rattle.std.specs.List.{list_any, list_all}
use Rattle.std.proofs.lemmas.Bool.{or_cases}
use Rattle.std.proofs.lemmas.List.{take-append-drop}
use Rattle.std.proofs.lemmas.List.Folds.{list_any-append}

pub or_left : (a b : Bool) → a ≡ true → (a || b) ≡ true
or_left a b h = ap (λ v. v || b) h

pub or_right : (a b : Bool) → b ≡ true → (a || b) ≡ true
or_right true b h = refl
or_right false b h = h

-- the second of two tests may be replaced by a weaker one
pub or_weaker : (a b c : Bool) → (b ≡ true → c ≡ true) → (a || b) ≡ true → (a || c) ≡ true
or_weaker true b c f h = refl
or_weaker false b c f h = f h

pub any_weaker : {A : Type 0} (p q : A → Bool) → ((x : A) → p x ≡ true → q x ≡ true) → (xs : List A) → list_any p xs ≡ true → list_any q xs ≡ true
any_weaker p q h [] e = e
any_weaker p q h (x ∷ xs) e =
    ⊎_elim (λ a. or_left (q x) (list_any q xs) (h x a)) (λ a. or_right (q x) (list_any q xs) (any_weaker p q h xs a))
    (or_cases (p x) (list_any p xs) e)

split_step : (t p rest a b : Bool) → (rest ≡ true → (a || b) ≡ true) → (p || rest) ≡ true → (((t && p) || a) || ((not t && p) || b)) ≡ true
split_step true true rest a b f e = refl
split_step false true rest a b f e = or_right a true refl
split_step true false rest a b f e = f e
split_step false false rest a b f e = f e

pub any_split : {A : Type 0} (t p : A → Bool) (xs : List A) → list_any p xs ≡ true → (list_any (λ x. t x && p x) xs || list_any (λ x. not (t x) && p x) xs) ≡ true
any_split t p [] e = e
any_split t p (x ∷ xs) e =
    split_step (t x) (p x) (list_any p xs) (list_any (λ y. t y && p y) xs) (list_any (λ y. not (t y) && p y) xs)
    (any_split t p xs) e

pub any_in_drop : {A : Type 0} (p : A → Bool) (i : ℕ) (xs : List A) → list_any p (drop i xs) ≡ true → list_any p xs ≡ true
any_in_drop p i xs h =
    ap (list_any p) (sym (take-append-drop i xs))
    ∙ list_any-append p (take i xs) (drop i xs)
    ∙ or_right (list_any p (take i xs)) (list_any p (drop i xs)) h

both_ways : (a b : Bool) → (a && not b) ≡ not (not a || b)
both_ways true b = refl
both_ways false b = refl

pub all_by_any : {A : Type 0} (p : A → Bool) (xs : List A) → list_all p xs ≡ not (list_any (λ x. not (p x)) xs)
all_by_any p [] = refl
all_by_any p (x ∷ xs) = ap (λ b. p x && b) (all_by_any p xs) ∙ both_ways (p x) (list_any (λ y. not (p y)) xs)

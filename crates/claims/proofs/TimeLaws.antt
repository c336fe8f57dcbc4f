-- Values of lines in the order of the moments.
use Rattle.std.proofs.Common.{◌≡◌, ◌∙◌, refl, ap, sym, arith, ℕ, suc, ◌+◌, Bool, true, false, cond, ◌&&◌, ◌||◌, not, nat_eq, List, [], ◌∷◌, ◌++◌, length, count_by}
use Rattle.std.specs.List.{list_any, list_all, enumerate_from}
use Rattle.std.specs.List.Sorted.{IsPermutation}
use lib.Dec.{eqb-zero-suc, eqb-suc-zero, eqb-suc-suc}
use Rattle.std.proofs.lemmas.Bool.{and_parts}
use Rattle.std.proofs.lemmas.Bool.Decides.{nat_tests}
use Rattle.std.proofs.lemmas.List.Sums.{sum_by-cons}
use Rattle.std.proofs.lemmas.List.Sorted.{length_permutation, sum_by-IsPermutation, list_any-IsPermutation}
use Rattle.claims.specs.declared.trace.Found.{Found}
use Rattle.claims.specs.declared.set.Set.{Set}
use Rattle.claims.specs.Values.{is_earlier, has_value, is_such, is_there, have_values, ends_in, last_has}
use Rattle.claims.specs.InTime.{are_in_time, fit_one_by_one}

not_itself : (a : Found) → is_earlier a a ≡ false
not_itself a = grind (arith, nat_tests)

not_back : (a b : Found) → is_earlier a b ≡ true → is_earlier b a ≡ false
not_back a b h = grind (arith, nat_tests)

-- the place of a line: how many are earlier
abbrev place_in : List Found → Found → ℕ
place_in ls f = count_by (λ e. is_earlier e f) ls

later_place : (x f : Found) (xs : List Found) → is_earlier x f ≡ true → place_in (x ∷ xs) f ≡ suc (place_in xs f)
later_place x f xs h = sum_by-cons (λ e. cond (is_earlier e f) 1 0) x xs ∙ ap (λ b. cond b 1 0 + place_in xs f) h ∙ omega arith

none_earlier : (x : Found) (xs : List Found) → list_all (is_earlier x) xs ≡ true → place_in xs x ≡ 0
none_earlier x [] h = refl
none_earlier x (y ∷ ys) h =
    let both = and_parts (is_earlier x y) (list_all (is_earlier x) ys) h in
    let rest : place_in ys x ≡ 0 = none_earlier x ys both.1 in
    sum_by-cons (λ e. cond (is_earlier e x) 1 0) y ys ∙ ap (λ b. cond b 1 0 + place_in ys x) (not_back x y both.0) ∙ omega (arith, rest)

first_place : (x : Found) (xs : List Found) → list_all (is_earlier x) xs ≡ true → place_in (x ∷ xs) x ≡ 0
first_place x xs h =
    let rest : place_in xs x ≡ 0 = none_earlier x xs h in
    sum_by-cons (λ e. cond (is_earlier e x) 1 0) x xs ∙ ap (λ b. cond b 1 0 + place_in xs x) (not_itself x) ∙ omega (arith, rest)

-- two tests that agree on all lines
any_same : (p q : Found → Bool) → ((f : Found) → p f ≡ q f) → (xs : List Found) → list_any p xs ≡ list_any q xs
any_same p q h [] = refl
any_same p q h (x ∷ xs) = ap (λ b. b || list_any p xs) (h x) ∙ ap (λ b. q x || b) (any_same p q h xs)

-- two tests that agree on the lines that pass a third one
any_where : (r p q : Found → Bool) → ((f : Found) → r f ≡ true → p f ≡ q f) → (xs : List Found) → list_all r xs ≡ true → list_any p xs ≡ list_any q xs
any_where r p q h [] e = refl
any_where r p q h (x ∷ xs) e =
    let both = and_parts (r x) (list_all r xs) e in
    ap (λ b. b || list_any p xs) (h x both.0) ∙ ap (λ b. q x || b) (any_where r p q h xs both.1)

abbrev no_line : Found → Bool
no_line f = false

any_none : (xs : List Found) → list_any no_line xs ≡ false
any_none [] = refl
any_none (x ∷ xs) = any_none xs

and_none : (a : Bool) → (a && false) ≡ false
and_none true = refl
and_none false = refl

alone : (a : Bool) → ((a && true) || false) ≡ a
alone true = refl
alone false = refl

passed_over : (a b : Bool) → ((a && false) || b) ≡ b
passed_over true b = refl
passed_over false b = refl

there_first : (x : Found) (xs : List Found) (s : Set) → list_all (is_earlier x) xs ≡ true → is_there (x ∷ xs) 0 s ≡ has_value s x
there_first x xs s h =
    ap (λ n. (has_value s x && nat_eq n 0) || list_any (is_such (x ∷ xs) 0 s) xs) (first_place x xs h)
    ∙ ap (λ b. (has_value s x && true) || b)
    (any_where (is_earlier x) (is_such (x ∷ xs) 0 s) no_line
    (λ f e. ap (λ n. has_value s f && nat_eq n 0) (later_place x f xs e) ∙ ap (λ b. has_value s f && b) (eqb-suc-zero (place_in xs f)) ∙ and_none (has_value s f)) xs h
    ∙ any_none xs)
    ∙ alone (has_value s x)

there_later : (x : Found) (xs : List Found) (i : ℕ) (s : Set) → list_all (is_earlier x) xs ≡ true → is_there (x ∷ xs) (suc i) s ≡ is_there xs i s
there_later x xs i s h =
    let rest = list_any (is_such (x ∷ xs) (suc i) s) xs in
    ap (λ n. (has_value s x && nat_eq n (suc i)) || rest) (first_place x xs h)
    ∙ ap (λ b. (has_value s x && b) || rest) (eqb-zero-suc i)
    ∙ passed_over (has_value s x) rest
    ∙ any_where (is_earlier x) (is_such (x ∷ xs) (suc i) s) (is_such xs i s)
    (λ f e. ap (λ n. has_value s f && nat_eq n (suc i)) (later_place x f xs e) ∙ ap (λ b. has_value s f && b) (eqb-suc-suc (place_in xs f) i)) xs h

all_same : (p q : ℕ × Set → Bool) → ((i : ℕ) (s : Set) → p (i, s) ≡ q (i, s)) → (n : ℕ) (ss : List Set) → list_all p (enumerate_from n ss) ≡ list_all q (enumerate_from n ss)
all_same p q h n [] = refl
all_same p q h n (s ∷ ss) = ap (λ b. b && list_all p (enumerate_from (n + 1) ss)) (h n s) ∙ ap (λ b. q (n, s) && b) (all_same p q h (n + 1) ss)

-- the same, of places that are one greater
all_shifted : (p q : ℕ × Set → Bool) → ((i : ℕ) (s : Set) → p (i + 1, s) ≡ q (i, s)) → (n : ℕ) (ss : List Set) → list_all p (enumerate_from (n + 1) ss) ≡ list_all q (enumerate_from n ss)
all_shifted p q h n [] = refl
all_shifted p q h n (s ∷ ss) = ap (λ b. b && list_all p (enumerate_from (n + 1 + 1) ss)) (h n s) ∙ ap (λ b. q (n, s) && b) (all_shifted p q h (n + 1) ss)

next : (i : ℕ) → i + 1 ≡ suc i
next i = omega arith

and_inward : (a b c : Bool) → (a && (b && c)) ≡ (b && (a && c))
and_inward true b c = refl
and_inward false true c = refl
and_inward false false c = refl

fit_in_time : (ss : List Set) (ls : List Found) → are_in_time ls ≡ true → have_values ss ls ≡ fit_one_by_one ss ls
fit_in_time [] [] h = refl
fit_in_time [] (x ∷ xs) h = ap (λ b. b && true) (eqb-zero-suc (length xs))
fit_in_time (s ∷ ss) [] h = ap (λ b. b && list_all (λ e. is_there [] e.0 e.1) (enumerate_from 0 (s ∷ ss))) (eqb-suc-zero (length ss))
fit_in_time (s ∷ ss) (x ∷ xs) h =
    let both = and_parts (list_all (is_earlier x) xs) (are_in_time xs) h in
    let later : ℕ × Set → Bool = λ e. is_there (x ∷ xs) e.0 e.1 in
    let rest : ℕ × Set → Bool = λ e. is_there xs e.0 e.1 in
    ap (λ b. b && (is_there (x ∷ xs) 0 s && list_all later (enumerate_from 1 ss))) (eqb-suc-suc (length ss) (length xs))
    ∙ ap (λ b. nat_eq (length ss) (length xs) && (b && list_all later (enumerate_from 1 ss))) (there_first x xs s both.0)
    ∙ ap (λ b. nat_eq (length ss) (length xs) && (has_value s x && b)) (all_shifted later rest (λ i u. ap (λ n. is_there (x ∷ xs) n u) (next i) ∙ there_later x xs i u both.0) 0 ss)
    ∙ and_inward (nat_eq (length ss) (length xs)) (has_value s x) (list_all rest (enumerate_from 0 ss))
    ∙ ap (λ b. has_value s x && b) (fit_in_time ss xs both.1)

there_permuted : (ls ms : List Found) → IsPermutation ls ms → (i : ℕ) (s : Set) → is_there ls i s ≡ is_there ms i s
there_permuted ls ms p i s =
    any_same (is_such ls i s) (is_such ms i s)
    (λ f. ap (λ n. has_value s f && nat_eq n i) (sym (sum_by-IsPermutation (λ e. cond (is_earlier e f) 1 0) ls ms p))) ls
    ∙ list_any-IsPermutation (is_such ms i s) ls ms p

pub values_in_time : (ss : List Set) (ls ms : List Found) → IsPermutation ls ms → are_in_time ms ≡ true → have_values ss ls ≡ fit_one_by_one ss ms
values_in_time ss ls ms p h =
    let here : ℕ × Set → Bool = λ e. is_there ls e.0 e.1 in
    let there : ℕ × Set → Bool = λ e. is_there ms e.0 e.1 in
    ap (λ n. nat_eq (length ss) n && list_all here (enumerate_from 0 ss)) (sym (length_permutation ls ms p))
    ∙ ap (λ b. nat_eq (length ss) (length ms) && b) (all_same here there (there_permuted ls ms p) 0 ss)
    ∙ fit_in_time ss ms h

some_later : (x : Found) (xs : List Found) (last : Found) → list_all (is_earlier x) (xs ++ last ∷ []) ≡ true → list_any (is_earlier x) (xs ++ last ∷ []) ≡ true
some_later x [] last h = ap (λ b. b || false) (and_parts (is_earlier x last) true h).0
some_later x (y ∷ ys) last h =
    ap (λ b. b || list_any (is_earlier x) (ys ++ last ∷ [])) (and_parts (is_earlier x y) (list_all (is_earlier x) (ys ++ last ∷ [])) h).0

ends_in_time : (s : Set) (xs : List Found) (last : Found) → are_in_time (xs ++ last ∷ []) ≡ true → last_has s (xs ++ last ∷ []) ≡ has_value s last
ends_in_time s [] last h = ap (λ b. (has_value s last && not (b || false)) || false) (not_itself last) ∙ alone (has_value s last)
ends_in_time s (x ∷ xs) last h =
    let ls : List Found = xs ++ last ∷ [] in
    let both = and_parts (list_all (is_earlier x) ls) (are_in_time ls) h in
    let rest = list_any (ends_in s (x ∷ ls)) ls in
    ap (λ b. (has_value s x && not (b || list_any (is_earlier x) ls)) || rest) (not_itself x)
    ∙ ap (λ b. (has_value s x && not b) || rest) (some_later x xs last both.0)
    ∙ passed_over (has_value s x) rest
    ∙ any_where (is_earlier x) (ends_in s (x ∷ ls)) (ends_in s ls) (λ f e. ap (λ b. has_value s f && not (b || list_any (is_earlier f) ls)) (not_back x f e)) ls both.0
    ∙ ends_in_time s xs last both.1

pub last_in_time : (s : Set) (ls xs : List Found) (last : Found) → IsPermutation ls (xs ++ last ∷ []) → are_in_time (xs ++ last ∷ []) ≡ true → last_has s ls ≡ has_value s last
last_in_time s ls xs last p h =
    let ms : List Found = xs ++ last ∷ [] in
    any_same (ends_in s ls) (ends_in s ms) (λ f. ap (λ b. has_value s f && not b) (list_any-IsPermutation (is_earlier f) ls ms p)) ls
    ∙ list_any-IsPermutation (ends_in s ms) ls ms p
    ∙ ends_in_time s xs last h

-- Values in any order are a permutation.
use Rattle.std.proofs.Common.{◌≡◌, ◌∙◌, refl, ap, sym, arith, ℕ, suc, ◌+◌, ◌<◌, Bool, true, false, cond, ◌&&◌, nat_eq, Option, Some, None, List, [], ◌∷◌, ◌++◌, map, length, count_by}
use Rattle.std.specs.List.{list_all}
use Rattle.std.specs.List.Sorted.{IsPermutation}
use Rattle.std.proofs.lemmas.Bool.Decides.{nat_tests}
use Rattle.std.proofs.lemmas.List.Sums.{sum_by-cons}
use Rattle.std.proofs.lemmas.List.Sorted.{IsPermutation-refl, IsPermutation-sym, IsPermutation-cons, IsPermutation-trans, IsPermutation-middle, length_permutation, sum_by-IsPermutation}
use Rattle.claims.specs.declared.trace.Found.{Found}
use Rattle.claims.specs.Sets.{is_this}
use Rattle.claims.specs.Values.{value_of, is_value, is_as_often, have_in_any_order}
use Rattle.claims.proofs.ListLaws.{count_by-map}

count_by-cons : {A : Type 0} (p : A → Bool) (x : A) (xs : List A) → count_by p (x ∷ xs) ≡ cond (p x) 1 0 + count_by p xs
count_by-cons p x xs = sum_by-cons (λ y. cond (p y) 1 0) x xs

-- a list with an element that passes a test
record Taken {A : Type 0} (p : A → Bool) (xs : List A) : Type 0 where
  front : List A
  one : A
  back : List A
  is : xs ≡ front ++ one ∷ back
  passes : p one ≡ true

taken : {A : Type 0} (p : A → Bool) (xs : List A) → 0 < count_by p xs → Taken p xs
taken p [] h = absurd (omega arith)
taken p (x ∷ xs) h =
    (elim (p x) as (λ b. p x ≡ b → 0 < cond b 1 0 + count_by p xs → Taken p (x ∷ xs)) [
      | true ↦ λ is more. record { front = []; one = x; back = xs; is = refl; passes = is }
      | false ↦ λ is more.
          let t = taken p xs (omega arith) in
          record { front = x ∷ t.front; one = t.one; back = t.back; is = ap (λ l. x ∷ l) t.is; passes = t.passes }
    ]) refl (rw (sym (count_by-cons p x xs)) h)

equal_if : (n m : ℕ) → nat_eq n m ≡ true → n ≡ m
equal_if n m h = grind (arith, nat_tests)

nat_eq_same : (n : ℕ) → nat_eq n n ≡ true
nat_eq_same n = grind (arith, nat_tests)

this_is : (v : ℕ) (o : Option ℕ) → is_this v o ≡ true → o ≡ Some v
this_is v None h = absurd (cc)
this_is v (Some n) h = ap Some (equal_if n v h)

abbrev count_of : ℕ → List ℕ → ℕ
count_of w vs = count_by (λ u. nat_eq u w) vs

abbrev AsOften : List ℕ → List (Option ℕ) → Type 0
AsOften vs os = (w : ℕ) → 0 < count_of w vs → count_by (is_this w) os ≡ count_of w vs

apart_from : (os front : List (Option ℕ)) (one : Option ℕ) (back : List (Option ℕ)) (v : ℕ) → os ≡ front ++ one ∷ back → one ≡ Some v → IsPermutation os (Some v ∷ (front ++ back))
apart_from os front one back v is same = rw (is, same) (IsPermutation-middle front (Some v) back)

permuted : (vs : List ℕ) (os : List (Option ℕ)) → length vs ≡ length os → AsOften vs os → IsPermutation (map Some vs) os
permuted [] [] e h = IsPermutation-refl []
permuted [] (o ∷ os) e h = absurd (omega arith)
permuted (v ∷ vs) os e h =
    let one : count_of v (v ∷ vs) ≡ 1 + count_of v vs = count_by-cons (λ u. nat_eq u v) v vs ∙ ap (λ b. cond b 1 0 + count_of v vs) (nat_eq_same v) in
    let some : 0 < count_of v (v ∷ vs) = omega (arith, one) in
    let there : 0 < count_by (is_this v) os = omega (arith, h v some, some) in
    let t = taken (is_this v) os there in
    let same : t.one ≡ Some v = this_is v t.one t.passes in
    let apart : IsPermutation os (Some v ∷ (t.front ++ t.back)) = apart_from os t.front t.one t.back v t.is same in
    let fewer : length vs ≡ length (t.front ++ t.back) = omega (arith, e, length_permutation os (Some v ∷ (t.front ++ t.back)) apart) in
    let rest : AsOften vs (t.front ++ t.back) = λ w many.
    let mine : count_of w (v ∷ vs) ≡ cond (nat_eq v w) 1 0 + count_of w vs = count_by-cons (λ u. nat_eq u w) v vs in
    let still : 0 < count_of w (v ∷ vs) = omega (arith, mine, many) in
    let all : count_by (is_this w) os ≡ count_of w (v ∷ vs) = h w still in
    let moved : count_by (is_this w) (Some v ∷ (t.front ++ t.back)) ≡ count_by (is_this w) os = sum_by-IsPermutation (λ o. cond (is_this w o) 1 0) os (Some v ∷ (t.front ++ t.back)) apart in
    let theirs : count_by (is_this w) (Some v ∷ (t.front ++ t.back)) ≡ cond (nat_eq v w) 1 0 + count_by (is_this w) (t.front ++ t.back) = count_by-cons (is_this w) (Some v) (t.front ++ t.back) in
    omega (arith, mine, all, moved, theirs)
    in
    IsPermutation-trans (Some v ∷ map Some vs) (Some v ∷ (t.front ++ t.back)) os
    (IsPermutation-cons (Some v) (map Some vs) (t.front ++ t.back) (permuted vs (t.front ++ t.back) fewer rest))
    (IsPermutation-sym os (Some v ∷ (t.front ++ t.back)) apart)

and_left : (a b : Bool) → (a && b) ≡ true → a ≡ true
and_left true b h = refl
and_left false b h = h

and_right : (a b : Bool) → (a && b) ≡ true → b ≡ true
and_right true b h = h
and_right false b h = cc

and_both : (a b : Bool) → a ≡ true → b ≡ true → (a && b) ≡ true
and_both a b h k = cc

-- a test that all elements pass is passed by a number that occurs
in_list : (q : ℕ → Bool) (vs : List ℕ) (w : ℕ) → list_all q vs ≡ true → 0 < count_of w vs → q w ≡ true
in_list q [] w h k = absurd (omega arith)
in_list q (v ∷ vs) w h k =
    (elim (nat_eq v w) as (λ b. nat_eq v w ≡ b → 0 < cond b 1 0 + count_of w vs → q w ≡ true) [
      | true ↦ λ is more. ap q (sym (equal_if v w is)) ∙ and_left (q v) (list_all q vs) h
      | false ↦ λ is more. in_list q vs w (and_right (q v) (list_all q vs) h) (omega arith)
    ]) refl (rw (sym (count_by-cons (λ u. nat_eq u w) v vs)) k)

all_true : (q : ℕ → Bool) → ((v : ℕ) → q v ≡ true) → (vs : List ℕ) → list_all q vs ≡ true
all_true q h [] = refl
all_true q h (v ∷ vs) = and_both (q v) (list_all q vs) (h v) (all_true q h vs)

length-values : (ls : List Found) → length (map value_of ls) ≡ length ls
length-values [] = refl
length-values (l ∷ ls) = ap suc (length-values ls)

length-wanted : (vs : List ℕ) → length (map Some vs) ≡ length vs
length-wanted [] = refl
length-wanted (v ∷ vs) = ap suc (length-wanted vs)

pub any_order_permutes : (vs : List ℕ) (ls : List Found) → have_in_any_order vs ls ≡ true → IsPermutation (map Some vs) (map value_of ls)
any_order_permutes vs ls h =
    let same : length vs ≡ length ls = equal_if (length vs) (length ls) (and_left (nat_eq (length vs) (length ls)) (list_all (is_as_often vs ls) vs) h) in
    let all : list_all (is_as_often vs ls) vs ≡ true = and_right (nat_eq (length vs) (length ls)) (list_all (is_as_often vs ls) vs) h in
    permuted vs (map value_of ls) (same ∙ sym (length-values ls))
    (λ w many. count_by-map (is_this w) value_of ls ∙ equal_if (count_by (is_value w) ls) (count_of w vs) (in_list (is_as_often vs ls) vs w all many))

pub permutes_any_order : (vs : List ℕ) (ls : List Found) → IsPermutation (map Some vs) (map value_of ls) → have_in_any_order vs ls ≡ true
permutes_any_order vs ls p =
    let same : length vs ≡ length ls = omega (arith, length_permutation (map Some vs) (map value_of ls) p, length-values ls, length-wanted vs) in
    let often : (v : ℕ) → is_as_often vs ls v ≡ true = λ v.
    let e : count_by (is_value v) ls ≡ count_of v vs =
    sym (count_by-map (is_this v) value_of ls)
    ∙ sum_by-IsPermutation (λ o. cond (is_this v o) 1 0) (map Some vs) (map value_of ls) p
    ∙ count_by-map (is_this v) Some vs in
    ap (λ n. nat_eq n (count_of v vs)) e ∙ nat_eq_same (count_of v vs)
    in
    and_both (nat_eq (length vs) (length ls)) (list_all (is_as_often vs ls) vs)
    (ap (λ n. nat_eq n (length ls)) same ∙ nat_eq_same (length ls))
    (all_true (is_as_often vs ls) often vs)

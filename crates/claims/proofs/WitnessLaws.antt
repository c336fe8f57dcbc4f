-- The item that a loop is at, and lists whose items all pass a test.
use Rattle.std.proofs.Common.{◌≡◌, ◌∙◌, refl, ap, sym, arith, ℕ, ◌+◌, ◌<◌, Bool, true, cond, List, [], ◌∷◌, length, get_or, slice_get, Some, count_by}
use Rattle.std.specs.List.{list_all}
use Rattle.std.proofs.lemmas.Bool.{and_parts}
use Rattle.std.proofs.lemmas.List.Sums.{sum_by-cons}
use Rattle.std.proofs.lemmas.Option.{slice_get_read}

pub item_there : {A : Type 0} (xs us : List A) (i : ℕ) (x : A) → us ≡ xs → i < length us → x ≡ get_or us i x → slice_get xs i ≡ Some x
item_there xs us i x same within is = ap (λ l. slice_get l i) (sym same) ∙ slice_get_read us (length us) i x refl within is

pub count_all : {A : Type 0} (p : A → Bool) (xs : List A) → list_all p xs ≡ true → count_by p xs ≡ length xs
count_all p [] h = refl
count_all p (x ∷ xs) h =
    let both = and_parts (p x) (list_all p xs) h in
    let more : count_by p (x ∷ xs) ≡ 1 + count_by p xs = sum_by-cons (λ y. cond (p y) 1 0) x xs ∙ ap (λ b. cond b 1 0 + count_by p xs) both.0 in
    omega (arith, more, count_all p xs both.1)

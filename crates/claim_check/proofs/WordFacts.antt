-- The values that `clap` finds.
use Rattle.std.proofs.Common.{◌≡◌, ◌∙◌, ◌+◌, ◌++◌, ◌∷◌, [], Bor, ℕ, List, Option, Some, None, ap, drop, map, refl, subst, sym, take}
use Rattle.std.specs.List.{AllByRecursion}
use Rattle.std.proofs.lemmas.List.{map-append, take-append-drop}
use Rattle.radio_medium.proofs.Elements.{back_of, each_append, front_of}
use Rattle.clap.specs.Words.{Text}
use Rattle.simulation.specs.Words.{ReadsCount, ReadsWorkers, texts_of}
use Rattle.claim_check.specs.Words.{IsNumber, ReadsNumber, number_in}

pub workers_read : (o : Option Text) (r : Option ℕ) → (o ≡ None → r ≡ None) → ((text : Text) → o ≡ Some text → ReadsCount text r)
    → ReadsWorkers o r
workers_read None r none value = none refl
workers_read (Some text) r none value = value text refl

pub number_read : (bits : ℕ) (o : Option Text) (r : Option ℕ) → (o ≡ None → r ≡ None)
    → ((text : Text) → o ≡ Some text → ReadsNumber bits (Some text) r) → ReadsNumber bits o r
number_read bits None r none value = none refl
number_read bits (Some text) r none value = value text refl

module _ (xs : List (Bor Text)) (i : ℕ) (x : Bor Text) (more : take (i + 1) xs ≡ take i xs ++ x ∷ []) where
  one_more : texts_of (take (i + 1) xs) ≡ texts_of (take i xs) ++ x.now ∷ []
  one_more = ap texts_of more ∙ map-append (λ (s : Bor Text). s.now) (take i xs) (x ∷ [])

  pub are_more : AllByRecursion IsNumber (texts_of (take i xs)) → IsNumber x.now → AllByRecursion IsNumber (texts_of (take (i + 1) xs))
  are_more h is = subst (AllByRecursion IsNumber) (sym one_more) (each_append IsNumber (texts_of (take i xs)) (x.now ∷ []) h (is, tt))

  pub numbers_more : (numbers : List ℕ) → numbers ≡ map number_in (texts_of (take i xs)) → numbers ++ number_in x.now ∷ [] ≡ map number_in (texts_of (take (i + 1) xs))
  numbers_more numbers h =
      ap (λ ns. ns ++ number_in x.now ∷ []) h ∙ (sym (map-append number_in (texts_of (take i xs)) (x.now ∷ [])) ∙ sym (ap (map number_in) one_more))

  pub not_numbers : ¬ IsNumber x.now → ¬ AllByRecursion IsNumber (texts_of xs)
  not_numbers refuted are =
      let whole = subst (λ ys. AllByRecursion IsNumber (texts_of ys)) (sym (take-append-drop (i + 1) xs)) are in
      let apart = subst (AllByRecursion IsNumber) (map-append (λ (s : Bor Text). s.now) (take (i + 1) xs) (drop (i + 1) xs)) whole in
      let first = subst (AllByRecursion IsNumber) one_more (front_of IsNumber (texts_of (take (i + 1) xs)) _ apart) in
      refuted (back_of IsNumber (texts_of (take i xs)) (x.now ∷ []) first).0

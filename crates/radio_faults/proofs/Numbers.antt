-- The numbers of words.
use Rattle.std.proofs.Common.{◌≡◌, ◌∙◌, ℕ, ◌+◌, ◌-◌, ◌*◌, ◌/◌, ◌%◌, ◌^◌, ◌<◌, ◌≤◌, min, List, [], ◌∷◌, ◌++◌, refl, ap, arith}
use Rattle.std.specs.Fmt.{decimal}
use Rattle.std.proofs.lemmas.Fmt.{decimal_by_steps}
use Rattle.radio_faults.specs.FaultLines.{number_behind}

pub one_digit_more : (n : ℕ) (xs : List ℕ) (digit : ℕ)
    → number_behind n (xs ++ digit ∷ []) ≡ min (number_behind n xs * 10 + (digit - 48)) 18446744073709551615
one_digit_more n [] digit = refl
one_digit_more n (x ∷ xs) digit = one_digit_more (min (n * 10 + (x - 48)) 18446744073709551615) xs digit

abbrev Again : ℕ → List ℕ → Type 0
Again n digits = n < 2 ^ 64 → number_behind 0 digits ≡ n

one : (n : ℕ) → n < 10 → Again n ((48 + n) ∷ [])
one n small fits = grind arith

more : (n : ℕ) (ds : List ℕ) → 10 ≤ n → Again (n / 10) ds → Again n (ds ++ ((48 + n % 10) ∷ []))
more n ds ten before fits =
    let q : number_behind 0 ds ≡ n / 10 = before (omega (arith, fits)) in
    one_digit_more 0 ds (48 + n % 10) ∙ (ap (λ k. min (k * 10 + (48 + n % 10 - 48)) 18446744073709551615) q ∙ grind arith)

pub number_again : (n : ℕ) → n < 2 ^ 64 → number_behind 0 (decimal n) ≡ n
number_again n fits = decimal_by_steps Again one more n fits fits

-- the number of a word fits
pub number_fits : (n : ℕ) (digits : List ℕ) → n < 2 ^ 64 → number_behind n digits < 2 ^ 64
number_fits n [] fits = fits
number_fits n (digit ∷ more) fits = number_fits (min (n * 10 + (digit - 48)) 18446744073709551615) more (omega arith)

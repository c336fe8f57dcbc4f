-- The digits of a number.
use Rattle.std.proofs.Common.{◌≡◌, ℕ, ◌+◌, ◌/◌, ◌%◌, ◌<◌, ◌≤◌, [], ◌∷◌, ◌++◌, length, decimal, refl, arith, append_assoc}
use Rattle.std.proofs.lemmas.Fmt.{decimal_digit, decimal_step}
use Rattle.itoa.proofs.Decimal.{decimal_pair, length_one, length_pair}

pub length_three : (n : ℕ) → 100 ≤ n → n < 1000 → length (decimal n) ≡ 3
length_three n low high = omega (arith, length_pair n low (omega arith), length_one (n / 100) (omega arith))

-- the last three digits follow those of the thousands
pub decimal_thousands : (n : ℕ) → 1000 ≤ n → n < 1000000 → decimal n ≡ decimal (n / 1000) ++ (48 + n / 100 % 10) ∷ (48 + n / 10 % 10) ∷ (48 + n % 10) ∷ []
decimal_thousands n low high =
    let hundreds : n / 10 / 10 ≡ n / 100 = omega arith in
    let thousands : n / 100 / 10 ≡ n / 1000 = omega arith in
    rw (decimal_step n (omega arith) (omega arith), decimal_step (n / 10) (omega arith) (omega arith), hundreds, decimal_step (n / 100) (omega arith) (omega arith), thousands, append_assoc, append_assoc) refl

-- 100 plus the last two digits has these two digits after a 1
pub decimal_hundred : (n : ℕ) → decimal (100 + n % 100) ≡ 49 ∷ (48 + n / 10 % 10) ∷ (48 + n % 10) ∷ []
decimal_hundred n =
    let one : (100 + n % 100) / 100 ≡ 1 = omega arith in
    let rest : (100 + n % 100) % 100 ≡ n % 100 = omega arith in
    let tens : n % 100 / 10 ≡ n / 10 % 10 = omega arith in
    let ones : n % 100 % 10 ≡ n % 10 = omega arith in
    rw (decimal_pair (100 + n % 100) (omega arith) (omega arith), one, rest, tens, ones, decimal_digit 1 (omega arith)) refl

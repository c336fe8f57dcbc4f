-- A product in two words.
use Rattle.std.proofs.Common.{◌≡◌, ◌∙◌, ap, sym, arith, ℕ, ◌+◌, ◌*◌, ◌/◌, ◌%◌}

split_product : (n f q r : ℕ) → n ≡ q * 18446744073709551616 + r → n * f ≡ (q * f) * 18446744073709551616 + r * f
split_product n f q r h = ap (λ k. k * f) h ∙ grind arith

joined : (a low : ℕ) → (a + low / 18446744073709551616) * 18446744073709551616 + low % 18446744073709551616 ≡ a * 18446744073709551616 + low
joined a low = omega arith

parts : (n : ℕ) → n ≡ n / 18446744073709551616 * 18446744073709551616 + n % 18446744073709551616
parts n = omega arith

pub product_in_two : (n f : ℕ) → (n / 18446744073709551616 * f + n % 18446744073709551616 * f / 18446744073709551616) * 18446744073709551616 + n % 18446744073709551616 * f % 18446744073709551616 ≡ n * f
product_in_two n f =
    joined (n / 18446744073709551616 * f) (n % 18446744073709551616 * f)
    ∙ sym (split_product n f (n / 18446744073709551616) (n % 18446744073709551616) (parts n))

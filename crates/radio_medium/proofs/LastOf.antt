-- The last of every k packets.
use Rattle.std.proofs.Common.{◌≡◌, ℕ, ◌+◌, ◌*◌, ◌/◌, ◌%◌, ◌<◌, eqb, ap, sym, ◌∙◌, inl, inr, arith}
use Rattle.std.proofs.Math.Nat.{mod-add-div', add-mod_left, mul-mod_left}
use Rattle.std.proofs.lemmas.Bool.{cases_eq, eq-eqb, ne_eqb}
use Rattle.std.proofs.lemmas.Nat.{mod-mul-add}

-- packet n is the last of k: n + 1 is a multiple of k
pub last_of : (n k : ℕ) → 0 < k → eqb (n % k + 1) k ≡ eqb ((n + 1) % k) 0
last_of n k above =
    let small : n % k < k = omega arith in
    let whole : n % k + n / k * k ≡ n = mod-add-div' n k in
    elim (cases_eq (n % k + 1) k) [
      | inl e ↦ (let s : n + 1 ≡ k + n / k * k = omega arith in
          let z : (n + 1) % k ≡ 0 = ap (λ x. x % k) s ∙ (add-mod_left k (n / k * k) ∙ mul-mod_left (n / k) k) in
          eq-eqb (n % k + 1) k e ∙ sym (eq-eqb ((n + 1) % k) 0 z))
      | inr ne ↦ (let low : n % k + 1 < k = omega arith in
          let s : n + 1 ≡ n / k * k + (n % k + 1) = omega arith in
          let z : (n + 1) % k ≡ n % k + 1 = ap (λ x. x % k) s ∙ mod-mul-add (n / k) k (n % k + 1) low in
          ne_eqb (n % k + 1) k ne ∙ sym (ne_eqb ((n + 1) % k) 0 (λ f. absurd (omega arith))))
    ]

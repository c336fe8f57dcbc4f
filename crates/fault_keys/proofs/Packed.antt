-- Numbers that are packed into one.
use Rattle.std.proofs.Common.{◌≡◌, ℕ, ◌+◌, ◌*◌, ◌/◌, ◌%◌, ◌<◌, ◌^◌, ap, subst, arith, ◌∙◌}
use Rattle.std.proofs.lemmas.Nat.{div-add-mod', div-mul-add, mod-mul-add, mul-add-lt}
use Rattle.std.proofs.Math.Nat.{div-lt_iff_lt-mul, mul_comm}
use Rattle.fault_keys.specs.Keys.{packed}

pub record IsUnpacked (kinds k s n r kind : ℕ) : Type 0 where
  pub kind_is : k % kinds ≡ kind
  pub sender_is : k / kinds / 65536 % 65536 ≡ s
  pub number_is : k / kinds / 65536 / 65536 ≡ n
  pub to_is : k / kinds % 65536 ≡ r

pub unpacks : (kinds s n r kind : ℕ) → s < 65536 → r < 65536 → kind < kinds → IsUnpacked kinds (packed kinds s n r kind) s n r kind
unpacks kinds s n r kind ls lr lk =
    let copy = (n * 65536 + s) * 65536 + r in
    let copy_is : packed kinds s n r kind / kinds ≡ copy = div-mul-add copy kinds kind lk in
    let high : packed kinds s n r kind / kinds / 65536 ≡ n * 65536 + s = ap (λ x. x / 65536) copy_is ∙ div-mul-add (n * 65536 + s) 65536 r lr in
    record {
      kind_is = mod-mul-add copy kinds kind lk;
      sender_is = ap (λ x. x % 65536) high ∙ mod-mul-add n 65536 s ls;
      number_is = ap (λ x. x / 65536) high ∙ div-mul-add n 65536 s ls;
      to_is = ap (λ x. x % 65536) copy_is ∙ mod-mul-add (n * 65536 + s) 65536 r lr;
    }

pub packs : (kinds k : ℕ) → packed kinds (k / kinds / 65536 % 65536) (k / kinds / 65536 / 65536) (k / kinds % 65536) (k % kinds) ≡ k
packs kinds k =
    let copy = k / kinds in
    let high : copy / 65536 / 65536 * 65536 + copy / 65536 % 65536 ≡ copy / 65536 = div-add-mod' (copy / 65536) 65536 in
    let whole : (copy / 65536 / 65536 * 65536 + copy / 65536 % 65536) * 65536 + copy % 65536 ≡ copy = ap (λ x. x * 65536 + copy % 65536) high ∙ div-add-mod' copy 65536 in
    ap (λ x. x * kinds + k % kinds) whole ∙ div-add-mod' k kinds

pub packed_below : (kinds s n r kind : ℕ) → s < 65536 → r < 65536 → n < 134217728 → kind < kinds → packed kinds s n r kind < 2 ^ 59 * kinds
packed_below kinds s n r kind ls lr ln lk =
    let copy : (n * 65536 + s) * 65536 + r < 2 ^ 59 = omega arith in
    let lt = mul-add-lt ((n * 65536 + s) * 65536 + r) kinds kind (2 ^ 59) copy lk in
    let B : ℕ → Type 0 = λ x. packed kinds s n r kind < x in
    subst B (mul_comm kinds (2 ^ 59)) lt

pub number_below : (kinds k : ℕ) → 0 < kinds → k < 2 ^ 59 * kinds → k / kinds / 65536 / 65536 < 134217728
number_below kinds k some lt =
    let a : k / kinds < 2 ^ 59 = (div-lt_iff_lt-mul some).1 lt in
    omega arith

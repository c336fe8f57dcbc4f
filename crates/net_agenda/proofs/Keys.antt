-- The moments of the buckets, and their entries in a map.
use Rattle.std.proofs.Common.{◌≡◌, ℕ, Bool, true, false, cond, ltb, eqb, refl, inl, inr, arith}
use Rattle.std.specs.Ordering.{nat_cmp, is_eq, is_gt, is_lt}
use Rattle.std.specs.declared.cmp.Ordering.TheVariants.{Less, Equal, Greater}
use Rattle.std.proofs.lemmas.Bool.{cases_order, lt-ltb, le-ltb, eq-eqb, ne_eqb}

pub same_number : (k j : ℕ) → is_eq (nat_cmp k j) ≡ eqb k j
same_number k j =
    elim (cases_order k j) [
      | inl e ↦ (let a : ltb k j ≡ false = le-ltb k j (omega arith) in let b = eq-eqb k j e in rw (a, b) refl)
      | inr (inl h) ↦ (let a = lt-ltb k j h in let b : eqb k j ≡ false = ne_eqb k j (λ e. absurd (omega arith)) in rw (a, b) refl)
      | inr (inr h) ↦ (let a : ltb k j ≡ false = le-ltb k j (omega arith) in let b : eqb k j ≡ false = ne_eqb k j (λ e. absurd (omega arith)) in rw (a, b) refl)
    ]

pub not_greater : (k j : ℕ) → is_gt (nat_cmp k j) ≡ ltb j k
not_greater k j =
    elim (cases_order k j) [
      | inl e ↦ (let a : ltb k j ≡ false = le-ltb k j (omega arith) in let b = eq-eqb k j e in let c : ltb j k ≡ false = le-ltb j k (omega arith) in rw (a, b, c) refl)
      | inr (inl h) ↦ (let a = lt-ltb k j h in let c : ltb j k ≡ false = le-ltb j k (omega arith) in rw (a, c) refl)
      | inr (inr h) ↦ (let a : ltb k j ≡ false = le-ltb k j (omega arith) in let b : eqb k j ≡ false = ne_eqb k j (λ e. absurd (omega arith)) in let c = lt-ltb j k h in rw (a, b, c) refl)
    ]

pub less_number : (k j : ℕ) → is_lt (nat_cmp k j) ≡ ltb k j
less_number k j = of (ltb k j) (eqb k j)
  where
    of : (p q : Bool) → is_lt (cond p Less (cond q Equal Greater)) ≡ p
    of true q = refl
    of false true = refl
    of false false = refl

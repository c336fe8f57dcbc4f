-- If there is a value with some property for each number below n, then a function returns such a value for each
-- number.
use Rattle.std.proofs.Common.{◌≡◌, ◌⊎◌, ℕ, zero, suc, ◌<◌, cond, eqb, sym, subst, inl, inr, arith}
use Rattle.std.proofs.lemmas.Bool.{eq-eqb, cases_eq, ne_eqb}

pub choose : {Z : Type 0} (default : Z) (P : ℕ → Z → Type 0) (n : ℕ) → ((v : ℕ) → v < n → (z : Z) × P v z) → (f : ℕ → Z) × ((v : ℕ) → v < n → P v (f v))
choose default P zero h = (λ v. default, λ v l. absurd (omega arith))
choose {Z} default P (suc n) h = next (choose default P n (λ v l. h v (omega arith))) (h n (omega arith))
  where
    next : (f : ℕ → Z) × ((v : ℕ) → v < n → P v (f v)) → (z : Z) × P n z → (f : ℕ → Z) × ((v : ℕ) → v < suc n → P v (f v))
    next r z = (λ v. cond (eqb v n) z.0 (r.0 v), λ v l. one v l (cases_eq v n))
      where
        one : (v : ℕ) → v < suc n → (v ≡ n) ⊎ (v ≡ n → ⊥) → P v (cond (eqb v n) z.0 (r.0 v))
        one v l (inl e) = let f = eq-eqb v n e in rw f (subst (λ k. P k z.0) (sym e) z.1)
        one v l (inr ne) = let f = ne_eqb v n ne in rw f (r.1 v (omega (arith, ne)))

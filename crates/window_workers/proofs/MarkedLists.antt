-- The copies of one mote in consecutive lists.
use Rattle.std.proofs.Common.{◌≡◌, ℕ, zero, suc, ◌<◌, List, [], ◌∷◌, ◌++◌, refl, sym, ap, ◌∙◌, inl, inr, arith, append-nil}
use Rattle.std.proofs.lemmas.Bool.{cases_eq}
use Rattle.copy_exchange.proofs.Parts.{from, from-append}
use Rattle.copy_exchange.specs.Pushes.{sent_before}
use Rattle.radio_packet.specs.declared.copy.RadioCopy.{RadioCopy}

pub first_none : {X : Type 0} (xs ys : List X) → xs ++ ys ≡ [] → xs ≡ []
first_none [] ys e = refl
first_none (x ∷ xs) ys e = cc

module _ (s : ℕ) (lists : ℕ → List RadioCopy) where
  pub none_before : (k : ℕ) → ((j : ℕ) → j < k → from s (lists j) ≡ []) → from s (sent_before k lists) ≡ []
  none_before zero h = refl
  none_before (suc k) h =
      from-append s (sent_before k lists) (lists k)
      ∙ (ap (λ l. l ++ from s (lists k)) (none_before k (λ j low. h j (omega arith))) ∙ h k (omega arith))

  pub only_before : (k u : ℕ) → u < k → ((j : ℕ) → j < k → (j ≡ u → ⊥) → from s (lists j) ≡ []) → from s (sent_before k lists) ≡ from s (lists u)
  only_before zero u low h = absurd (omega arith)
  only_before (suc k) u low h =
      from-append s (sent_before k lists) (lists k)
      ∙ elim (cases_eq u k) [
        | inl e ↦ ap (λ l. l ++ from s (lists k)) (none_before k (λ j lt. h j (omega arith) (λ q. absurd (omega arith)))) ∙ ap (λ j. from s (lists j)) (sym e)
        | inr ne ↦ ap (λ l. from s (sent_before k lists) ++ l) (h k (omega arith) (λ q. ne (sym q)))
            ∙ (append-nil (from s (sent_before k lists)) ∙ only_before k u (omega (arith, ne)) (λ j lt. h j (omega arith)))
      ]

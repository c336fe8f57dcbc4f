-- A partition, mote by mote.
use Rattle.std.proofs.Common.{[], ◌≡◌, ℕ, ◌+◌, List, ◌∷◌, ◌++◌, map, sym, ap, ◌∙◌, add-one}
use Rattle.std.proofs.lemmas.List.{map_push}
use Rattle.window_laws.specs.Agenda.{up_to}

-- the workers of the motes below n, followed by the worker of mote n
pub one_more : (f : ℕ → ℕ) (n : ℕ) (before after : List ℕ) (w : ℕ) → before ≡ map f (up_to n)
    → after ≡ before ++ (w ∷ []) → w ≡ f n → after ≡ map f (up_to (n + 1))
one_more f n before after w so-far pushed this =
    pushed ∙ ap (λ ws. ws ++ (w ∷ [])) so-far ∙ ap (λ v. map f (up_to n) ++ (v ∷ [])) this
    ∙ sym (map_push f (up_to n) n) ∙ ap (λ k. map f (up_to k)) (sym (add-one n))

-- Sets as rising lists.
use Rattle.std.proofs.Common.{◌≡◌, ℕ, zero, suc, ◌<◌, ◌≤◌, ◌⊎◌, List, [], ◌∷◌, length, refl, subst, arith, get_or, ◌∙◌}
use Rattle.std.specs.List.{Contains}
use Rattle.survey.specs.FaultSet.{IsWithin}

pub below_or_at : (a b : ℕ) → a ≤ b → (a < b) ⊎ (a ≡ b)
below_or_at a b h = grind arith

pub get_or_any : (xs : List ℕ) (k d e : ℕ) → k < length xs → get_or xs k d ≡ get_or xs k e
get_or_any [] k d e h = absurd (omega arith)
get_or_any (x ∷ xs) zero d e h = refl
get_or_any (x ∷ xs) (suc k) d e h = get_or_any xs k d e (omega arith)

pub within_from_each : (B F : List ℕ) → ((k : ℕ) → k < length B → Contains F (get_or B k 0)) → IsWithin B F
within_from_each B F each f at =
    let same : get_or B at.0 0 ≡ f = get_or_any B at.0 0 f at.1 ∙ at.2 in
    let P : ℕ → Type 0 = λ g. Contains F g in subst P same (each at.0 at.1)

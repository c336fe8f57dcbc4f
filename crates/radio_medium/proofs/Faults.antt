-- The first fault of a medium.
use Rattle.std.proofs.Common.{◌≡◌, ℕ, ◌<◌, Bool, true, false, cond, ◌==◌, length, Option, Some, None, Err, refl, arith}
use Rattle.std.proofs.lemmas.Bool.{cond_both, eqb-false, ne_eqb}
use Rattle.radio_medium.specs.declared.error.MediumError.{MediumError}
use Rattle.radio_medium.specs.declared.error.MediumError.TheVariants.{Memory, ZeroBase, ZeroPer, BadLoss}
use Rattle.radio_medium.specs.Links.{GathersLosses}
use Rattle.radio_medium.specs.Medium.{Radio, has_bad_loss, medium_fault}
use Rattle.radio_medium.specs.Makes.{MakesMedium}

abbrev behind_per : Bool → Option MediumError
behind_per bad = cond bad (Some BadLoss) None

abbrev behind_base : ℕ → Bool → Option MediumError
behind_base per bad = cond (per == 0) (Some ZeroPer) (behind_per bad)

-- the properties of a medium without an error
record IsFaultless (radio : Radio) : Type 0 where
  base : 0 < radio.base
  per : 0 < radio.per
  losses : has_bad_loss (length radio.places) radio.losses ≡ false

is_faultless : (radio : Radio) → medium_fault radio ≡ None → IsFaultless radio
unfolding medium_fault
is_faultless radio sound =
    let bad : Bool = has_bad_loss (length radio.places) radio.losses in
    cond_both (radio.base == 0) (Some ZeroBase) (behind_base radio.per bad) (λ (o : Option MediumError). o ≡ None → IsFaultless radio)
    (λ _ e. absurd (cc))
    (λ base. cond_both (radio.per == 0) (Some ZeroPer) (behind_per bad) (λ (o : Option MediumError). o ≡ None → IsFaultless radio)
    (λ _ e. absurd (cc))
    (λ per. cond_both bad (Some BadLoss) None (λ (o : Option MediumError). o ≡ None → IsFaultless radio)
    (λ _ e. absurd (cc))
    (λ good _.
    let some_base : radio.base ≡ 0 → ⊥ = eqb-false radio.base 0 base in
    let some_per : radio.per ≡ 0 → ⊥ = eqb-false radio.per 0 per in
    record { base = omega arith; per = omega arith; losses = good })))
    sound

pub base_above : (radio : Radio) → medium_fault radio ≡ None → 0 < radio.base
base_above radio sound = (is_faultless radio sound).base

pub per_above : (radio : Radio) → medium_fault radio ≡ None → 0 < radio.per
per_above radio sound = (is_faultless radio sound).per

pub losses_good : (radio : Radio) → medium_fault radio ≡ None → has_bad_loss (length radio.places) radio.losses ≡ false
losses_good radio sound = (is_faultless radio sound).losses

pub zero_base : (radio : Radio) → radio.base ≡ 0 → medium_fault radio ≡ Some ZeroBase
unfolding medium_fault
zero_base radio base = rw base refl

pub zero_per : (radio : Radio) → (radio.base ≡ 0 → ⊥) → radio.per ≡ 0 → medium_fault radio ≡ Some ZeroPer
unfolding medium_fault
zero_per radio base per = rw (ne_eqb radio.base 0 base, per) refl

pub bad_loss : (radio : Radio) → (radio.base ≡ 0 → ⊥) → (radio.per ≡ 0 → ⊥) → has_bad_loss (length radio.places) radio.losses ≡ true → medium_fault radio ≡ Some BadLoss
unfolding medium_fault
bad_loss radio base per losses = rw (ne_eqb radio.base 0 base, ne_eqb radio.per 0 per, losses) refl

pub no_fault : (radio : Radio) → (radio.base ≡ 0 → ⊥) → (radio.per ≡ 0 → ⊥) → has_bad_loss (length radio.places) radio.losses ≡ false → medium_fault radio ≡ None
unfolding medium_fault
no_fault radio base per losses = rw (ne_eqb radio.base 0 base, ne_eqb radio.per 0 per, losses) refl

-- an error of the losses is an error of the medium
pub refused_medium : (radio : Radio) (e : MediumError) → (radio.base ≡ 0 → ⊥) → (radio.per ≡ 0 → ⊥) → GathersLosses (length radio.places) radio.losses (Err e) → MakesMedium radio (Err e)
refused_medium radio Memory base per refused = tt
refused_medium radio ZeroBase base per refused = absurd refused
refused_medium radio ZeroPer base per refused = absurd refused
refused_medium radio BadLoss base per refused = bad_loss radio base per refused

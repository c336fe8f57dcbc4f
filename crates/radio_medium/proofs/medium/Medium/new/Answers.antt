use Rattle.std.proofs.Common.{◌≡◌, refl, rules}
use Rattle.std.proofs.lemmas.Result.{err_from_is_err_and}
use Rattle.radio_medium.proofs.Faults.{zero_base, zero_per, no_fault, refused_medium}
use Rattle.radio_medium.proofs.LinkLemmas.{made}
use Rattle.radio_medium.proofs.medium.Medium.new.Goals as goal

pub returns-then-base-eq0 : goal.returns-then-base-eq0
returns-then-base-eq0 c = record { makes_medium = zero_base _ c.if-base-eq0.true }

pub returns-then-per-eq0 : goal.returns-then-per-eq0
returns-then-per-eq0 c = record { makes_medium = zero_per _ c.if-base-eq0.false c.if-per-eq0.true }

pub returns-in_err-every : goal.returns-in_err-every
returns-in_err-every c = record {
  makes_medium =
      let p = err_from_is_err_and c.from_residual.result c.from_residual.ensures.1 in
      rw (p.1, p.2) (refused_medium _ _ c.if-base-eq0.false c.if-per-eq0.false c.in_err-every.ensures.gathers_losses);
}

pub invariant_of-result : goal.invariant_of-result
invariant_of-result c =
    let places : c.in_ok-to_vec.field-0.items ≡ c.args.places.now = search rules in
    let losses : c.in_ok-to_vec-2.field-0.items ≡ c.args.losses.now = search rules in
    rw (places, losses)
    (made _ _ _ _ _ _ c.requires.is_within_limits c.if-base-eq0.false c.if-per-eq0.false c.in_ok-every.ensures.gathers_losses.0 c.in_ok-every.ensures.gathers_losses.1 c.in_ok-links.ensures.links (rw c.deref.ensures.value at c.least_delay-least_delay.ensures.value))

pub returns : goal.returns
returns c = record {
  makes_medium =
      let places : c.in_ok-to_vec.field-0.items ≡ c.args.places.now = search rules in
      let losses : c.in_ok-to_vec-2.field-0.items ≡ c.args.losses.now = search rules in
      (rw (places, losses) refl, no_fault _ c.if-base-eq0.false c.if-per-eq0.false c.in_ok-every.ensures.gathers_losses.0);
}

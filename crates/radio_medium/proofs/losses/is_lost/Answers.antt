use Rattle.std.proofs.Common.{◌≡◌, ◌∙◌, ◌+◌, ◌%◌, ◌<◌, ap, sym, subst, eqb}
use Rattle.radio_medium.specs.Medium.{is_lost}
use Rattle.radio_medium.proofs.LastOf.{last_of}
use Rattle.radio_medium.proofs.losses.is_lost.Goals as goal

pub returns-in-Some : goal.returns-in-Some
returns-in-Some c = record {
  value =
      let n = c.args.number in
      let k = c.in-Some.every in
      let above : 0 < k = c.requires.positive k c.in-Some.is in
      subst (λ o. eqb (n % c.from.result + 1) c.from-in-Some.result ≡ is_lost n o) (sym c.in-Some.is)
      (ap (λ x. eqb (n % x + 1) c.from-in-Some.result) c.from.ensures
      ∙ (ap (λ x. eqb (n % k + 1) x) c.from-in-Some.ensures ∙ last_of n k above));
}

use Rattle.std.proofs.Common.{ℕ, ap, ◌∙◌}
use Rattle.std.specs.Prelude.{nat_eq}
use Rattle.std.specs.List.{list_any}
use Rattle.protothread.proofs.Lists.{contains_test}
use Rattle.protothread.proofs.value.has_expired.Goals as goal

pub returns : goal.returns
returns g c = record { value = contains_test _ _ _ c.expired.ensures.decides ∙ ap (λ (t : ℕ). list_any (nat_eq t) (g.L.Look.looks c.args.look.now).expired) c.from.ensures }

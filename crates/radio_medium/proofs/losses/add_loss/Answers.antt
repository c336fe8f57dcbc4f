use Rattle.std.proofs.Common.{arith, sym, ◌∙◌}
use Rattle.radio_medium.proofs.losses.add_loss.Goals as goal

pub returns-in-None : goal.returns-in-None
returns-in-None c = record { adds_loss = (grind arith, sym c.in_ok-insert.ensures.old ∙ c.in-None.is, λ s r. c.in_ok-insert.ensures.updates.0 (s, r)) }

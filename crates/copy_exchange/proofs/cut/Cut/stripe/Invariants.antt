use Rattle.std.proofs.Common.{◌≡◌}
use Rattle.window_laws.specs.Agenda.{up_to}
use Rattle.std.specs.Prelude.{map, ◌%◌}
use Rattle.copy_exchange.proofs.cut.Cut.stripe.Given as goal

abbrev pub invariant-loop-mote : goal.invariant-loop-mote
invariant-loop-mote l = l.owners.items ≡ map (λ mote. mote % l.workers) (up_to l.mote)

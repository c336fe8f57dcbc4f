use Rattle.kernel_laws.proofs.StartsAndHalts.{halt_is_last}
use Rattle.kernel_laws.proofs.delivery.nothing_follows_a_halt.Goals as goal

pub returns : goal.returns
returns c = record { delivery_halts_last = halt_is_last }

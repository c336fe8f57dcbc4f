use Rattle.kernel_laws.proofs.Ends.{delivery_hands_on}
use Rattle.kernel_laws.proofs.delivery.delivery_hands_on.Goals as goal

pub returns : goal.returns
returns c = record { delivery_hands_on = delivery_hands_on }

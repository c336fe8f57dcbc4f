use Rattle.radio_faults.proofs.Order.{order_means_nothing}
use Rattle.radio_faults.proofs.net_laws.order_means_nothing.Goals as goal

pub returns : goal.returns
returns c = record { order_means_nothing = order_means_nothing }

use Rattle.copy_exchange.proofs.Early.{early_is_unseen}
use Rattle.copy_exchange.proofs.laws.early_is_unseen.Goals as goal

pub returns : goal.returns
returns c = record { early_is_unseen = early_is_unseen }

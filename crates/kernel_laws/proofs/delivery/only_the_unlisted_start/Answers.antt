use Rattle.kernel_laws.proofs.StartsAndHalts.{starts_the_unlisted}
use Rattle.kernel_laws.proofs.delivery.only_the_unlisted_start.Goals as goal

pub returns : goal.returns
returns c = record { delivery_starts_the_unlisted = starts_the_unlisted }

use Rattle.copy_exchange.proofs.Whole.{all_is_taken}
use Rattle.copy_exchange.proofs.laws.all_is_taken.Goals as goal

pub returns : goal.returns
returns c = record { all_is_taken = all_is_taken }

use Rattle.copy_exchange.proofs.Crossed.{given_is}
use Rattle.copy_exchange.proofs.cut_laws.window_copies_are_whole.Goals as goal

pub returns : goal.returns
returns g c = record { window_copies_are_whole = λ system owners motes gathered taken v k from bound h matches whole given is. given_is system owners motes gathered taken v k from bound h matches whole given is }

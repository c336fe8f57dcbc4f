use Rattle.copy_exchange.proofs.CrossesTo.{crossed_once}
use Rattle.copy_exchange.proofs.CutWindows.{senders}
use Rattle.copy_exchange.proofs.cut_laws.crossed_once.Goals as goal

pub returns : goal.returns
returns g c = record { crossed_once = λ system fine owners from motes led v gathered joined is matches. crossed_once system fine owners motes v gathered joined (senders system fine from motes led) is matches }

use Rattle.radio_faults.proofs.Prefix.{prefix_law}
use Rattle.radio_faults.proofs.net_laws.prefix_law.Goals as goal

pub returns : goal.returns
returns g c = record { prefix_law = λ reboot system. prefix_law reboot system }

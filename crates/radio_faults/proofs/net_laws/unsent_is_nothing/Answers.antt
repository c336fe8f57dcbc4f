use Rattle.radio_faults.proofs.Runs.{unsent_is_nothing}
use Rattle.radio_faults.proofs.net_laws.unsent_is_nothing.Goals as goal

pub returns : goal.returns
returns g c = record { unsent_is_nothing = λ reboot system. unsent_is_nothing reboot system }

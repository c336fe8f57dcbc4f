use Rattle.std.proofs.Common.{refl}
use Rattle.radio_faults.proofs.net_laws.no_faults.Goals as goal

pub returns : goal.returns
returns g c = record { no_faults = λ reboot system. refl }

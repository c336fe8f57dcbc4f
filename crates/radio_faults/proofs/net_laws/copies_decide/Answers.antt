use Rattle.radio_faults.proofs.Runs.{copies_decide}
use Rattle.radio_faults.proofs.net_laws.copies_decide.Goals as goal

pub returns : goal.returns
returns g c = record { copies_decide = λ reboot system. copies_decide reboot system }

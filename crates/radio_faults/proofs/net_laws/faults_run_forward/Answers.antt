use Rattle.radio_faults.proofs.Forward.{faults_run_forward}
use Rattle.radio_faults.proofs.net_laws.faults_run_forward.Goals as goal

pub returns : goal.returns
returns g c = record { faults_run_forward = λ reboot system. faults_run_forward reboot system }

use Rattle.kernel_laws.proofs.Traces.{kernels_hand_on}
use Rattle.kernel_laws.proofs.laws.kernels_hand_on.Goals as goal

pub returns : goal.returns
returns c = record { kernels_hand_on = kernels_hand_on }

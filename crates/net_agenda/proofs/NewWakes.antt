-- A mote wakes at 0 before its first turn.
use Rattle.std.proofs.Common.{◌≡◌, ℕ, Some, refl}
use Rattle.process_kernel.specs.KernelModel.{unbooted}
use Rattle.mote_node.specs.Turn.{new_node, wake_of}
use Rattle.mote_net.specs.Net.{NetModel}
use Rattle.net_agenda.specs.NetSystem.{first_node_in}

pub new_wakes : (n : NetModel) (k : ℕ) → wake_of (first_node_in n k) ≡ Some 0
unfolding new_node unbooted
new_wakes n k = refl

-- a new mote has its own number
pub new_numbers : (n : NetModel) (k : ℕ) → (first_node_in n k).mote.state.mote ≡ k
unfolding new_node unbooted
new_numbers n k = refl

-- A net runs forward, and the node after a turn has the wake that the turn returned.
use Rattle.std.proofs.Common.{◌≡◌, ℕ, ◌<◌, List, length, map, subst, refl, None}
use Rattle.mote_node.specs.Turn.{Node, turn_of, wake_of}
use Rattle.mote_node.proofs.WakeLaws.{wakes_later}
use Rattle.radio_packet.specs.declared.copy.RadioCopy.{RadioCopy}
use Rattle.radio_medium.specs.Medium.{medium_fault}
use Rattle.radio_medium.proofs.Copies.{copies_later}
use Rattle.radio_medium.proofs.Delays.{lookahead-above}
use Rattle.mote_net.specs.Net.{NetModel}
use Rattle.window_laws.specs.Forward.{RunsForward}
use Rattle.window_laws.proofs.Lists.{every_weaker}
use Rattle.net_agenda.specs.Buckets.{arrival_of}
use Rattle.net_agenda.specs.NetSystem.{node_turn, system_of}

pub system_is : (n : NetModel) → medium_fault n.radio ≡ None → length n.radio.places ≡ length n.motes → RunsForward (system_of n)
unfolding system_of
system_is n fault placed = record {
  some_lookahead = lookahead-above n.radio fault n.end;
  wakes_later = λ mote state moment given. wakes_later moment (map arrival_of given) state;
  copies_later = λ sent. every_weaker _ _ (λ copy h. record { sender = h.sender; to = subst (λ k. copy.to < k) placed h.there; later = h.later n.end }) _ (copies_later n.radio sent);
}

-- a turn returns the wake of the mote after the turn
pub turn_wakes : (mote : ℕ) (state : Node) (moment : ℕ) (given : List RadioCopy) → (node_turn mote state moment given).wake ≡ wake_of (node_turn mote state moment given).state
unfolding turn_of
turn_wakes mote state moment given = refl

-- After each step of a turn, each timer on the list still has an owner.
use Rattle.std.proofs.Common.{ℕ, Bool, List, [], sym, subst}
use Rattle.program_tree.specs.Code.{Tree}
use Rattle.mote_timers.specs.TimerLists.{new_timers}
use Rattle.radio_packet.specs.declared.arrival.Arrival.{Arrival}
use Rattle.process_kernel.specs.KernelModel.{KernelModel, unbooted, with_packet, with_poll}
use Rattle.kernel_laws.specs.Due.{HaveOwners}
use Rattle.kernel_laws.proofs.Owners.{boot_keeps_owners, poll_timers, run_keeps_owners}
use Rattle.mote_node.specs.Turn.{Node, new_node, turn_of}
use Rattle.mote_laws.specs.Laws.{first_node}
use Rattle.mote_laws.specs.Due.{TurnsKeepOwners}
use Rattle.mote_laws.proofs.EachTurn.{AreTurnSteps, net_turn_holds, nodes_keep}

record Owned (m : KernelModel) : Type 0 where
  owned : HaveOwners m.state.timers

steps : (moment : ℕ) → AreTurnSteps moment (λ u. Owned u.mote) (λ u. Owned u.mote)
unfolding with_packet with_poll
steps moment = record {
  collides = λ u a running h. h;
  boots = λ u b h. record { owned = boot_keeps_owners moment u.mote u.lines u.sends h.owned };
  booted = λ u b h. h;
  accepts = λ u a running room h. record { owned = h.owned };
  loses = λ u a running full h. h;
  polls = λ u p h. record { owned = subst HaveOwners (sym (poll_timers u.mote.state p)) h.owned };
  runs = λ u h. record { owned = run_keeps_owners moment u.mote u.lines u.sends h.owned };
}

turn_owned : (moment : ℕ) (packets : List Arrival) (n : Node) → Owned n.mote → Owned (turn_of moment packets n).node.mote
unfolding turn_of
turn_owned moment packets n h = net_turn_holds moment (λ u. Owned u.mote) (λ u. Owned u.mote) (steps moment) n.collides packets (record { mote = n.mote; lines = []; sends = [] }) h

first_owned : (program : Tree) (number queue : ℕ) (collides : Bool) → Owned (first_node program number queue collides).mote
unfolding new_node unbooted new_timers
first_owned program number queue collides = record { owned = λ timer h. absurd (cc) }

pub turns_keep_owners : TurnsKeepOwners
turns_keep_owners program number queue collides given lines last t = (nodes_keep (λ n. Owned n.mote) (λ n x h. turn_owned x.moment x.arrivals n h) _ last given lines t (first_owned program number queue collides)).owned

-- The turns of a net with faults.
use Rattle.std.proofs.Common.{◌≡◌, ℕ, true, List, Option, Some, None, option_map, refl, IsSome}
use Rattle.trace_lines.specs.declared.line.Line.{Line}
use Rattle.mote_node.specs.Turn.{Node, new_node}
use Rattle.mote_laws.proofs.Stamps.{new_is}
use Rattle.mote_net.specs.Net.{NetModel}
use Rattle.net_agenda.specs.Buckets.{arrivals_at}
use Rattle.net_agenda.specs.NetSystem.{first_node_in, mote_at, system_of}
use Rattle.window_laws.specs.Forward.{IsLater}
use Rattle.window_laws.specs.NetStep.{NetState, turned_at}
use Rattle.window_laws.specs.System.{Turned}
use Rattle.radio_faults.specs.declared.fault.Fault.{Fault}
use Rattle.radio_faults.specs.Off.{boots}
use Rattle.radio_faults.specs.WithFaults.{no_turn, waking_by}
use Rattle.radio_faults.proofs.Forward.{turn_either}
use Rattle.serial_run.specs.FaultRun.{net_with, node_again, node_reboot}
use Rattle.serial_run.specs.IsInState.{own_turn, turn_again}
use Rattle.serial_run.specs.OnTime.{CanTurn}

-- what is true of a turn in which nothing happens, of a mote's own turn, and of that of a mote that boots again, is true of
-- each turn
pub each_turn : (faults : List Fault) (n : NetModel) (t m : ℕ) (net : NetState Node Line) (P : Turned Node Line → Type 0)
    → ((wake : Option ℕ) → IsLater t wake → P (no_turn (net.states m) wake))
    → ((wake : Option ℕ) → IsLater t wake → P (waking_by wake (own_turn t (arrivals_at t m net.agenda) (net.states m))))
    → ((wake : Option ℕ) → IsLater t wake → boots faults m t ≡ true → P (waking_by wake (turn_again n t m (arrivals_at t m net.agenda) (net.states m))))
    → P (turned_at (net_with faults n) t m net)
unfolding system_of
each_turn faults n t m net P off on again = turn_either node_reboot faults m t (first_node_in n m) (own_turn t (arrivals_at t m net.agenda)) (net.states m) P off on again

-- the number of a mote before its first turn
pub first_number : (n : NetModel) (m : ℕ) → (first_node_in n m).mote.state.mote ≡ m
first_number n m = let setup = mote_at n.motes m in (new_is setup.tree m setup.queue).0

-- a mote that boots again can take its turn
pub again_can_turn : (n : NetModel) (m t : ℕ) (mote : Option Node) → IsSome mote → CanTurn t (option_map (node_again (first_node_in n m)) mote)
unfolding new_node
again_can_turn n m t None some = absurd (cc)
again_can_turn n m t (Some x) some = refl

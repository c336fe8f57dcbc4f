-- In a net's run the packets of a turn already have the moment and the mote with which they are stamped.
use Rattle.std.proofs.Common.{◌≡◌, ℕ, List, [], ◌∷◌, map, refl, ap₂, ◌∙◌, subst}
use Rattle.std.proofs.lemmas.List.Elements.{All-head, All-nil, All-tail}
use Rattle.trace_lines.specs.declared.line.Line.{Line}
use Rattle.radio_packet.specs.declared.sent.Sent.{Sent}
use Rattle.kernel_laws.specs.Stamps.{PacketsBear}
use Rattle.mote_laws.proofs.Stamps.{turns_stamp, new_is}
use Rattle.mote_node.specs.Turn.{Node, turn_of}
use Rattle.mote_net.specs.Net.{NetModel}
use Rattle.window_laws.specs.NetStep.{NetState, Run, Done, Turn, boot, stamped, sends_of, turned_at, turn_at}
use Rattle.window_laws.proofs.Puts.{put_each}
use Rattle.net_agenda.specs.Buckets.{arrivals_at}
use Rattle.net_agenda.specs.NetSystem.{system_of, first_node_in, mote_at}
use Rattle.serial_run.specs.Stamps.{AreStamped, SendsAreStamped}
use Rattle.serial_run.specs.Ended.{AreNumbered}
use Rattle.radio_faults.specs.declared.fault.Fault.{Fault}
use Rattle.serial_run.specs.FaultRun.{net_with, node_again}
use Rattle.serial_run.proofs.EachTurn.{each_turn, first_number}
use Rattle.window_laws.specs.System.{Turned}

pub stamped_is : (t m : ℕ) (sends : List Sent) → PacketsBear t m sends → map (stamped t m) sends ≡ sends
stamped_is t m [] h = refl
stamped_is t m (x ∷ xs) h =
    let bears = All-head (λ (x : Sent). (x.at ≡ t) × (x.sender ≡ m)) x xs h in
    let head : stamped t m x ≡ x = rw (← bears.0, ← bears.1) refl in
    ap₂ (λ y ys. y ∷ ys) head (stamped_is t m xs (All-tail (λ (x : Sent). (x.at ≡ t) × (x.sender ≡ m)) x xs h))

module _ (faults : List Fault) (n : NetModel) where
  pub boot_numbered : AreNumbered (boot (net_with faults n))
  unfolding system_of
  boot_numbered k = let m = mote_at n.motes k in (new_is m.tree k m.queue).0

  number_is : (t m : ℕ) (net : NetState Node Line) → (net.states m).mote.state.mote ≡ m → (turned_at (net_with faults n) t m net).state.mote.state.mote ≡ m
  number_is t m net number = each_turn faults n t m net (λ (turned : Turned Node Line). turned.state.mote.state.mote ≡ m)
      (λ wake later. number)
      (λ wake later. (turns_stamp t _ (net.states m)).mote ∙ number)
      (λ wake later e. (turns_stamp t _ (node_again (first_node_in n m) (net.states m))).mote ∙ first_number n m)

  sends_bear : (t m : ℕ) (net : NetState Node Line) → (net.states m).mote.state.mote ≡ m → PacketsBear t m (turned_at (net_with faults n) t m net).sends
  sends_bear t m net number = each_turn faults n t m net (λ (turned : Turned Node Line). PacketsBear t m turned.sends)
      (λ wake later. All-nil _)
      (λ wake later. subst (λ k. PacketsBear t k (turn_of t (arrivals_at t m net.agenda) (net.states m)).sends) number (turns_stamp t _ (net.states m)).packets)
      (λ wake later e. subst (λ k. PacketsBear t k (turn_of t (arrivals_at t m net.agenda) (node_again (first_node_in n m) (net.states m))).sends) (first_number n m) (turns_stamp t _ (node_again (first_node_in n m) (net.states m))).packets)

  pub turn_numbered : (t m : ℕ) (net : NetState Node Line) → AreNumbered net → AreNumbered (turn_at (net_with faults n) t m net)
  turn_numbered t m net numbered =
      put_each (λ k (x : Node). x.mote.state.mote ≡ k) net.states m (turned_at (net_with faults n) t m net).state (number_is t m net (numbered m)) (λ k ne. numbered k)

  turn_stamped : (t m : ℕ) (net : NetState Node Line) → AreNumbered net → sends_of t m (turned_at (net_with faults n) t m net) ≡ (turned_at (net_with faults n) t m net).sends
  turn_stamped t m net numbered =
      let sends = (turned_at (net_with faults n) t m net).sends in
      stamped_is t m sends (sends_bear t m net (numbered m))

  run_stamped : {net last : NetState Node Line} (run : Run (net_with faults n) n.end net last) → AreNumbered net → AreStamped run
  run_stamped (Done late) numbered = tt
  run_stamped {net} (Turn t m least le rest) numbered = (turn_stamped t m net numbered, run_stamped rest (turn_numbered t m net numbered))

pub sends_are_stamped : SendsAreStamped
sends_are_stamped faults n r report = run_stamped faults n report.run (boot_numbered faults n)

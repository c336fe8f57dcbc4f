-- The run of a window after earlier lines and packets, and its last wake.
use Rattle.std.proofs.Common.{◌≡◌, ℕ, List, map, refl, sym, subst}
use Rattle.std.specs.List.{filter}
use Rattle.mote_node.specs.Turn.{Node, wake_of, turn_of}
use Rattle.net_agenda.specs.Buckets.{arrival_of}
use Rattle.net_agenda.specs.NetSystem.{node_turn}
use Rattle.radio_packet.specs.declared.arrival.Arrival.{Arrival}
use Rattle.radio_packet.specs.declared.copy.RadioCopy.{RadioCopy}
use Rattle.trace_lines.specs.declared.line.Line.{Line}
use Rattle.window_laws.specs.Order.{in_order}
use Rattle.window_laws.specs.System.{System, Turned}
use Rattle.window_laws.specs.Windows.{is_at, Alone}
use Rattle.worker_window.specs.Laws.{EarlierStaysInFront, EndsWithItsWake}
use Rattle.worker_window.specs.MoteWindow.{LoneNode}
use Rattle.window_laws.specs.Windows.Alone.{Rests, Turns}
use Rattle.worker_window.proofs.Ends.{some_system}
use Rattle.worker_window.proofs.Lone.{alone_in_front}

pub earlier_stays_in_front : EarlierStaysInFront
earlier_stays_in_front window last run lines sends = λ system turns. alone_in_front system window.mote.state.mote.state.mote window.until lines sends (run system turns)

turn_wakes : (m : ℕ) (given : List Arrival) (n : Node) → (turn_of m given n).wake ≡ wake_of (turn_of m given n).node
unfolding turn_of
turn_wakes m given n = refl

module _ (system : System Node Line) (turns : system.turn ≡ node_turn) (number bound : ℕ) where
  turned_wakes : (m : ℕ) (given : List RadioCopy) (n : Node) → (system.turn number n m given).wake ≡ wake_of (system.turn number n m given).state
  turned_wakes m given n =
      let P : ((number : ℕ) → Node → (moment : ℕ) → List RadioCopy → Turned Node Line) → Type 0 = λ turn. (turn number n m given).wake ≡ wake_of (turn number n m given).state in
      subst P (sym turns) (turn_wakes m (map arrival_of given) n)

  alone_wakes : {given : List RadioCopy} {mote last : LoneNode} → mote.wake ≡ wake_of mote.state → Alone system number bound given mote last → last.wake ≡ wake_of last.state
  alone_wakes wakes (Rests quiet) = wakes
  alone_wakes {given} {mote} wakes (Turns m quiet comes below rest) = alone_wakes (turned_wakes m (in_order (filter (is_at m) given)) mote.state) rest

pub ends_with_its_wake : EndsWithItsWake
ends_with_its_wake window last wakes run =
    let system = some_system window.mote.state in alone_wakes system refl window.mote.state.mote.state.mote window.until wakes (run system refl)

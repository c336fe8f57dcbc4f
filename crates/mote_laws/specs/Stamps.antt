-- The lines and packets of a turn are stamped with its moment, and a mote's packets are numbered from turn to turn.
use Rattle.std.specs.Prelude.{ℕ, ◌≡◌, ◌+◌, Bool, List, [], ◌∷◌, ◌++◌, length, All}
use Rattle.std.specs.List.Sorted.{IsNonDecreasingBy}
use Rattle.program_tree.specs.Code.{Tree}
use Rattle.radio_packet.specs.declared.arrival.Arrival.{Arrival}
use Rattle.trace_lines.specs.declared.line.Line.{Line}
use Rattle.radio_packet.specs.declared.sent.Sent.{Sent}
use Rattle.kernel_laws.specs.Stamps.{LinesBear, PacketsBear, AreNumberedFrom}
use Rattle.mote_node.specs.Turn.{Node, TurnGiven, turn_of}
use Rattle.mote_node.specs.Laws.{TurnInput, Turns}
use Rattle.mote_laws.specs.Laws.{first_node}

-- The lines of a turn are stamped with its moment, and its packets with its moment and the mote. The numbers of the
-- packets continue from the number of packets that the mote sent before. The mote counts the packets, and its own
-- number doesn't change.
pub record IsStamped (moment : ℕ) (n : Node) (t : TurnGiven) : Type 0 where
  pub lines : LinesBear moment t.lines
  pub packets : PacketsBear moment n.mote.state.mote t.sends
  pub numbered : AreNumberedFrom n.mote.state.sent t.sends
  pub counted : t.node.mote.state.sent ≡ n.mote.state.sent + length t.sends
  pub mote : t.node.mote.state.mote ≡ n.mote.state.mote

-- each turn of a node is stamped in this way
abbrev pub TurnsStamp : Type 0
TurnsStamp = (moment : ℕ) (arrivals : List Arrival) (n : Node) → IsStamped moment n (turn_of moment arrivals n)

-- the packets of these turns, one after another
abbrev pub packets_of_turns : Node → List TurnInput → List Sent
packets_of_turns n [] = []
packets_of_turns n (g ∷ later) = let t = turn_of g.moment g.arrivals n in t.sends ++ packets_of_turns t.node later

-- whatever turns a new node takes, its packets are stamped with its number, and are numbered 0, 1, 2 and so on, in
-- order
abbrev pub PacketsCountUp : Type 0
PacketsCountUp =
    (program : Tree) (number queue : ℕ) (collides : Bool) (given : List TurnInput)
    → let sends = packets_of_turns (first_node program number queue collides) given in
    All (λ x. x.sender ≡ number) sends × AreNumberedFrom 0 sends

-- no line is at an earlier moment than the line before it
abbrev pub NeverGoBack : List Line → Type 0
NeverGoBack lines = IsNonDecreasingBy (λ l. l.at) lines

-- the moments of the lines of turns, one after another, never go back
abbrev pub TurnsNeverGoBack : Type 0
TurnsNeverGoBack = (n last : Node) (given : List TurnInput) (lines : List Line) → Turns n given lines last
    → NeverGoBack lines

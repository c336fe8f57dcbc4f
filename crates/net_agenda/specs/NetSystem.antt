-- The motes of a net and the medium between them.
use Rattle.std.specs.Prelude.{ℕ, List, length, map, slice_get, unwrap_or}
use Rattle.program_tree.specs.Code.{Tree}
use Rattle.trace_lines.specs.declared.line.Line.{Line}
use Rattle.mote_node.specs.Turn.{Node, new_node, with_collide, turn_of}
use Rattle.mote_node.specs.Turn as node
use Rattle.radio_packet.specs.declared.copy.RadioCopy.{RadioCopy}
use Rattle.radio_medium.specs.Medium.{copies, lookahead}
use Rattle.mote_net.specs.Net.{MoteSetup, NetModel, no_program}
use Rattle.window_laws.specs.System.{System, Turned}
use Rattle.radio_packet.specs.declared.arrival.Arrival.{Arrival}

-- a copy as its mote receives it
abbrev pub arrival_of : RadioCopy → Arrival
arrival_of copy = record { sender = copy.sender; number = copy.number; value = copy.value }

-- the set-up for a mote number that the net doesn't have; no turn uses it
abbrev pub no_mote : MoteSetup
no_mote = record { program = no_program.name; tree = no_program.tree; queue = 1 }

abbrev pub mote_at : List MoteSetup → (mote : ℕ) → MoteSetup
mote_at motes mote = unwrap_or (slice_get motes mote) no_mote

-- the program of a mote
abbrev pub tree_at : NetModel → (mote : ℕ) → Tree
tree_at n mote = (mote_at n.motes mote).tree

-- a mote before its first turn
abbrev pub first_node_in : NetModel → (mote : ℕ) → Node
first_node_in n mote = let m = mote_at n.motes mote in with_collide n.collide (new_node m.tree mote m.queue)

abbrev pub turned_of : node.TurnGiven → Turned Node Line
turned_of t = record { state = t.node; lines = t.lines; sends = t.sends; wake = t.wake }

abbrev pub node_turn : (mote : ℕ) → Node → (moment : ℕ) → List RadioCopy → Turned Node Line
node_turn mote n moment given = turned_of (turn_of moment (map arrival_of given) n)

-- the motes of a net, and its medium
unfoldable pub system_of : NetModel → System Node Line
system_of n = record {
  motes = length n.motes;
  first = first_node_in n;
  turn = node_turn;
  copies = copies n.radio;
  lookahead = lookahead n.radio n.end;
}

-- The laws of a mote's lines, turn by turn.
use Rattle.std.specs.Prelude.{ℕ, Bool, List, [], ◌++◌}
use Rattle.program_tree.specs.Code.{Tree}
use Rattle.radio_packet.specs.declared.arrival.Arrival.{Arrival}
use Rattle.trace_lines.specs.declared.line.Line.{Line}
use Rattle.kernel_laws.specs.Going.{GoesWith, IsInOrder}
use Rattle.mote_node.specs.Turn.{Node, new_node, with_collide, turn_of}
use Rattle.mote_node.specs.Laws.{TurnInput, Turns}

-- a node before its first turn; packets that arrive together either collide or don't
abbrev pub first_node : Tree → (number queue : ℕ) → (collides : Bool) → Node
first_node program number queue collides = with_collide collides (new_node program number queue)

-- if the lines so far of a mote agree with the mote, then after a turn these lines and the turn's lines agree with it
abbrev pub TurnKeeps : Type 0
TurnKeeps =
    (lines : List Line) (moment : ℕ) (arrivals : List Arrival) (n : Node) → GoesWith lines n.mote
    → let t = turn_of moment arrivals n in GoesWith (lines ++ t.lines) t.node.mote

-- an empty list of lines agrees with a mote before its first turn
abbrev pub NewGoesWithNoLines : Type 0
NewGoesWithNoLines = (program : Tree) (number queue : ℕ) → GoesWith [] (new_node program number queue).mote

-- the lines of a mote are in order, whatever its program is and whatever turns it takes
abbrev pub MotesHandOn : Type 0
MotesHandOn =
    (program : Tree) (number queue : ℕ) (collides : Bool) (given : List TurnInput) (lines : List Line) (last : Node)
    → Turns (first_node program number queue collides) given lines last
    → IsInOrder lines

-- One mote by itself in a window.
use Rattle.std.specs.Prelude.{◌≡◌, ℕ, ◌<◌, Bool, true, not, ◌&&◌, ◌||◌, ◌==◌, nat_lt, List, [], ◌∷◌, Option, option_map}
use Rattle.std.specs.List.{filter, list_any, list_all}
use Rattle.program_tree.specs.Code.{Tree}
use Rattle.trace_lines.specs.declared.line.Line.{Line}
use Rattle.mote_node.specs.Turn.{Node, wake_of}
use Rattle.radio_packet.specs.declared.copy.RadioCopy.{RadioCopy}
use Rattle.window_laws.specs.System.{System}
use Rattle.window_laws.specs.Order.{in_order}
use Rattle.window_laws.specs.Windows.{LoneMote, after_lone_turn, is_at, wakes_at, IsQuiet, Alone}
use Rattle.net_agenda.specs.NetSystem.{node_turn}

-- a mote in its window: its node and its wake, with its lines so far and the packets of the window so far
abbrev pub LoneNode : Type 0
LoneNode = LoneMote Node Line

-- a mote before the window's first turn, with the lines that it wrote earlier
abbrev pub lone_node : List Line → Node → LoneNode
lone_node lines n = record { state = n; wake = wake_of n; lines = lines; sends = [] }

abbrev pub node_number : Node → ℕ
node_number n = n.mote.state.mote

-- One mote by itself with its copies, up to a bound. While the lesser of its wake and the first copy's moment is below
-- the bound, the mote has a turn at this moment. It gets all copies of the moment, in the order of sender and number.
-- This is `Alone` of the law of windows, for a mote in any net.
abbrev pub WindowRun : (number until : ℕ) → (copies : List RadioCopy) → (mote last : LoneNode) → Type 0
WindowRun number until copies mote last =
    (system : System Node Line) → system.turn ≡ node_turn → Alone system number until copies mote last

-- a mote in its window: its program, the window's bound, and the copies that are still pending
pub record Window : Type 0 where
  pub program : Tree
  pub until : ℕ
  pub copies : List RadioCopy
  pub mote : LoneNode

-- the possible ends of the window
abbrev pub EndsAs : Window → LoneNode → Type 0
EndsAs window last = WindowRun (node_number window.mote.state) window.until window.copies window.mote last

-- the moment is the lesser of the wake and the least moment of a copy
pub record IsNextOf (moment : ℕ) (wake : Option ℕ) (copies : List RadioCopy) : Type 0 where
  pub quiet : IsQuiet moment wake copies
  pub comes : (wakes_at moment wake || list_any (is_at moment) copies) ≡ true

abbrev pub IsNext : (moment : ℕ) → Window → Type 0
IsNext moment window = IsNextOf moment window.mote.wake window.copies

-- no turn is left
abbrev pub IsOver : Window → Type 0
IsOver window = IsQuiet window.until window.mote.wake window.copies

-- a turn is left, at this moment
pub record HasTurn (moment : ℕ) (window : Window) : Type 0 where
  pub next : IsNext moment window
  pub in_window : moment < window.until

-- a mote after its turn on these copies
abbrev pub lone_node_turn : (moment : ℕ) → LoneNode → (given : List RadioCopy) → LoneNode
lone_node_turn moment mote given =
    let number = node_number mote.state in after_lone_turn moment number mote (node_turn number mote.state moment given)

-- the window after the turn at this moment
abbrev pub window_after_turn : (moment : ℕ) → Window → Window
window_after_turn moment window = record window {
  copies = filter (λ copy. not (is_at moment copy)) window.copies;
  mote = lone_node_turn moment window.mote (in_order (filter (is_at moment) window.copies));
}

-- copies are compared by moment, then sender, then number; copies with the same three may be in any order
abbrev pub comes_before : RadioCopy → RadioCopy → Bool
comes_before a b = nat_lt a.at b.at
    || ((a.at == b.at) && (nat_lt a.sender b.sender || ((a.sender == b.sender) && not (nat_lt b.number a.number))))

-- each copy is before all copies after it
abbrev pub is_rising : List RadioCopy → Bool
is_rising [] = true
is_rising (x ∷ xs) = list_all (comes_before x) xs && is_rising xs

-- a window before its first turn, with the lines that its mote wrote earlier; there is no window for a mote that has
-- failed
abbrev pub opened : Tree → (until : ℕ) → (copies : List RadioCopy) → (lines : List Line) → Option Node → Option Window
opened program until copies lines mote =
    option_map (λ n. record { program = program; until = until; copies = copies; mote = lone_node lines n }) mote

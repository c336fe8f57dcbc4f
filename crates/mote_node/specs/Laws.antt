-- Laws of the turns of a node.
use Rattle.std.specs.List.Sorted.{IsStrictlyIncreasing}
use Rattle.std.specs.Prelude.{ℕ, ◌≡◌, ◌+◌, ◌<◌, ◌≤◌, max, true, false, List, [], ◌∷◌, ◌++◌, map, Option, Some, None}
use Rattle.std.specs.Prelude.{IfSome}
use Rattle.mote_timers.specs.TimerLists.{next_expiration_of}
use Rattle.radio_packet.specs.declared.arrival.Arrival.{Arrival}
use Rattle.trace_lines.specs.declared.line.Line.{Line}
use Rattle.mote_node.specs.Turn.{Node, is_past, turn_of}

-- the wake that a turn returns is later than the turn
abbrev pub WakesLater : Type 0
WakesLater = (moment : ℕ) (arrivals : List Arrival) (n : Node)
    → IfSome (turn_of moment arrivals n).wake (λ wake. moment < wake)

-- there is a wake, and it isn't later than `limit`
abbrev pub WakesBy : (limit : ℕ) → (wake : Option ℕ) → Type 0
WakesBy limit wake = (w : ℕ) × (wake ≡ Some w) × (w ≤ limit)

-- no timer is forgotten: a node that has not halted wakes when its first timer is due, or before; if the timer is due
-- at the turn's own moment or earlier, the node wakes at the next moment
abbrev pub WakesInTime : Type 0
WakesInTime =
    (moment : ℕ) (arrivals : List Arrival) (n : Node) (due : ℕ) → let after = (turn_of moment arrivals n).node in
    after.mote.halted ≡ false → next_expiration_of after.mote.state.timers ≡ Some due
    → WakesBy (max (moment + 1) due) (turn_of moment arrivals n).wake

-- the input of a turn of a node
pub record TurnInput : Type 0 where
  pub moment : ℕ
  pub arrivals : List Arrival

-- turns one after another, each later than the previous turn: they change one node into another, and write these lines
pub data Turns : Node → List TurnInput → List Line → Node → Type 0 where
  Rests : {n : Node} → Turns n [] [] n
  Takes : {n last : Node} {given : TurnInput} {later : List TurnInput} {lines : List Line}
      → is_past given.moment n.last ≡ false → Turns (turn_of given.moment given.arrivals n).node later lines last
      → Turns n (given ∷ later) ((turn_of given.moment given.arrivals n).lines ++ lines) last

-- turns happen only at rising moments
abbrev pub TurnsRise : Type 0
TurnsRise = (n last : Node) (given : List TurnInput) (lines : List Line) → Turns n given lines last
    → IsStrictlyIncreasing (map (λ g. g.moment) given)

-- a turn of a node that has halted changes only its clock, writes nothing, sends nothing, and returns no wake
abbrev pub HaltedTurnDoesNothing : Type 0
HaltedTurnDoesNothing =
    (moment : ℕ) (arrivals : List Arrival) (n : Node) → n.mote.halted ≡ true
    → turn_of moment arrivals n ≡ record {
      node = record n { last = Some moment };
      lines = [];
      sends = [];
      wake = None;
    }

-- The packets that a mote receives in its turns, and the line that each of them gets.
use Rattle.std.specs.Prelude.{ℕ, ◌≡◌, ◌&&◌, Bool, true, false, List, [], ◌∷◌, ◌++◌, map, Option}
use Rattle.program_tree.specs.Code.{Tree}
use Rattle.radio_packet.specs.declared.arrival.Arrival.{Arrival}
use Rattle.trace_lines.specs.declared.line.Line.{Line}
use Rattle.trace_lines.specs.declared.line.What.{What}
use Rattle.trace_lines.specs.declared.line.What.TheVariants as what
use Rattle.process_kernel.specs.KernelModel.{KernelModel}
use Rattle.kernel_laws.specs.Polled.{TellEach}
use Rattle.kernel_laws.specs.Ring.{RingRuns}
use Rattle.mote_node.specs.Turn.{Node, collision_line, is_collision, turn_of}
use Rattle.mote_node.specs.Laws.{TurnInput, Turns}
use Rattle.mote_laws.specs.Laws.{first_node}

-- the lines about arriving packets
abbrev pub note_of : What → List What
note_of (what.Recv sender number value) = what.Recv sender number value ∷ []
note_of (what.Lost sender number) = what.Lost sender number ∷ []
note_of (what.Collide sender number) = what.Collide sender number ∷ []
note_of w = []

abbrev pub notes_in : List Line → List What
notes_in [] = []
notes_in (l ∷ lines) = note_of l.what ++ notes_in lines

-- each of these packets was received or lost, in order
pub data AreHeard : List Arrival → List What → Type 0 where
  NoneCame : AreHeard [] []
  IsReceived : {a : Arrival} {later : List Arrival} {ws : List What} → AreHeard later ws
      → AreHeard (a ∷ later) (what.Recv a.sender a.number a.value ∷ ws)
  IsLost : {a : Arrival} {later : List Arrival} {ws : List What} → AreHeard later ws
      → AreHeard (a ∷ later) (what.Lost a.sender a.number ∷ ws)

-- a turn hears exactly the arriving packets, unless they collide or the mote has halted by the end of the turn
abbrev pub TurnsHear : Type 0
TurnsHear =
    (moment : ℕ) (arrivals : List Arrival) (n : Node) → let t = turn_of moment arrivals n in
    (n.collides && is_collision n.mote arrivals) ≡ false → t.node.mote.halted ≡ false
    → AreHeard arrivals (notes_in t.lines)

-- lines that begin with one line for each of these packets, in order, and are about no other arriving packet
pub record BeginWithCollisions (moment : ℕ) (arrivals : List Arrival) (lines : List Line) : Type 0 where
  pub later : List Line
  pub first : lines ≡ map (collision_line moment) arrivals ++ later
  pub none : notes_in later ≡ []

-- a turn whose packets collide begins with their lines, and hears none of them
abbrev pub TurnsCollide : Type 0
TurnsCollide =
    (moment : ℕ) (arrivals : List Arrival) (n : Node) → (n.collides && is_collision n.mote arrivals) ≡ true
    → BeginWithCollisions moment arrivals (turn_of moment arrivals n).lines

-- Along these lines, the ring changes from empty to the packets that are left. These are the packets that the mote
-- holds, unless it has halted.
pub record GoesWithRing (receiver : Option ℕ) (lines : List Line) (m : KernelModel) : Type 0 where
  pub left : List Arrival
  pub runs : RingRuns receiver [] lines left
  pub holds : m.halted ≡ false → m.state.ring ≡ left

-- after any turns of a mote, its ring agrees with its lines
abbrev pub RingGoesWithLines : Type 0
RingGoesWithLines =
    (program : Tree) (number queue : ℕ) (collides : Bool) (given : List TurnInput) (lines : List Line) (last : Node)
    → Turns (first_node program number queue collides) given lines last
    → GoesWithRing program.receiver lines last.mote

-- the packets that were received, in order
abbrev pub received_of : What → List Arrival
received_of (what.Recv sender number value) = record { sender = sender; number = number; value = value } ∷ []
received_of w = []

abbrev pub received_in : List Line → List Arrival
received_in [] = []
received_in (l ∷ lines) = received_of l.what ++ received_in lines

-- these are lines of the list, each at its own place, in the order of the list
pub data AreAmong : List What → List Line → Type 0 where
  AllPassed : AreAmong [] []
  Another : {ws : List What} {lines : List Line} {l : Line} → AreAmong ws lines → AreAmong ws (l ∷ lines)
  ThisOne : {ws : List What} {lines : List Line} {l : Line} → AreAmong ws lines → AreAmong (l.what ∷ ws) (l ∷ lines)

-- after a turn of a mote that has not halted, its ring is empty
abbrev pub TurnsEmptyRing : Type 0
TurnsEmptyRing =
    (program : Tree) (number queue : ℕ) (collides : Bool) (given : List TurnInput) (lines : List Line) (last : Node)
    → Turns (first_node program number queue collides) given lines last
    → last.mote.halted ≡ false → last.mote.state.ring ≡ []

-- Each packet that was received has its own line, and the lines are in the order of the packets. Only if the mote
-- halts, some packets at the end may have no line.
pub record AccountsForPackets (receiver : Option ℕ) (lines : List Line) (m : KernelModel) : Type 0 where
  pub handed : List Arrival
  pub left : List Arrival
  pub all : received_in lines ≡ handed ++ left
  pub none_left : m.halted ≡ false → left ≡ []
  pub tellings : List What
  pub each : TellEach receiver handed tellings
  pub among : AreAmong tellings lines

-- after any turns of a mote, each packet that it received is accounted for
abbrev pub PacketsAreAccountedFor : Type 0
PacketsAreAccountedFor =
    (program : Tree) (number queue : ℕ) (collides : Bool) (given : List TurnInput) (lines : List Line) (last : Node)
    → Turns (first_node program number queue collides) given lines last
    → AccountsForPackets program.receiver lines last.mote

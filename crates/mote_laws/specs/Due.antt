-- The timers that are due, turn by turn.
use Rattle.std.specs.Prelude.{ℕ, ◌≡◌, ◌+◌, ◌⊎◌, ◌&&◌, Bool, false, if◌then◌else◌, List, [], Some}
use Rattle.program_tree.specs.declared.event.Proc.{Proc}
use Rattle.program_tree.specs.declared.event.Proc.TheVariants.{Etimer}
use Rattle.program_tree.specs.declared.event.Target.TheVariants.{One}
use Rattle.program_tree.specs.declared.event.SystemEvent.TheVariants.{Timer}
use Rattle.program_tree.specs.Events.{system_number}
use Rattle.program_tree.specs.Code.{Tree}
use Rattle.radio_packet.specs.declared.arrival.Arrival.{Arrival}
use Rattle.trace_lines.specs.declared.line.Line.{Line}
use Rattle.process_kernel.specs.KernelModel.{most_units, begun, Underway}
use Rattle.process_kernel.specs.State.{KernelState, Goes}
use Rattle.process_kernel.specs.Operations.{calls_of}
use Rattle.kernel_laws.specs.Poll.{PollWaits, polls_before}
use Rattle.kernel_laws.specs.Due.{IsDueFor, NoneIsDue, HaveOwners, HasTelling}
use Rattle.mote_node.specs.Turn.{Node, with_mote, hear_all, is_collision, with_collisions, boot_due, poll_due, turn_of}
use Rattle.mote_node.specs.Turn.{wake_of}
use Rattle.mote_node.specs.Laws.{TurnInput, Turns}
use Rattle.mote_laws.specs.Laws.{first_node}

-- a poll of etimer waits, and the mote wakes at the next moment
pub record WakesForEtimer (moment : ℕ) (n : Node) : Type 0 where
  pub waits : PollWaits Etimer n.mote.state
  pub wakes : wake_of n ≡ Some (moment + 1)

-- After each turn of a mote that has not halted, each timer on the list expires later than the turn's moment, or a
-- poll of etimer waits and the mote wakes at the next moment.
abbrev pub TurnsForgetNone : Type 0
TurnsForgetNone =
    (program : Tree) (number queue : ℕ) (collides : Bool) (given : List TurnInput) (lines : List Line) (last : Node)
    (moment : ℕ) → Turns (first_node program number queue collides) given lines last
    → last.last ≡ Some moment → last.mote.halted ≡ false → NoneIsDue moment last.mote.state.timers
    ⊎ WakesForEtimer moment last

-- whatever turns a mote takes, each timer on its list has an owner
abbrev pub TurnsKeepOwners : Type 0
TurnsKeepOwners =
    (program : Tree) (number queue : ℕ) (collides : Bool) (given : List TurnInput) (lines : List Line) (last : Node)
    → Turns (first_node program number queue collides) given lines last
    → HaveOwners last.mote.state.timers

-- a turn at the beginning of its kernel runs: the mote was booted, the arriving packets were heard, and etimer is to
-- be polled if a timer is due
abbrev pub runs_begin : (moment : ℕ) → List Arrival → Underway → Underway
runs_begin moment arrivals u = let heard = hear_all moment arrivals (boot_due moment u) in
    with_mote heard (poll_due moment heard.mote)

-- the same for a node's turn, in which packets may collide
abbrev pub node_begins : (moment : ℕ) → List Arrival → Node → Underway
node_begins moment arrivals n =
    let u : Underway = record { mote = n.mote; lines = []; sends = [] } in
    if n.collides && is_collision n.mote arrivals then runs_begin moment []
    (with_collisions moment arrivals u) else runs_begin moment arrivals u

-- the state in which the first kernel run of a turn begins
abbrev pub first_run : (moment : ℕ) → List Arrival → Node → KernelState
first_run moment arrivals n = let u = node_begins moment arrivals n in begun u.mote moment u.lines u.sends

-- The first kernel run of the turn polls etimer. The run first polls the processes that precede etimer on the process
-- list and had asked for a poll, and then etimer. Each timer that is due then has a line in the turn, at its moment.
pub record ServesTimers (moment : ℕ) (arrivals : List Arrival) (n : Node) : Type 0 where
  pub at_turn : KernelState
  pub comes : polls_before Etimer (calls_of (most_units + 1)) (first_run moment arrivals n) ≡ Goes tt at_turn
  pub each : (timer : ℕ) (owner : Proc) → IsDueFor moment at_turn.timers timer owner
      → HasTelling moment (turn_of moment arrivals n).lines (One owner) (system_number Timer) timer

-- a turn at which a timer is due serves its timers, unless the mote has halted by the end of the turn
abbrev pub TurnsServeTimers : Type 0
TurnsServeTimers =
    (program : Tree) (number queue : ℕ) (collides : Bool) (given : List TurnInput) (lines : List Line) (n : Node)
    → Turns (first_node program number queue collides) given lines n
    → (moment : ℕ) (arrivals : List Arrival) (timer : ℕ) (owner : Proc)
    → IsDueFor moment n.mote.state.timers timer owner → (turn_of moment arrivals n).node.mote.halted ≡ false
    → ServesTimers moment arrivals n

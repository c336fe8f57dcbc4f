-- The poll of the radio process, which empties the receive ring, and the poll of etimer, which posts the events of due
-- timers.
use Rattle.std.specs.Prelude.{ℕ, ◌≡◌, true, List, [], ◌∷◌, ◌++◌, map, Option, Some, None}
use Rattle.program_tree.specs.declared.event.Proc.{Proc}
use Rattle.program_tree.specs.declared.event.Proc.TheVariants.{Own}
use Rattle.program_tree.specs.declared.event.Target.{Target}
use Rattle.program_tree.specs.declared.event.Target.TheVariants.{One}
use Rattle.program_tree.specs.declared.event.Event.{Event}
use Rattle.program_tree.specs.declared.event.SystemEvent.TheVariants.{Poll, Packet, Timer}
use Rattle.program_tree.specs.Events.{system_number}
use Rattle.mote_timers.specs.Numbers.{is_member}
use Rattle.mote_timers.specs.Timer.{is_due}
use Rattle.mote_timers.specs.TimerLists.{timer_at}
use Rattle.radio_packet.specs.declared.arrival.Arrival.{Arrival}
use Rattle.trace_lines.specs.declared.line.Line.{Line}
use Rattle.trace_lines.specs.declared.line.What.{What}
use Rattle.trace_lines.specs.declared.line.What.TheVariants as what
use Rattle.process_kernel.specs.State.{KernelState, Goes}
use Rattle.process_kernel.specs.Posts.{is_system_event}
use Rattle.process_kernel.specs.Etimer.{etimer_process}
use Rattle.process_kernel.specs.Radio.{radio_process}

-- the line of a post: the event was accepted, or the queue was full
pub data TellsPost (t : Target) (number word : ℕ) : What → Type 0 where
  Accepted : {serial : ℕ} → TellsPost t number word (what.Post serial t number word)
  Refused : TellsPost t number word (what.Full t number word)

-- the line of a packet that leaves the ring: the packet is posted to the receiver, or nobody hears it
abbrev pub TellsPacket : (receiver : Option ℕ) → Arrival → What → Type 0
TellsPacket (Some p) a w = TellsPost (One (Own p)) (system_number Packet) a.value w
TellsPacket None a w = w ≡ what.Deaf a.sender a.number

-- a line for each packet, in order
pub data TellEach (receiver : Option ℕ) : List Arrival → List What → Type 0 where
  NoneLeft : TellEach receiver [] []
  TellsNext : {a : Arrival} {later : List Arrival} {w : What} {ws : List What}
      → TellsPacket receiver a w → TellEach receiver later ws → TellEach receiver (a ∷ later) (w ∷ ws)

-- the lines about these events at this moment
abbrev pub lines_at : (moment : ℕ) → List What → List Line
lines_at moment ws = map (λ w. record { at = moment; what = w }) ws

-- the ring is empty, and there is a line for each packet that was in the ring, in order, and no other line
pub record EmptiesRing (s t : KernelState) : Type 0 where
  pub empty : t.ring ≡ []
  pub tellings : List What
  pub each : TellEach s.program.receiver s.ring tellings
  pub wrote : t.lines ≡ s.lines ++ lines_at s.moment tellings

-- at a poll of the radio process each packet in the ring gets its line, in order, and the ring is empty afterwards,
-- unless the mote halts
abbrev pub PacketsAreHanded : Type 0
PacketsAreHanded = (s t : KernelState) (e : Event) → is_system_event Poll e ≡ true → radio_process s e ≡ Goes tt t
    → EmptiesRing s t

-- one of the lines between the two states is about this post
pub record TellsOfPost (s t : KernelState) (target : Target) (number word : ℕ) : Type 0 where
  pub telling : What
  pub tells : TellsPost target number word telling
  pub before : List Line
  pub after : List Line
  pub wrote : t.lines ≡ s.lines ++ (before ++ record { at = s.moment; what = telling } ∷ after)

-- at a poll of etimer the event of a timer that is due is posted to the timer's owner, unless the mote halts; the
-- queue may be full
abbrev pub DueTimersArePosted : Type 0
DueTimersArePosted =
    (s t : KernelState) (e : Event) (timer : ℕ) (owner : Proc) → is_system_event Poll e ≡ true
    → etimer_process s e ≡ Goes tt t
    → is_member timer s.timers.listed ≡ true → is_due s.moment (timer_at s.timers.timers timer) ≡ true
    → (timer_at s.timers.timers timer).owner ≡ Some owner
    → TellsOfPost s t (One owner) (system_number Timer) timer

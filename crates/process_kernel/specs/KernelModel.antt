-- A mote between its runs, and the outcome of its boot and of its kernel runs.
use Rattle.std.specs.Prelude.{ℕ, ◌+◌, Bool, false, [], ◌∷◌, ◌++◌, ◌||◌, nat_lt, length, map, replicate, true, List}
use Rattle.std.specs.Prelude.{if◌then◌else◌, zero, suc}
use Rattle.program_tree.specs.declared.event.Proc.{Proc}
use Rattle.program_tree.specs.Code.{Tree}
use Rattle.protothread.specs.declared.part.Part.TheVariants.{Body}
use Rattle.protothread.specs.Remainder.{fresh_of}
use Rattle.event_queue.specs.Queue.{empty_queue}
use Rattle.mote_timers.specs.TimerLists.{new_timers}
use Rattle.process_kernel.specs.declared.process.ProcessState.TheVariants.{Off}
use Rattle.radio_packet.specs.declared.arrival.Arrival.{Arrival}
use Rattle.process_kernel.specs.State.{KernelState, Outcome, Ends, Goes}
use Rattle.process_kernel.specs.Posts.{process_poll}
use Rattle.process_kernel.specs.ProcessList.{numbered_from}
use Rattle.trace_lines.specs.declared.line.Line.{Line}
use Rattle.radio_packet.specs.declared.sent.Sent.{Sent}
use Rattle.process_kernel.specs.declared.kernel.Ran.{Ran}
use Rattle.process_kernel.specs.Operations.{calls_of}
use Rattle.process_kernel.specs.Process.{process_run, boot_of}
use Rattle.process_kernel.specs.declared.kernel.Ran.TheVariants as ran

-- a mote: its state, with no units of work and no output; whether it was booted; and whether it has halted
pub record KernelModel : Type 0 where
  pub state : KernelState
  pub booted : Bool
  pub halted : Bool

-- the state with no units of work and no output
abbrev pub at_rest : KernelState → KernelState
at_rest s = record s { units = 0; lines = []; sends = [] }

-- a mote that was never booted: no process is on the list, and no timer was set, no event posted and no packet sent
unfoldable pub unbooted : Tree → (mote queue : ℕ) → KernelModel
unbooted t mote queue = record {
  state = record {
    program = t;
    mote = mote;
    states = replicate (length t.processes + 3) Off;
    exiting = replicate (length t.processes + 3) false;
    needs_poll = replicate (length t.processes + 3) false;
    remainders = map (λ c. fresh_of c Body) t.codes;
    variables = map (λ c. c.starts) t.codes;
    members = [];
    started = 0;
    poll_requested = false;
    queue = empty_queue queue;
    semaphores = t.counts;
    timers = new_timers (length t.timers);
    callbacks = [];
    ring = [];
    sent = 0;
    moment = 0;
    units = 0;
    lines = [];
    sends = [];
  };
  booted = false;
  halted = false;
}

-- a packet is appended to the ring
unfoldable pub with_packet : KernelModel → Arrival → KernelModel
with_packet m a = record m { state = record m.state { ring = m.state.ring ++ a ∷ [] } }

-- a poll of the process is requested, if it is running or called
unfoldable pub with_poll : KernelModel → Proc → KernelModel
with_poll m p = record m { state = process_poll m.state p }

-- the mote has sent so many packets
abbrev pub with_sent : KernelModel → (sent : ℕ) → KernelModel
with_sent m sent = record m { state = record m.state { sent = sent } }

-- the mote has work left: an event is queued, or a poll is requested
abbrev pub is_pending : KernelModel → Bool
is_pending m = nat_lt 0 (length m.state.queue.events) || m.state.poll_requested

-- the number of packets in the ring
abbrev pub holds_packets : KernelModel → ℕ
holds_packets m = length m.state.ring

-- the ring has room for one more packet; it holds 8
abbrev pub has_room : KernelModel → Bool
has_room m = nat_lt (holds_packets m) 8

-- the number of units of work of a boot, and of each kernel run
abbrev pub most_units : ℕ
most_units = 10000

-- the state in which a boot or a run begins: with all units of work, at this moment, and with the incarnations
-- numbered again
unfoldable pub begun_of : KernelState → (moment : ℕ) → KernelState
begun_of s moment = record s {
  moment = moment;
  units = most_units;
  members = numbered_from 0 s.members;
  started = length s.members;
}

-- the outcome of a boot or a run: its result, the mote after it, and everything that was written up to its end
pub record Given : Type 0 where
  pub ran : Ran
  pub mote : KernelModel
  pub lines : List Line
  pub sends : List Sent

-- the outcome of a boot or a run that ended in this way
abbrev pub given : Outcome ℕ → Given
given (Ends s) = record {
  ran = ran.Halted;
  mote = record { state = at_rest s; booted = true; halted = true };
  lines = s.lines;
  sends = s.sends;
}
given (Goes left s) = record {
  ran = ran.Left left;
  mote = record { state = at_rest s; booted = true; halted = false };
  lines = s.lines;
  sends = s.sends;
}

-- the state in which a boot or a run of a mote begins, if these lines and packets were written before
abbrev pub begun : KernelModel → (moment : ℕ) → List Line → List Sent → KernelState
begun m moment lines sends = begun_of (record m.state { lines = lines; sends = sends }) moment

-- a mote that has halted does nothing
abbrev pub unless_halted : KernelModel → List Line → List Sent → Given → Given
unless_halted m lines sends g =
    if m.halted then record { ran = ran.Halted; mote = m; lines = lines; sends = sends } else g

-- the boot of a mote
unfoldable pub boot_given : (moment : ℕ) → KernelModel → List Line → List Sent → Given
boot_given moment m lines sends =
    unless_halted m lines sends (given (boot_of (calls_of (most_units + 1)) (begun m moment lines sends)))

-- a kernel run of a mote
unfoldable pub run_given : (moment : ℕ) → KernelModel → List Line → List Sent → Given
run_given moment m lines sends =
    unless_halted m lines sends (given (process_run (calls_of (most_units + 1)) (begun m moment lines sends)))

-- the mote, and the lines and packets of the turn so far
pub record Underway : Type 0 where
  pub mote : KernelModel
  pub lines : List Line
  pub sends : List Sent

-- the result of a boot or a kernel run
abbrev pub underway_after : Given → Underway
underway_after g = record { mote = g.mote; lines = g.lines; sends = g.sends }

-- a run that leaves work is followed by the others
abbrev pub follow : Ran → (others : Underway → Underway) → Underway → Underway
follow ran.Halted others u = u
follow (ran.Left zero) others u = u
follow (ran.Left (suc n)) others u = others u

-- at most this many kernel runs, until a run leaves no work or the mote halts
unfoldable pub runs_of : (most : ℕ) → (moment : ℕ) → Underway → Underway
runs_of zero moment u = u
runs_of (suc most) moment u =
    let given = run_given moment u.mote u.lines u.sends in follow given.ran (runs_of most moment) (underway_after
    given)

-- The state of a mote's kernel, the end of a step of the kernel, and what each rule of the kernel may do: write lines,
-- spend units of work, and call.
use Rattle.std.specs.Prelude.{ℕ, Bool, List, ◌==◌, ◌-◌, [], ◌∷◌, ◌++◌, if◌then◌else◌}
use Rattle.program_tree.specs.Code.{Tree, Code}
use Rattle.protothread.specs.Remainder.{Remainder}
use Rattle.event_queue.specs.Queue.{Queue}
use Rattle.mote_timers.specs.TimerLists.{TimerLists}
use Rattle.process_kernel.specs.declared.process.ProcessState.{ProcessState}
use Rattle.process_kernel.specs.declared.process.Member.{Member}
use Rattle.radio_packet.specs.declared.arrival.Arrival.{Arrival}
use Rattle.trace_lines.specs.declared.line.Line.{Line}
use Rattle.radio_packet.specs.declared.sent.Sent.{Sent}
use Rattle.trace_lines.specs.declared.line.What.{What}
use Rattle.trace_lines.specs.declared.line.What.TheVariants.{Halt}
use Rattle.program_tree.specs.declared.event.Proc.{Proc}
use Rattle.program_tree.specs.declared.event.Event.{Event}
use Rattle.protothread.specs.declared.answer.PtState.{PtState}

-- The program and the number of the mote. For each process, the system processes first: its state (`p->state`),
-- whether it is being exited, and whether it needs a poll (`p->needspoll`). For each process of the program: the
-- remainder of its body (in C, `p->pt` says where it continues), and its variables. The process list (`process_list`),
-- the newest process first, and the number of incarnations that were numbered. Whether a poll is requested
-- (`poll_requested`); the event queue (`events`, `nevents`); the counts of the semaphores; the timers with the timer
-- list (`timerlist`); the callback list (`ctimer_list`); the packets in the receive ring; the number of packets that
-- were sent; the moment. For the current run: the number of units of work that are left, and the lines and packets so
-- far.
pub record KernelState : Type 0 where
  pub program : Tree
  pub mote : ℕ
  pub states : List ProcessState
  pub exiting : List Bool
  pub needs_poll : List Bool
  pub remainders : List Remainder
  pub variables : List (List ℕ)
  pub members : List Member
  pub started : ℕ
  pub poll_requested : Bool
  pub queue : Queue
  pub semaphores : List ℕ
  pub timers : TimerLists
  pub callbacks : List ℕ
  pub ring : List Arrival
  pub sent : ℕ
  pub moment : ℕ
  pub units : ℕ
  pub lines : List Line
  pub sends : List Sent

-- the end of a step: the mote halts, or it continues with a result
pub data Outcome (A : Type 0) : Type 0 where
  Ends : KernelState → Outcome A
  Goes : A → KernelState → Outcome A

-- the next step, unless the mote has halted
infixl 10 ◌>>=◌
abbrev pub ◌>>=◌ : {A B : Type 0} → Outcome A → (A → KernelState → Outcome B) → Outcome B
Ends s >>= f = Ends s
Goes a s >>= f = f a s

-- the outcome of a step that has no result
abbrev pub Went : Type 0
Went = Outcome (Unit {0})

-- A line at the current moment is added. Contiki has no lines, no units of work, and no halt: there, a process that
-- never returns stops its mote.
abbrev pub with_line : KernelState → What → KernelState
with_line s what = record s { lines = s.lines ++ record { at = s.moment; what = what } ∷ [] }

unfoldable pub write_of : KernelState → What → Went
write_of s what = Goes tt (with_line s what)

-- the mote writes a line about its halt, and nothing more
unfoldable pub halted_of : KernelState → KernelState
halted_of s = with_line s Halt

-- one unit of work is spent; if none is left, the mote halts
unfoldable pub spend_of : KernelState → Went
spend_of s = if s.units == 0 then Ends (halted_of s) else Goes tt (record s { units = s.units - 1 })

-- the answer of a thread, and its remainder
abbrev pub Answer : Type 0
Answer = PtState × Remainder

-- The calls that a rule may make: the call of a process with an event, and the run of a thread of a process up to its
-- answer.
pub record Calls : Type 0 where
  pub call : KernelState → Proc → Event → Went
  pub run : KernelState → Code → Remainder → (process : ℕ) → Event → Outcome Answer

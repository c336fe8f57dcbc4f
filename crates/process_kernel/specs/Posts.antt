-- Events and polls: `process_post()` and `process_poll()` in `process.c`. The rules of the timers and of the radio
-- need them, so they are in a file before `Process`.
use Rattle.std.specs.Prelude.{ℕ, ◌==◌, Bool, ◌^◌, nat_le, true, false, length, if◌then◌else◌}
use Rattle.program_tree.specs.declared.event.Event.{Event}
use Rattle.program_tree.specs.declared.event.SystemEvent.{SystemEvent}
use Rattle.program_tree.specs.Events.{system_number}
use Rattle.program_tree.specs.declared.event.Proc.{Proc}
use Rattle.program_tree.specs.declared.event.Target.{Target}
use Rattle.event_queue.specs.Queue.{with_posted}
use Rattle.process_kernel.specs.State.{KernelState, Outcome, Ends, Goes, ◌>>=◌, write_of, halted_of}
use Rattle.process_kernel.specs.ProcessList.{process_state, is_alive, with_needs_poll}
use Rattle.trace_lines.specs.declared.line.What.TheVariants as what

-- an event of the kernel itself, with a word
abbrev pub own_event : SystemEvent → ℕ → Event
own_event event word = record { number = system_number event; word = word; sender = 0 }

-- the event has the number of this system event
abbrev pub is_system_event : SystemEvent → Event → Bool
is_system_event event e = e.number == system_number event

-- `process_post()` in `process.c`: an event is posted. The result is whether the queue was full (PROCESS_ERR_FULL).
-- Differs: a mote that has accepted 2 to the power of 62 events halts.
unfoldable pub process_post : KernelState → Target → Event → Outcome Bool
process_post s t e =
    if nat_le (2 ^ 62) s.queue.accepted then Ends (halted_of s)
    else (if nat_le s.queue.capacity (length s.queue.events)
    then (write_of s (what.Full t e.number e.word) >>= λ _ s1. Goes true s1)
    else (write_of (record s { queue = with_posted s.queue t e }) (what.Post s.queue.accepted t e.number e.word)
    >>= λ _ s1. Goes false s1))

-- `process_poll()` in `process.c`: a process that is running or called is to be polled.
unfoldable pub process_poll : KernelState → Proc → KernelState
process_poll s p =
    if is_alive (process_state s p) then record (with_needs_poll s p true) { poll_requested = true } else s

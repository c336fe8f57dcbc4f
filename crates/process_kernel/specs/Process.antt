-- The rules of the kernel, nearly in the order of `process.c`. A rule that may call a process takes the two calls as
-- an argument (`Calls`); `calls_of` in `Operations` defines them.
use Rattle.std.specs.Prelude.{not, ◌&&◌, if◌then◌else◌, List, [], ◌∷◌, ℕ, Bool, ◌||◌, false, ◌+◌, length, map}
use Rattle.program_tree.specs.declared.event.Proc.{Proc}
use Rattle.program_tree.specs.declared.event.SystemEvent.TheVariants.{Init, Exit, Exited, Poll}
use Rattle.process_kernel.specs.State.{KernelState, Went, Goes, ◌>>=◌, write_of, Calls, spend_of, Outcome}
use Rattle.process_kernel.specs.ProcessList.{has_process, is_busy, is_listed, enlist_of, is_same, is_on_list}
use Rattle.process_kernel.specs.ProcessList.{exiting_of, leave_of, is_running, with_state, process_needs_poll}
use Rattle.process_kernel.specs.ProcessList.{with_needs_poll}
use Rattle.process_kernel.specs.Posts.{own_event, is_system_event}
use Rattle.program_tree.specs.declared.event.Event.{Event}
use Rattle.process_kernel.specs.declared.process.Member.{Member}
use Rattle.program_tree.specs.declared.event.Proc.TheVariants.{Own, Etimer, Ctimer, Radio}
use Rattle.process_kernel.specs.Thread.{react_of, has_ended}
use Rattle.process_kernel.specs.declared.process.ProcessState.TheVariants.{Running, Called}
use Rattle.program_tree.specs.declared.event.Target.{Target}
use Rattle.program_tree.specs.declared.event.Target.TheVariants.{One, All}
use Rattle.event_queue.specs.declared.queue.Posted.{Posted}
use Rattle.event_queue.specs.Queue.{without_front}
use Rattle.trace_lines.specs.declared.line.What.TheVariants as what

-- `process_start()` in `process.c`: a process that the mote has and that is not on the list is put at the front of the
-- list, and is called with INIT. Differs: for a busy process, a line is written.
unfoldable pub process_start : Calls → KernelState → Proc → Went
process_start calls s p =
    if is_busy s p then write_of s (what.Busy p)
    else (if has_process s p && not (is_listed s p)
    then (enlist_of s p >>= λ _ s1. calls.call s1 p (own_event Init 0))
    else Goes tt s)

-- In `exit_process()`: the loop in which these incarnations are called, one after another, except those of one
-- process. Differs: C follows the links of the list while the calls change it; here the walk is along the list as it
-- was, and skips an incarnation that isn't on the process list when its turn comes.
abbrev pub walk_of : Calls → Event → (skipped : Proc) → List Member → KernelState → Went
walk_of calls e skipped [] s = Goes tt s
walk_of calls e skipped (m ∷ ms) s =
    (if not (is_same m.process skipped) && is_on_list s m then calls.call s m.process e else Goes tt s)
    >>= λ _ s1. walk_of calls e skipped ms s1

-- The number by which EXITED names a process; the system processes, which never leave, have numbers above those of all
-- programs' processes. Differs: in C the data of EXITED is a pointer to the process.
abbrev pub process_number : Proc → ℕ
process_number (Own p) = p
process_number Etimer = 256
process_number Ctimer = 257
process_number Radio = 258

-- In `exit_process()`: the last run of a process that another process exits (`p != fromprocess`). It runs with EXIT,
-- as in a call; its result is ignored. Differs: it costs a unit of work.
unfoldable pub last_run_of : Calls → KernelState → Proc → Went
last_run_of calls s p = spend_of s >>= λ _ s1. react_of calls s1 p (own_event Exit 0) >>= λ _ s2. Goes tt s2

-- `exit_process()` in `process.c`: a process on the list is exited on behalf of another process, or of itself. First
-- the others are informed. Then the process has its last run, unless it asked for the exit itself. Then it leaves the
-- list.
unfoldable pub exit_process : Calls → KernelState → Proc → (behalf : Proc) → Went
exit_process calls s p behalf =
    if is_listed s p then (walk_of calls (own_event Exited (process_number p)) p s.members (exiting_of s p) >>= λ _ s1.
    (if is_same p behalf then Goes tt s1 else last_run_of calls s1 p) >>= λ _ s2. leave_of s2 p)
    else Goes tt s

-- The end of `call_process()`: a process that has ended is exited on its own behalf; any other is running again.
unfoldable pub answered : Calls → KernelState → Proc → (ended : Bool) → Went
answered calls s p ended = if ended then exit_process calls s p p else Goes tt (with_state s p Running)

-- `call_process()` in `process.c`: a running process is called; if the process isn't running, nothing happens.
-- Differs: a call costs a unit of work.
unfoldable pub call_process : Calls → KernelState → Proc → Event → Went
call_process calls s p e =
    if is_running s p then (spend_of s >>= λ _ s1. react_of calls (with_state s1 p Called) p e >>= λ answer s2.
    answered calls s2 p (has_ended answer || is_system_event Exit e))
    else Goes tt s

-- `process_exit()` in `process.c`: a process is exited on behalf of the current process. Differs: C exits a process in
-- the middle of its call too; here, only a line is written for a busy process.
unfoldable pub process_exit : Calls → KernelState → Proc → (current : ℕ) → Went
process_exit calls s p current = if is_busy s p then write_of s (what.Busy p) else exit_process calls s p (Own current)

-- The body of the loop of `do_poll()`: if an incarnation is on the list and needs a poll, `needspoll` is cleared and
-- it is called with POLL. Differs: C also sets the state to running, which changes nothing here.
unfoldable pub poll_turn_of : Calls → KernelState → Member → Went
poll_turn_of calls s m =
    if is_on_list s m && process_needs_poll s m.process
    then calls.call (with_needs_poll s m.process false) m.process (own_event Poll 0)
    else Goes tt s

-- The loop of `do_poll()`. Differs: the walk is along the list as it was at its beginning.
abbrev pub walk_polls : Calls → List Member → KernelState → Went
walk_polls calls [] s = Goes tt s
walk_polls calls (m ∷ ms) s = poll_turn_of calls s m >>= λ _ s1. walk_polls calls ms s1

-- `do_poll()` in `process.c`: `poll_requested` is cleared first.
unfoldable pub do_poll : Calls → KernelState → Went
do_poll calls s = walk_polls calls s.members (record s { poll_requested = false })

-- In `process_run()` and in `do_event()`: the polls, if a poll is requested (`poll_requested`).
unfoldable pub do_poll_if_requested : Calls → KernelState → Went
do_poll_if_requested calls s = if s.poll_requested then do_poll calls s else Goes tt s

-- In `do_event()`: an event reaches a process (`call_process()`), or is dropped. Differs: C calls an event's only
-- receiver even if it has left, which has no effect; here a line says that the event was dropped.
unfoldable pub give_of : Calls → KernelState → Posted → Proc → (is_there : Bool) → Went
give_of calls s x p is_there =
    if is_there then (write_of s (what.Take x.serial p) >>= λ _ s1. calls.call s1 p x.event)
    else write_of s (what.Drop x.serial p)

-- The body of the loop of `do_event()` for PROCESS_BROADCAST: first the polls run, if a poll is requested.
unfoldable pub visit_of : Calls → KernelState → Posted → Member → Went
visit_of calls s x m = do_poll_if_requested calls s >>= λ _ s1. give_of calls s1 x m.process (is_on_list s1 m)

-- The loop. Differs: the walk is along the list as it was at its beginning.
abbrev pub walk_broadcast : Calls → Posted → List Member → KernelState → Went
walk_broadcast calls x [] s = Goes tt s
walk_broadcast calls x (m ∷ ms) s = visit_of calls s x m >>= λ _ s1. walk_broadcast calls x ms s1

-- In `do_event()`: an event is delivered to one process, or to each incarnation on the process list.
abbrev pub deliver_to : Target → Calls → KernelState → Posted → Went
deliver_to (One p) calls s x = give_of calls s x p (is_listed s p)
deliver_to All calls s x = walk_broadcast calls x s.members s

unfoldable pub deliver_of : Calls → KernelState → Posted → Went
deliver_of calls s x = deliver_to x.target calls s x

-- `do_event()` in `process.c`, with the events of the queue: the oldest one, if there is one, is removed from the
-- queue, and then delivered.
abbrev pub do_event : Calls → List Posted → KernelState → Went
do_event calls [] s = Goes tt s
do_event calls (x ∷ xs) s = deliver_of calls (record s { queue = without_front s.queue }) x

-- `process_nevents()` in `process.c`: the number of queued events, and one more if a poll is requested.
abbrev pub process_nevents : KernelState → ℕ
process_nevents s = length s.queue.events + (if s.poll_requested then 1 else 0)

-- `process_run()` in `process.c`, a kernel run: the polls if a poll is requested, and then one event if there is one.
-- The result is `process_nevents()`.
unfoldable pub process_run : Calls → KernelState → Outcome ℕ
process_run calls s =
    do_poll_if_requested calls s >>= λ _ s1. do_event calls s1.queue.events s1 >>= λ _ s2. Goes (process_nevents s2) s2

-- `autostart_start()` in `autostart.c`: each of these processes is started, in order.
abbrev pub autostart_start : Calls → List Proc → KernelState → Went
autostart_start calls [] s = Goes tt s
autostart_start calls (p ∷ ps) s = process_start calls s p >>= λ _ s1. autostart_start calls ps s1

-- The boot of a mote, which the `main` of a platform does once: the system processes are started (`process_init()` is
-- the unbooted state), and then the processes that the program names. The result is `process_nevents()`.
unfoldable pub boot_of : Calls → KernelState → Outcome ℕ
boot_of calls s =
    autostart_start calls (Etimer ∷ Ctimer ∷ Radio ∷ map Own s.program.autostart) s
    >>= λ _ s1. Goes (process_nevents s1) s1

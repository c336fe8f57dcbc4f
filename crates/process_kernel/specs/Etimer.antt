-- Event timers (`etimer.c`).
use Rattle.std.specs.Prelude.{ℕ, zero, suc, nat_lt, List, [], ◌∷◌, length, Option, Some, None, if◌then◌else◌, Bool}
use Rattle.std.specs.Prelude.{false, slice_get}
use Rattle.program_tree.specs.declared.event.Proc.{Proc}
use Rattle.program_tree.specs.declared.event.Proc.TheVariants.{Own, Etimer, Ctimer}
use Rattle.program_tree.specs.declared.event.Target.TheVariants.{One}
use Rattle.program_tree.specs.declared.event.Event.{Event}
use Rattle.program_tree.specs.declared.event.SystemEvent.TheVariants.{Poll, Exited, Timer}
use Rattle.mote_timers.specs.Timer.{is_due}
use Rattle.mote_timers.specs.TimerLists.{timer_at, stop_timer, purge_timers, set_timer, reset_timer, restart_timer}
use Rattle.process_kernel.specs.State.{KernelState, Went, Goes, ◌>>=◌}
use Rattle.process_kernel.specs.Posts.{process_post, process_poll, own_event, is_system_event}
use Rattle.mote_timers.specs.Numbers.{with_member, without_member}
use Rattle.program_tree.specs.Code.{Tree}

-- after the event of a timer was posted, the timer is removed from the timer list and has no owner (PROCESS_NONE)
unfoldable pub fired_of : KernelState → (timer : ℕ) → KernelState
fired_of s timer = record s { timers = stop_timer s.timers timer }

-- In `etimer_process`: a timer that is due is posted to its owner (`t->p`). If the event is accepted, the timer is
-- removed from the list, and the walk begins again (`goto again`). If the queue is full, the timer stays on the list,
-- and etimer is to be polled once more (`etimer_request_poll()`).
abbrev pub post_due : (again on : KernelState → Went) → KernelState → (timer : ℕ) → Option Proc → Went
post_due again on s timer None = on s
post_due again on s timer (Some owner) =
    process_post s (One owner) (own_event Timer timer)
    >>= λ full s1. if full then on (process_poll s1 Etimer) else again (fired_of s1 timer)

-- In `etimer_process`: the loop after the label `again`, along these timers of the list, from the front on.
abbrev pub walk_timers : (again : KernelState → Went) → List ℕ → KernelState → Went
walk_timers again [] s = Goes tt s
walk_timers again (t ∷ ts) s =
    if is_due s.moment (timer_at s.timers.timers t)
    then post_due again (walk_timers again ts) s t (timer_at s.timers.timers t).owner
    else walk_timers again ts s

-- walks along the timer list, each from its front, until a walk removes no timer; at most this many timers are removed
abbrev pub walks_of : ℕ → KernelState → Went
walks_of zero s = Goes tt s
walks_of (suc k) s = walk_timers (walks_of k) s.timers.listed s

-- the pass of etimer when it is polled: each new walk has one timer fewer on the list
unfoldable pub pass_of : KernelState → Went
pass_of s = walks_of (length s.timers.listed) s

-- In `etimer_process` at EXITED: the timers of a process of the program that exits are removed from the list, but keep
-- their owner.
unfoldable pub purge_of : KernelState → (process : ℕ) → KernelState
purge_of s p = if nat_lt p 256 then record s { timers = purge_timers s.timers (Own p) } else s

-- `etimer_process` in `etimer.c`: at POLL its pass, and at EXITED the removal of the timers of the process that exits.
unfoldable pub etimer_process : KernelState → Event → Went
etimer_process s e =
    if is_system_event Poll e then pass_of s
    else (if is_system_event Exited e then Goes tt (purge_of s e.word) else Goes tt s)

-- the timer is a callback timer of the program
abbrev pub is_callback : Tree → (timer : ℕ) → Bool
is_callback program timer = elim (slice_get program.timers timer) [ Some t ↦ t.is_callback | None ↦ false ]

-- the mote has such a timer
abbrev pub has_timer : KernelState → (timer : ℕ) → Bool
has_timer s timer = nat_lt timer (length s.timers.timers)

-- The process that is informed when the timer is due (`timer->p` in `add_timer()`): the process that sets the timer,
-- or `ctimer_process` for a callback timer.
abbrev pub owner_of : Tree → (timer : ℕ) → (current : ℕ) → Proc
owner_of program timer current = if is_callback program timer then Ctimer else Own current

-- `add_timer()` in `etimer.c`: the etimer process is to be polled (`etimer_request_poll()`), and the timer's callback,
-- if there is one, waits for the timer (`list_add` in `ctimer_set()`, `ctimer_reset()` and `ctimer_restart()`). The
-- list of timers itself changes in the functions of `mote_timers`.
unfoldable pub add_timer : KernelState → (timer : ℕ) → KernelState
add_timer s timer =
    process_poll
    (record s { callbacks = if is_callback s.program timer then with_member timer s.callbacks else s.callbacks })
    Etimer

-- `etimer_set()` in `etimer.c`, or `ctimer_set()` in `ctimer.c` for a callback timer: the timer is set to this
-- interval from now. Here and below, a timer that the mote doesn't have is ignored.
unfoldable pub etimer_set : KernelState → (timer interval current : ℕ) → KernelState
etimer_set s timer interval current =
    if has_timer s timer then add_timer (record s
    { timers = set_timer s.timers timer (owner_of s.program timer current) interval s.moment }) timer
    else s

-- `etimer_reset()`, `ctimer_reset()`: the timer is set again from its expiration.
unfoldable pub etimer_reset : KernelState → (timer current : ℕ) → KernelState
etimer_reset s timer current =
    if has_timer s timer then add_timer (record s
    { timers = reset_timer s.timers timer (owner_of s.program timer current) }) timer
    else s

-- `etimer_restart()`, `ctimer_restart()`: the timer is set again from now.
unfoldable pub etimer_restart : KernelState → (timer current : ℕ) → KernelState
etimer_restart s timer current =
    if has_timer s timer then add_timer (record s
    { timers = restart_timer s.timers timer (owner_of s.program timer current) s.moment }) timer
    else s

-- `etimer_stop()`, `ctimer_stop()`: the timer is stopped, and so is its callback.
unfoldable pub etimer_stop : KernelState → (timer : ℕ) → KernelState
etimer_stop s timer =
    if has_timer s timer then record s
    { timers = stop_timer s.timers timer; callbacks = without_member timer s.callbacks }
    else s

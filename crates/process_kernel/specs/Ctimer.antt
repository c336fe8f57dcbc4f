-- Callback timers (`ctimer.c`).
use Rattle.std.specs.Prelude.{ℕ, Bool, ◌&&◌, slice_get, Some, None, if◌then◌else◌}
use Rattle.program_tree.specs.declared.event.Event.{Event}
use Rattle.program_tree.specs.declared.event.SystemEvent.TheVariants.{Timer}
use Rattle.protothread.specs.declared.part.Part.TheVariants.{Callback}
use Rattle.protothread.specs.Remainder.{fresh_of}
use Rattle.mote_timers.specs.Numbers.{is_member, without_member}
use Rattle.process_kernel.specs.State.{KernelState, Went, Goes, ◌>>=◌, Calls}
use Rattle.process_kernel.specs.Etimer.{has_timer}
use Rattle.process_kernel.specs.Posts.{is_system_event}

-- In `ctimer_process`, `c->f(c->ptr)` between PROCESS_CONTEXT_BEGIN and PROCESS_CONTEXT_END: the callback of this
-- timer runs on behalf of the timer's process.
unfoldable pub callback_of : Calls → KernelState → Event → Went
callback_of calls s e =
    elim (slice_get s.program.timers e.word) [
      | None ↦ Goes tt s
      | Some t ↦ elim (slice_get s.program.codes t.process) [
        | None ↦ Goes tt s
        | Some code ↦ calls.run s code (fresh_of code (Callback e.word)) t.process e >>= λ _ s1. Goes tt s1
      ]
    ]

-- the callback of this timer waits for the timer
abbrev pub waits_for : KernelState → (timer : ℕ) → Bool
waits_for s timer = has_timer s timer && is_member timer s.callbacks

-- `ctimer_process` in `ctimer.c`, at TIMER: a callback that waits for its timer is removed from the callback list and
-- runs.
unfoldable pub ctimer_process : Calls → KernelState → Event → Went
ctimer_process calls s e =
    if is_system_event Timer e && waits_for s e.word
    then callback_of calls (record s { callbacks = without_member e.word s.callbacks }) e
    else Goes tt s

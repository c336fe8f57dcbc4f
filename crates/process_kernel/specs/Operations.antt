-- The operations of a protothread, its run until it waits, yields, exits or ends, and the recursion of the rules.
use Rattle.std.specs.Prelude.{ℕ, Bool, if◌then◌else◌, List, Option, Some, None, slice_get, slice_set, ◌+◌, ◌-◌, ◌%◌}
use Rattle.std.specs.Prelude.{◌^◌, slice_index, zero, suc}
use Rattle.program_tree.specs.declared.event.Proc.TheVariants.{Own}
use Rattle.program_tree.specs.declared.event.Event.{Event}
use Rattle.program_tree.specs.Code.{Code}
use Rattle.protothread.specs.declared.step.Op.{Op}
use Rattle.protothread.specs.declared.step.Step.{Step}
use Rattle.protothread.specs.Remainder.{Remainder}
use Rattle.protothread.specs.Step.{answered_of}
use Rattle.process_kernel.specs.State.{KernelState, Outcome, Went, Ends, Goes, ◌>>=◌, write_of, halted_of, Calls}
use Rattle.process_kernel.specs.State.{Answer}
use Rattle.process_kernel.specs.Posts.{process_post, process_poll}
use Rattle.process_kernel.specs.Radio.{send_of}
use Rattle.process_kernel.specs.Etimer.{etimer_set, etimer_reset, etimer_restart, etimer_stop}
use Rattle.process_kernel.specs.Thread.{stepped_of}
use Rattle.process_kernel.specs.Process.{process_start, process_exit, call_process}
use Rattle.protothread.specs.declared.step.Op.TheVariants as op
use Rattle.protothread.specs.declared.step.Step.TheVariants as step
use Rattle.trace_lines.specs.declared.line.What.TheVariants as what

-- The counts of PT_SEM_WAIT, `--(s)->count`, and of PT_SEM_SIGNAL, `++(s)->count` (`pt-sem.h`): the count of a
-- semaphore less one, or 0; and the count plus one, modulo 65,536.
unfoldable pub take_of : KernelState → ℕ → KernelState
take_of s k = record s { semaphores = slice_set s.semaphores k (slice_index s.semaphores k - 1) }

unfoldable pub signal_of : KernelState → ℕ → KernelState
signal_of s k = record s { semaphores = slice_set s.semaphores k ((slice_index s.semaphores k + 1) % 2 ^ 16) }

-- an event that a program posts has no sender; the sender is that of a packet
abbrev pub posted : ℕ → ℕ → Event
posted number word = record { number = number; word = word; sender = 0 }

-- An operation without a result, for the current process (`process_current`): the process whose body, handler or
-- callback is being executed. The rows are `process_post_synch()`, `process_poll()`, `process_start()`,
-- `process_exit()`, the functions of `etimer.c` and `ctimer.c`, the radio, `printf()`, PT_SEM_WAIT and PT_SEM_SIGNAL.
-- Only `process_post()` has a result, and `perform_of` performs it. The row for a post in this definition is never
-- used; it only makes the definition total.
unfoldable pub act_of : Calls → KernelState → (current : ℕ) → Op → Went
act_of calls s current (op.Post t e w) = Goes tt s
act_of calls s current (op.Synch p e w) = calls.call s p (posted e w)
act_of calls s current (op.Poll p) = Goes tt (process_poll s p)
act_of calls s current (op.Start p) = process_start calls s p
act_of calls s current (op.Kill p) = process_exit calls s p current
act_of calls s current (op.Set t n) = Goes tt (etimer_set s t n current)
act_of calls s current (op.Reset t) = Goes tt (etimer_reset s t current)
act_of calls s current (op.RestartTimer t) = Goes tt (etimer_restart s t current)
act_of calls s current (op.Stop t) = Goes tt (etimer_stop s t)
act_of calls s current (op.Send v) = send_of s v
act_of calls s current (op.Print v) = write_of s (what.Print (Own current) v)
act_of calls s current (op.Take k) = Goes tt (take_of s k)
act_of calls s current (op.Signal k) = Goes tt (signal_of s k)

-- a thread is informed whether the queue was full
abbrev pub answered_with : Option (List ℕ) → KernelState → Remainder → (process : ℕ) → (answer : ℕ) → Outcome Remainder
answered_with (Some variables) s r p answer =
    let a = answered_of r variables answer in
    Goes a.remainder (record s { variables = slice_set s.variables p a.variables })
answered_with None s r p answer = Goes r s

-- A thread of this process gets the result of `process_post()`: 1 (PROCESS_ERR_FULL) if the queue was full, and
-- otherwise 0 (PROCESS_ERR_OK).
unfoldable pub answer_of : KernelState → Remainder → (process : ℕ) → Bool → Outcome Remainder
answer_of s r p full = answered_with (slice_get s.variables p) s r p (if full then 1 else 0)

-- an operation is performed; the thread changes only if it gets the result of a post
unfoldable pub perform_of : Calls → KernelState → Remainder → (current : ℕ) → Op → Outcome Remainder
perform_of calls s r current (op.Post t e w) = process_post s t (posted e w) >>= λ full s1. answer_of s1 r current full
perform_of calls s r current o = act_of calls s current o >>= λ _ s1. Goes r s1

-- the effect of a step of a thread
abbrev pub after_step : Calls → Code → (process : ℕ) → Event → Step → Remainder → KernelState → Outcome Answer
after_step calls code p e (step.Op o) r s = perform_of calls s r p o >>= λ r1 s1. calls.run s1 code r1 p e
after_step calls code p e (step.Done answer) r s = Goes (answer, r) s
after_step calls code p e step.Runaway r s = Ends (halted_of s)

-- `p->thread(&p->pt, ev, data)`: a thread runs up to its answer: it waits, yields, exits or ends
unfoldable pub run_of : Calls → KernelState → Code → Remainder → (process : ℕ) → Event → Outcome Answer
run_of calls s code r p e = let m = stepped_of s code r p e in after_step calls code p e m.step m.remainder m.state

-- The calls that nest at most this deep. Each call, and each run of a thread from one operation to the next, spends a
-- unit of work. So a depth above the number of units changes nothing. At depth 0 a mote halts as if it had no unit
-- left.
unfoldable pub calls_of : ℕ → Calls
calls_of zero = record { call = λ s p e. Ends (halted_of s); run = λ s code r p e. Ends (halted_of s) }
calls_of (suc k) = record { call = call_process (calls_of k); run = run_of (calls_of k) }

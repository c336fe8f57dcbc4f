-- The threads of a mote (`pt.h`, and `p->thread` in `process.c`): what a protothread sees, its steps, and the reaction
-- of a process to an event.
use Rattle.std.specs.Prelude.{ℕ, ◌+◌, Bool, true, false, if◌then◌else◌, List, [], ◌∷◌, drop, Some, None, Option}
use Rattle.std.specs.Prelude.{slice_get, slice_set, unwrap_or}
use Rattle.protothread.specs.Looks.{Looks}
use Rattle.mote_timers.specs.declared.timer.Timer.{Timer}
use Rattle.process_kernel.specs.declared.process.ProcessState.{ProcessState}
use Rattle.process_kernel.specs.ProcessList.{is_alive, put_remainder, with_fresh_body}
use Rattle.process_kernel.specs.State.{KernelState, Outcome, Went, Goes, ◌>>=◌, Calls}
use Rattle.program_tree.specs.declared.event.Event.{Event}
use Rattle.program_tree.specs.Code.{Code}
use Rattle.protothread.specs.declared.answer.PtState.TheVariants.{Ended, Waiting, Yielded, Exited}
use Rattle.protothread.specs.declared.step.Step.{Step}
use Rattle.protothread.specs.Remainder.{Remainder, fresh_of}
use Rattle.protothread.specs.Step.{Advanced, advanced_of}
use Rattle.protothread.specs.declared.answer.PtState.{PtState}
use Rattle.program_tree.specs.declared.event.Proc.{Proc}
use Rattle.program_tree.specs.declared.event.Proc.TheVariants.{Own, Etimer, Ctimer, Radio}
use Rattle.program_tree.specs.declared.event.SystemEvent.TheVariants.{Poll, Exit}
use Rattle.protothread.specs.declared.part.Part.TheVariants.{Body, OnPoll, OnExit}
use Rattle.process_kernel.specs.Posts.{is_system_event}
use Rattle.process_kernel.specs.Etimer.{etimer_process}
use Rattle.process_kernel.specs.Ctimer.{ctimer_process}
use Rattle.process_kernel.specs.Radio.{radio_process}
use Rattle.protothread.specs.declared.step.Step.TheVariants as step

-- nobody owns the timer
abbrev pub is_unowned : Timer → Bool
is_unowned t = elim t.owner [ Some p ↦ false | None ↦ true ]

-- the places at which the test holds, counted from k on
abbrev pub places_from : {A : Type 0} → (A → Bool) → (k : ℕ) → List A → List ℕ
places_from test k [] = []
places_from test k (x ∷ xs) = if test x then k ∷ places_from test (k + 1) xs else places_from test (k + 1) xs

-- the view: the moment, the mote, the timers without an owner, the program's processes that are running or called, and
-- the semaphores
abbrev pub looks_at : (moment mote : ℕ) → List Timer → List ProcessState → (semaphores : List ℕ) → Looks
looks_at moment mote timers states semaphores = record {
  moment = moment;
  mote = mote;
  expired = places_from is_unowned 0 timers;
  running = places_from is_alive 0 (drop 3 states);
  counts = semaphores;
}

abbrev pub looks_of : KernelState → Looks
looks_of s = looks_at s.moment s.mote s.timers.timers s.states s.semaphores

-- a step of a thread, with the thread's remainder and the state after the step
pub record Stepped : Type 0 where
  pub step : Step
  pub remainder : Remainder
  pub state : KernelState

-- the step, and the state after it: the process has the new variables, and the units of work are those that are left
abbrev pub stepped : KernelState → (process : ℕ) → Advanced → Stepped
stepped s p a = record {
  step = a.step;
  remainder = a.remainder;
  state = record s { variables = slice_set s.variables p a.variables; units = a.units };
}

-- the step with the variables of the process; a process that the mote doesn't have has no variables and nothing to do
abbrev pub stepped_with : Option (List ℕ) → KernelState → Code → Remainder → (process : ℕ) → Event → Stepped
stepped_with (Some variables) s code r p e = stepped s p (advanced_of code e (looks_of s) r variables s.units)
stepped_with None s code r p e = record { step = step.Done Ended; remainder = r; state = s }

-- A thread of a process continues, as `p->thread` does after PT_BEGIN, to its next operation or to its answer.
unfoldable pub stepped_of : KernelState → Code → Remainder → (process : ℕ) → Event → Stepped
stepped_of s code r p e = stepped_with (slice_get s.variables p) s code r p e

-- the answer is PT_EXITED or PT_ENDED (in `pt.h`, `!PT_SCHEDULE(..)`)
abbrev pub has_ended : PtState → Bool
has_ended Waiting = false
has_ended Yielded = false
has_ended Exited = true
has_ended Ended = true

-- PROCESS_POLLHANDLER and PROCESS_EXITHANDLER: the handler of the event, if there is one, runs from its beginning
unfoldable pub handler_of : Calls → KernelState → Code → (process : ℕ) → Event → Went
handler_of calls s code p e =
    if is_system_event Poll e then (calls.run s code (fresh_of code OnPoll) p e >>= λ _ s1. Goes tt s1)
    else (if is_system_event Exit e
    then (calls.run s code (fresh_of code OnExit) p e >>= λ _ s1. Goes tt s1)
    else Goes tt s)

-- the remainder of the body
abbrev pub remainder_at : KernelState → Code → (process : ℕ) → Remainder
remainder_at s code p = unwrap_or (slice_get s.remainders p) (fresh_of code Body)

-- The body is resumed. While it runs, a fresh body is in the table instead.
unfoldable pub resume_of : Calls → KernelState → Code → (process : ℕ) → Event → Outcome PtState
resume_of calls s code p e =
    calls.run (with_fresh_body s p) code (remainder_at s code p) p e >>= λ a s1. Goes a.0 (put_remainder s1 p a.1)

-- the reaction of a process of the program: first the event's handler runs, and then the body
unfoldable pub own_of : Calls → KernelState → (process : ℕ) → Event → Outcome PtState
own_of calls s p e =
    elim (slice_get s.program.codes p) [
      | None ↦ Goes Ended s
      | Some code ↦ handler_of calls s code p e >>= λ _ s1. resume_of calls s1 code p e
    ]

-- `p->thread(&p->pt, ev, data)` in `call_process()`: the reaction of any process; the system processes always yield.
unfoldable pub react_of : Calls → KernelState → Proc → Event → Outcome PtState
react_of calls s (Own p) e = own_of calls s p e
react_of calls s Etimer e = etimer_process s e >>= λ _ s1. Goes Yielded s1
react_of calls s Ctimer e = ctimer_process calls s e >>= λ _ s1. Goes Yielded s1
react_of calls s Radio e = radio_process s e >>= λ _ s1. Goes Yielded s1

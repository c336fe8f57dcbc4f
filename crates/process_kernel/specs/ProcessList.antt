-- The process list (`process_list` in `process.c`), the fields of each process (`struct process` in `process.h`), and
-- their changes. Each start of a process makes a new incarnation.
use Rattle.std.specs.Prelude.{ℕ, ◌<◌, ◌==◌, Bool, true, not, ◌&&◌, IsTrue, List, [], ◌∷◌, All, nat_lt, false, ◌||◌}
use Rattle.std.specs.Prelude.{length, unwrap_or, slice_get, slice_set, zero, suc, ◌+◌, filter}
use Rattle.std.specs.List.{list_any}
use Rattle.program_tree.specs.declared.event.Proc.{Proc}
pub use Rattle.mote_timers.specs.Processes.{place_of, is_same}
use Rattle.process_kernel.specs.declared.process.Member.{Member}
use Rattle.process_kernel.specs.declared.process.ProcessState.{ProcessState}
use Rattle.process_kernel.specs.declared.process.ProcessState.TheVariants.{Off, Running, Called}
use Rattle.process_kernel.specs.State.{KernelState, Went, write_of}
use Rattle.program_tree.specs.Code.{Code}
use Rattle.program_tree.specs.declared.event.Proc.TheVariants.{Own, Etimer, Ctimer, Radio}
use Rattle.protothread.specs.declared.part.Part.TheVariants.{Body}
use Rattle.protothread.specs.Remainder.{Remainder, fresh_of}
use Rattle.trace_lines.specs.declared.line.What.TheVariants as what

-- some incarnation of the process is on the list
abbrev pub is_found_in : List Member → Proc → Bool
is_found_in ms p = list_any (λ x. is_same p x.process) ms

-- the incarnation is on the list
abbrev pub holds_member : List Member → Member → Bool
holds_member ms m = list_any (λ x. is_same m.process x.process && (m.incarnation == x.incarnation)) ms

-- no process is on the list twice
abbrev pub are_once : List Member → Bool
are_once [] = true
are_once (m ∷ ms) = not (is_found_in ms m.process) && are_once ms

-- each process on the list is a process of the mote, and is on the list only once
pub record AreMembers (ms : List Member) (processes : ℕ) : Type 0 where
  pub once : IsTrue (are_once ms)
  pub within : All (λ m. place_of m.process < processes) ms

-- `p->state`; a process that the mote doesn't have is off (PROCESS_STATE_NONE)
abbrev pub state_at : List ProcessState → Proc → ProcessState
state_at states p = unwrap_or (slice_get states (place_of p)) Off

-- the entry of the process in the list; false if the mote has no such process
abbrev pub at_process : List Bool → Proc → Bool
at_process xs p = unwrap_or (slice_get xs (place_of p)) false

-- PROCESS_STATE_RUNNING
abbrev pub is_running_state : ProcessState → Bool
is_running_state Off = false
is_running_state Running = true
is_running_state Called = false

-- PROCESS_STATE_CALLED
abbrev pub is_called_state : ProcessState → Bool
is_called_state Off = false
is_called_state Running = false
is_called_state Called = true

-- `process_is_running()` in `process.c`: the process is running or called
abbrev pub is_alive : ProcessState → Bool
is_alive Off = false
is_alive Running = true
is_alive Called = true

abbrev pub process_state : KernelState → Proc → ProcessState
process_state s p = state_at s.states p

abbrev pub is_running : KernelState → Proc → Bool
is_running s p = is_running_state (state_at s.states p)

-- the body of the process or one of its handlers is being executed, or the process is being exited
abbrev pub is_busy : KernelState → Proc → Bool
is_busy s p = is_called_state (state_at s.states p) || at_process s.exiting p

-- `p->needspoll`
abbrev pub process_needs_poll : KernelState → Proc → Bool
process_needs_poll s p = at_process s.needs_poll p

-- the mote has such a process
abbrev pub has_process : KernelState → Proc → Bool
has_process s p = nat_lt (place_of p) (length s.states)

-- the incarnation is on the process list
abbrev pub is_on_list : KernelState → Member → Bool
is_on_list s m = holds_member s.members m

-- some incarnation of the process is on the process list
abbrev pub is_listed : KernelState → Proc → Bool
is_listed s p = is_found_in s.members p

-- a process has this state, is being exited or not, and needs a poll or not; a process that the mote doesn't have is
-- ignored
unfoldable pub with_state : KernelState → Proc → ProcessState → KernelState
with_state s p x = record s { states = slice_set s.states (place_of p) x }

unfoldable pub with_exiting : KernelState → Proc → Bool → KernelState
with_exiting s p x = record s { exiting = slice_set s.exiting (place_of p) x }

unfoldable pub with_needs_poll : KernelState → Proc → Bool → KernelState
with_needs_poll s p x = record s { needs_poll = slice_set s.needs_poll (place_of p) x }

-- the body of the process gets this remainder
unfoldable pub put_remainder : KernelState → (process : ℕ) → Remainder → KernelState
put_remainder s p r = record s { remainders = slice_set s.remainders p r }

-- PT_INIT: the process with this number is at the beginning of its body again
abbrev pub fresh_at : List Code → List Remainder → (process : ℕ) → List Remainder
fresh_at [] rs p = rs
fresh_at (c ∷ cs) [] p = []
fresh_at (c ∷ cs) (r ∷ rs) zero = fresh_of c Body ∷ rs
fresh_at (c ∷ cs) (r ∷ rs) (suc p) = r ∷ fresh_at cs rs p

abbrev pub with_fresh_body : KernelState → (process : ℕ) → KernelState
with_fresh_body s p = record s { remainders = fresh_at s.program.codes s.remainders p }

-- the body of a process of the program is fresh
abbrev pub with_fresh_process : KernelState → Proc → KernelState
with_fresh_process s (Own p) = with_fresh_body s p
with_fresh_process s Etimer = s
with_fresh_process s Ctimer = s
with_fresh_process s Radio = s

-- In `process_start()`: a new incarnation is put at the front of the list; it is running, and its body is fresh.
unfoldable pub enlist_of : KernelState → Proc → Went
enlist_of s p =
    write_of (with_fresh_process (with_state (record s {
      members = record { process = p; incarnation = s.started } ∷ s.members;
      started = s.started + 1;
    }) p Running) p) (what.Start p)

-- The beginning of `exit_process()`: the process is off (PROCESS_STATE_NONE), and its exit has begun.
unfoldable pub exiting_of : KernelState → Proc → KernelState
exiting_of s p = with_exiting (with_state s p Off) p true

-- no incarnation of the process is on the list
unfoldable pub unlisted_of : KernelState → Proc → KernelState
unlisted_of s p = record s { members = filter (λ m. not (is_same m.process p)) s.members }

-- The end of `exit_process()`: the process leaves the list, and its exit has ended.
unfoldable pub leave_of : KernelState → Proc → Went
leave_of s p = write_of (unlisted_of (with_exiting s p false) p) (what.Leave p)

-- the same list, with its incarnations numbered from k on
abbrev pub numbered_from : (k : ℕ) → List Member → List Member
numbered_from k [] = []
numbered_from k (m ∷ ms) = record { process = m.process; incarnation = k } ∷ numbered_from (k + 1) ms

-- A process for which a poll is requested, and the polls of the processes before it.
use Rattle.std.specs.Prelude.{◌≡◌, nat_lt, true, false, if◌then◌else◌, List, [], ◌∷◌, length}
use Rattle.program_tree.specs.declared.event.Proc.{Proc}
use Rattle.process_kernel.specs.declared.process.Member.{Member}
use Rattle.process_kernel.specs.ProcessList.{place_of, is_same, is_alive, process_needs_poll, process_state}
use Rattle.process_kernel.specs.State.{KernelState, Went, Calls}
use Rattle.process_kernel.specs.Process.{walk_polls}

-- a poll of the process waits: the process needs a poll, and a poll is requested
pub record PollWaits (p : Proc) (s : KernelState) : Type 0 where
  pub needs_poll : process_needs_poll s p ≡ true
  pub poll_requested : s.poll_requested ≡ true

-- the process is running or called, and `needs_poll` has a place for it
pub record CanBePolled (p : Proc) (s : KernelState) : Type 0 where
  pub alive : is_alive (process_state s p) ≡ true
  pub can_need_poll : nat_lt (place_of p) (length s.needs_poll) ≡ true

-- the members of the process list before the process
abbrev pub members_before : Proc → List Member → List Member
members_before p [] = []
members_before p (m ∷ ms) = if is_same m.process p then [] else m ∷ members_before p ms

-- the polls of a kernel run, up to the turn of the process
abbrev pub polls_before : Proc → Calls → KernelState → Went
polls_before p calls s = walk_polls calls (members_before p s.members) (record s { poll_requested = false })

-- The agreement between the process list and the states of the processes.
use Rattle.std.specs.Prelude.{ℕ, ◌≡◌, ◌==◌, Bool, true, false, List, length, unwrap_or, slice_get}
use Rattle.std.specs.List.{list_any}
use Rattle.process_kernel.specs.declared.process.ProcessState.{ProcessState}
use Rattle.process_kernel.specs.declared.process.ProcessState.TheVariants.{Off, Running, Called}
use Rattle.process_kernel.specs.declared.process.Member.{Member}
use Rattle.process_kernel.specs.ProcessList.{place_of, is_called_state}
use Rattle.process_kernel.specs.State.{KernelState}

-- for the process at this place: its state, whether it is being exited, and whether it is on the process list
abbrev pub state_at_place : KernelState → (place : ℕ) → ProcessState
state_at_place s k = unwrap_or (slice_get s.states k) Off

abbrev pub exiting_at : KernelState → (place : ℕ) → Bool
exiting_at s k = unwrap_or (slice_get s.exiting k) false

abbrev pub listed_in : List Member → (place : ℕ) → Bool
listed_in ms k = list_any (λ m. k == place_of m.process) ms

-- A process that is running or called is on the list and is not being exited. A process that is off is on the list if
-- and only if it is being exited.
abbrev pub AreInStep : ProcessState → (is_exiting is_listed : Bool) → Type 0
AreInStep Off exiting listed = exiting ≡ listed
AreInStep Running exiting listed = (exiting ≡ false) × (listed ≡ true)
AreInStep Called exiting listed = (exiting ≡ false) × (listed ≡ true)

-- each process is in step, and both tables have the same length
pub record IsInStep (s : KernelState) : Type 0 where
  pub tables : length s.exiting ≡ length s.states
  pub each : (k : ℕ) → AreInStep (state_at_place s k) (exiting_at s k) (listed_in s.members k)

-- the processes that are called or being exited are the same in both states
pub record IsAsBusy (s t : KernelState) : Type 0 where
  pub called : (k : ℕ) → is_called_state (state_at_place t k) ≡ is_called_state (state_at_place s k)
  pub exiting : (k : ℕ) → exiting_at t k ≡ exiting_at s k

-- no process is called or being exited
pub record IsIdle (s : KernelState) : Type 0 where
  pub called : (k : ℕ) → is_called_state (state_at_place s k) ≡ false
  pub exiting : (k : ℕ) → exiting_at s k ≡ false

-- The workers stay in their state until the next window begins, and no window is longer than the lookahead.
use Rattle.std.proofs.Common.{ℕ, ◌≡◌, ◌+◌, ◌≤◌, List, Option, Some, None, sym, subst, arith}
use Rattle.std.proofs.Math.Nat.{le-min, min-le_left}
use Rattle.mote_net.specs.Net.{NetModel}
use Rattle.net_agenda.specs.NetSystem.{system_of}
use Rattle.window_laws.specs.Forward.{RunsForward}
use Rattle.window_laws.specs.Windows.{NoneBefore}
use Rattle.window_workers.specs.JoinedRun.{BeginsAt, start_of_window}
use Rattle.window_workers.specs.WorkerGroup.{WorkersAreAt}
use Rattle.window_workers.specs.declared.group.WorkerGroup.{WorkerGroup}
use Rattle.window_workers.proofs.JoinedIsInState.{comes_no_sooner, in_state}

no_sooner : (reached end : ℕ) (next : Option ℕ) → NoneBefore reached next → reached ≤ end + 1 → reached ≤ start_of_window end next
no_sooner reached end None wakes low = low
no_sooner reached end (Some moment) wakes low = le-min wakes low

quiet : (end : ℕ) (next : Option ℕ) → NoneBefore (start_of_window end next) next
quiet end None = tt
quiet end (Some moment) = min-le_left moment (end + 1)

module _ (n : NetModel) (owners : List ℕ) (reached end : ℕ) (group : WorkerGroup) (from : ℕ) (at : WorkersAreAt n owners reached group) (low : reached ≤ end + 1) (begins : BeginsAt end group from) where
  pub begins_later : reached ≤ from
  begins_later = subst (λ m. reached ≤ m) (sym begins.start) (no_sooner reached end begins.next (comes_no_sooner n owners reached group begins.next at begins.is) low)

  pub in_state_there : RunsForward (system_of n) → WorkersAreAt n owners from group
  in_state_there fine = in_state n fine owners reached from group begins.next at begins.is begins_later (subst (λ m. NoneBefore m begins.next) (sym begins.start) (quiet end begins.next))

pub short_enough : (from width lookahead matches until : ℕ) → until ≤ from + width → width ≤ lookahead → lookahead ≡ matches → until ≤ from + matches
short_enough from width lookahead matches until short within value = omega arith

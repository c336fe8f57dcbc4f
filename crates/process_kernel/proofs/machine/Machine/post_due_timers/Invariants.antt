use Rattle.std.proofs.Common.{◌≡◌, ◌≤◌, ◌+◌, ◌*◌, ℕ, IsTrue, length}
use Rattle.std.specs.Option.{ForSome}
use Rattle.program_tree.specs.Code.{Tree}
use Rattle.mote_timers.specs.Numbers.{is_member}
use Rattle.mote_timers.specs.DueTimers.{members_after}
use Rattle.process_kernel.specs.Etimer.{pass_of, walk_timers, walks_of}
use Rattle.process_kernel.specs.Views.{kernel_state_of, Continues, Grows}
use Rattle.process_kernel.proofs.machine.Machine.post_due_timers.Given as goal

abbrev pub invariant-loop-timer : goal.invariant-loop-timer
invariant-loop-timer l =
    Continues l.fn.self l.self
    × Grows l.fn.self.out l.self.out
    × ForSome l.after (λ id. IsTrue (is_member id l.self.view.timers.listed))
    × ((t : Tree) → (left : ℕ) × (length l.self.view.timers.listed ≤ left + 1)
    × (pass_of (kernel_state_of t l.fn.self)
    ≡ walk_timers (walks_of left) (members_after l.after l.self.view.timers.listed) (kernel_state_of t l.self)))

-- each new walk has one timer fewer on the list, and each step of a walk is nearer to the end of the list
abbrev pub decreases-loop-timer : goal.decreases-loop-timer
decreases-loop-timer l =
    length l.self.view.timers.listed * length l.self.view.timers.listed + length
    (members_after l.after l.self.view.timers.listed)

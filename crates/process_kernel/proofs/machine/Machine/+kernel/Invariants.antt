use Rattle.std.proofs.Common.{◌≡◌, ◌<◌, ◌+◌, ◌*◌, ℕ, drop}
use Rattle.program_tree.specs.Program.{tree_of, code_of}
use Rattle.protothread.specs.Places.{remainder_of}
use Rattle.process_kernel.specs.Process.{walk_of}
use Rattle.process_kernel.specs.Operations.{calls_of}
use Rattle.process_kernel.specs.Views.{kernel_state_of, Continues, Grows}
use Rattle.process_kernel.proofs.machine.Machine.+kernel.Given as goal

-- Each call of a running process and each step of a thread spends a unit of work. A function has a higher rank than
-- another one that it calls before it spends a unit.
abbrev pub decreases-call : goal.decreases-call
decreases-call l = 7 * l.self.now.fuel + 0

abbrev pub decreases-react : goal.decreases-react
decreases-react l = 7 * l.self.now.fuel + 5

abbrev pub decreases-react_as_own : goal.decreases-react_as_own
decreases-react_as_own l = 7 * l.self.now.fuel + 4

abbrev pub decreases-handle : goal.decreases-handle
decreases-handle l = 7 * l.self.now.fuel + 3

abbrev pub decreases-resume : goal.decreases-resume
decreases-resume l = 7 * l.self.now.fuel + 1

abbrev pub decreases-react_as_ctimer : goal.decreases-react_as_ctimer
decreases-react_as_ctimer l = 7 * l.self.now.fuel + 4

abbrev pub decreases-call_back : goal.decreases-call_back
decreases-call_back l = 7 * l.self.now.fuel + 3

abbrev pub decreases-run_part : goal.decreases-run_part
decreases-run_part l = 7 * l.self.now.fuel + 2

abbrev pub decreases-run_fresh : goal.decreases-run_fresh
decreases-run_fresh l = 7 * l.self.now.fuel + 1

abbrev pub decreases-run : goal.decreases-run
decreases-run l = 7 * l.self.now.fuel + 0

abbrev pub decreases-perform : goal.decreases-perform
decreases-perform l = 7 * l.self.now.fuel + 6

abbrev pub decreases-act : goal.decreases-act
decreases-act l = 7 * l.self.now.fuel + 5

abbrev pub decreases-start : goal.decreases-start
decreases-start l = 7 * l.self.now.fuel + 1

abbrev pub decreases-kill : goal.decreases-kill
decreases-kill l = 7 * l.self.now.fuel + 3

abbrev pub decreases-exit : goal.decreases-exit
decreases-exit l = 7 * l.self.now.fuel + 2

abbrev pub decreases-run_last : goal.decreases-run_last
decreases-run_last l = 7 * l.self.now.fuel + 0

abbrev pub decreases-walk : goal.decreases-walk
decreases-walk l = 7 * l.self.now.fuel + 1

-- running the whole thread from the first state has the same result as running its remainder from the current state
abbrev pub invariant-run-loop-op : goal.invariant-run-loop-op
invariant-run-loop-op l =
    Continues l.fn.self l.self
    × Grows l.fn.self.out l.self.out
    × ((k : ℕ) → l.fn.self.fuel < k → (m : ℕ) × (l.self.fuel < m)
    × ((calls_of k).run (kernel_state_of (tree_of l.program) l.fn.self) (code_of l.text)
    (remainder_of (code_of l.text) l.fn.thread) l.process l.event
    ≡ (calls_of m).run (kernel_state_of (tree_of l.program) l.self) (code_of l.text)
    (remainder_of (code_of l.text) l.thread) l.process l.event))

abbrev pub decreases-run-loop-op : goal.decreases-run-loop-op
decreases-run-loop-op l = l.self.fuel

abbrev pub invariant-walk-loop-member : goal.invariant-walk-loop-member
invariant-walk-loop-member l =
    Continues l.fn.self l.self
    × Grows l.fn.self.out l.self.out
    × ((k : ℕ) → l.fn.self.fuel < k
    → walk_of (calls_of k) l.event l.skipped l.members (kernel_state_of (tree_of l.program) l.fn.self)
    ≡ walk_of (calls_of k) l.event l.skipped (drop l.member-index l.members) (kernel_state_of (tree_of l.program) l.self))

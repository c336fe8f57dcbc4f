use Rattle.std.proofs.Common.{◌≡◌, ◌<◌, ℕ, drop}
use Rattle.program_tree.specs.Program.{tree_of}
use Rattle.process_kernel.specs.Operations.{calls_of}
use Rattle.process_kernel.specs.Process.{walk_broadcast}
use Rattle.process_kernel.specs.Views.{kernel_state_of, Continues, Grows}
use Rattle.process_kernel.proofs.machine.Machine.walk_broadcast.Given as goal

abbrev pub invariant-loop-member : goal.invariant-loop-member
invariant-loop-member l =
    Continues l.fn.self l.self
    × Grows l.fn.self.out l.self.out
    × ((k : ℕ) → l.fn.self.fuel < k
    → walk_broadcast (calls_of k) l.posted l.members (kernel_state_of (tree_of l.program) l.fn.self)
    ≡ walk_broadcast (calls_of k) l.posted (drop l.member-index l.members) (kernel_state_of (tree_of l.program) l.self))

use Rattle.std.proofs.Common.{◌≡◌, ◌-◌, Some}
use Rattle.program_tree.specs.Program.{tree_of}
use Rattle.process_kernel.specs.Public.{kernel_in, underway_in}
use Rattle.process_kernel.specs.KernelModel.{Underway}
use Rattle.process_kernel.proofs.Given.{GoesOnSoFar}
use Rattle.process_kernel.proofs.Repeated.{RunSoFar}
use Rattle.process_kernel.proofs.kernel.Kernel.run_all_on.Given as goal

abbrev pub invariant-runs : goal.invariant-runs
invariant-runs l =
    ((u : Underway) → underway_in (kernel_in (tree_of l.program) l.fn.self) l.fn.self.machine.out ≡ Some u
    → RunSoFar l.most (l.most - l._run) l.now u (underway_in (kernel_in (tree_of l.program) l.self) l.self.machine.out))
    × GoesOnSoFar (kernel_in (tree_of l.program) l.fn.self) l.fn.self.machine.out
    (kernel_in (tree_of l.program) l.self) l.self.machine.out

use Rattle.std.proofs.Common.{◌≡◌, ◌<◌, ℕ, drop, map}
use Rattle.program_tree.specs.Program.{tree_of}
use Rattle.program_tree.specs.declared.event.Proc.TheVariants.{Own}
use Rattle.process_kernel.specs.Operations.{calls_of}
use Rattle.process_kernel.specs.Process.{autostart_start}
use Rattle.process_kernel.specs.Views.{kernel_state_of, Continues, Grows}
use Rattle.process_kernel.proofs.machine.Machine.start_each.Given as goal

abbrev pub invariant-loop-process : goal.invariant-loop-process
invariant-loop-process l =
    Continues l.fn.self l.self
    × Grows l.fn.self.out l.self.out
    × ((k : ℕ) → l.fn.self.fuel < k
    → autostart_start (calls_of k) (map Own l.processes) (kernel_state_of (tree_of l.program) l.fn.self)
    ≡ autostart_start (calls_of k) (map Own (drop l.process-index l.processes)) (kernel_state_of (tree_of l.program) l.self))

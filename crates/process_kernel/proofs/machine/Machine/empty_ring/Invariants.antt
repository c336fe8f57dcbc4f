use Rattle.std.proofs.Common.{◌≡◌, length}
use Rattle.program_tree.specs.Code.{Tree}
use Rattle.process_kernel.specs.Radio.{empty_ring}
use Rattle.process_kernel.specs.Views.{kernel_state_of, Continues, Grows}
use Rattle.process_kernel.proofs.machine.Machine.empty_ring.Given as goal

abbrev pub invariant-loop-packet : goal.invariant-loop-packet
invariant-loop-packet l =
    Continues l.fn.self l.self
    × Grows l.fn.self.out l.self.out
    × ((t : Tree) → empty_ring l.receiver l.fn.self.ring.items (kernel_state_of t l.fn.self)
    ≡ empty_ring l.receiver l.self.ring.items (kernel_state_of t l.self))

abbrev pub decreases-loop-packet : goal.decreases-loop-packet
decreases-loop-packet l = length l.self.ring.items

use Rattle.std.proofs.Common.{◌≡◌, drop, Some}
use Rattle.program_tree.specs.Code.{Tree}
use Rattle.process_kernel.specs.Public.{kernel_in, underway_in}
use Rattle.process_kernel.specs.KernelModel.{Underway}
use Rattle.mote_node.proofs.HearLemmas.{HeardSoFar}
use Rattle.mote_node.proofs.turn.hear_all.Given as goal

abbrev pub invariant-loop-packet : goal.invariant-loop-packet
invariant-loop-packet l =
    (t : Tree) (u : Underway) → underway_in (kernel_in t l.fn.kernel) l.fn.out ≡ Some u
    → HeardSoFar l.moment l.packets (drop l.packet-index l.packets) u (underway_in (kernel_in t l.kernel) l.out) l.any

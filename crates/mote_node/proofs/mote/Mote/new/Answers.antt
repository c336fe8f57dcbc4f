use Rattle.std.proofs.Common.{refl, IsSome, Some, None, ◌≡◌, IfSome}
use Rattle.program_tree.specs.Program.{tree_of}
use Rattle.process_kernel.specs.KernelModel.{unbooted}
use Rattle.process_kernel.specs.Public.{kernel_in}
use Rattle.mote_node.specs.Turn.{wake_at}
use Rattle.mote_node.proofs.TurnLemmas.{some_anyhow, wakes_anyhow}
use Rattle.mote_node.proofs.mote.Mote.new.Goals as goal

pub invariant_of-result-clause-running : goal.invariant_of-result-clause-running
invariant_of-result-clause-running c =
    let kernel = c.in-Ok-new.kernel.value in
    let some : IsSome (kernel_in (tree_of c.args.program.now) kernel) = rw (c.in-Ok-new.ensures.ok, c.in-Ok.ensures.ok) refl in
    λ t e. some_anyhow (tree_of c.args.program.now) t kernel some

pub invariant_of-result-clause-wakes : goal.invariant_of-result-clause-wakes
unfolding unbooted
invariant_of-result-clause-wakes c =
    let kernel = c.in-Ok-new.kernel.value in
    let first : IfSome (kernel_in (tree_of c.args.program.now) kernel) (λ m. Some 0 ≡ wake_at None m) =
    rw (c.in-Ok-new.ensures.ok, c.in-Ok.ensures.ok) refl in
    λ t e. wakes_anyhow (tree_of c.args.program.now) t kernel (Some 0) first

use Rattle.process_kernel.specs.Public.{kernel_in}
use Rattle.process_kernel.proofs.kernel.Kernel.run.Goals as goal

-- the output of a kernel is not a part of its mote
pub returns : goal.returns
unfolding kernel_in
returns c = record { tells = rw c.swap-2.ensures.y_after (rw c.swap.ensures.x_after at c.run_on-ran.ensures.matches) }

use Rattle.process_kernel.specs.Public.{kernel_in}
use Rattle.process_kernel.proofs.kernel.Kernel.run_all.Goals as goal

-- the output of a kernel is not a part of its mote
pub returns-clause-ok : goal.returns-clause-ok
unfolding kernel_in
returns-clause-ok c = rw c.swap-2.ensures.y_after (rw c.swap.ensures.x_after at c.run_all_on-ran.ensures.ok)

pub returns-clause-err : goal.returns-clause-err
unfolding kernel_in
returns-clause-err c = rw c.swap-2.ensures.y_after (rw c.swap.ensures.x_after at c.run_all_on-ran.ensures.err)

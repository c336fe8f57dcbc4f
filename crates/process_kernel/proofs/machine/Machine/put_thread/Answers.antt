use Rattle.std.proofs.Common.{ap, ◌∙◌, slice_set, Some}
use Rattle.process_kernel.specs.ProcessList.{put_remainder}
use Rattle.process_kernel.specs.Views.{kernel_state_of, remainders_of}
use Rattle.process_kernel.proofs.Remainders.{remainders_set}
use Rattle.process_kernel.proofs.machine.Machine.put_thread.Goals as goal

pub returns-then-place-len-clause-exact : goal.returns-then-place-len-clause-exact
unfolding put_remainder
returns-then-place-len-clause-exact c = λ t code is.
    let threads = c.args.self.now.threads.items in
    ap (λ rs. record (kernel_state_of t c.args.self.now) { remainders = rs })
    (ap (λ p. remainders_of t.codes (slice_set threads p (Some c.args.thread))) c.from-place.ensures
    ∙ remainders_set t.codes threads c.args.process code (Some c.args.thread) is)

use Rattle.std.proofs.Common.{rules}
use Rattle.process_kernel.proofs.Places.{alive_hold}
use Rattle.process_kernel.proofs.look.KernelViewLook.running.Goals as goal

pub returns : goal.returns
returns c = record { decides = alive_hold c.args.self.now.states.items c.args.process _ (search rules) }

use Rattle.std.proofs.Common.{arith}
use Rattle.process_kernel.proofs.Places.{unowned_hold, unowned_past}
use Rattle.process_kernel.proofs.look.KernelViewLook.expired.Goals as goal

pub returns-then-timer-self : goal.returns-then-timer-self
returns-then-timer-self c = record {
  decides =
      unowned_hold c.args.self.now.timers.timers c.args.timer c.expired.result (omega arith) c.expired.ensures.decides;
}

pub returns-else-timer-self : goal.returns-else-timer-self
returns-else-timer-self c = record { decides = unowned_past c.args.self.now.timers.timers c.args.timer (omega arith) }

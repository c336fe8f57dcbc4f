use Rattle.std.proofs.Common.{arith}
use Rattle.std.proofs.lemmas.Grind.{common_steps}
use Rattle.mote_timers.specs.Timer.{expiration}
use Rattle.mote_timers.specs.TimerLists.{timer_at}
use Rattle.mote_timers.proofs.Least.{least_step}
use Rattle.mote_timers.proofs.timers.earliest.Goals as goal

pub loop-id-preserved : goal.loop-id-preserved
loop-id-preserved c =
    least_step (λ id. expiration (timer_at c.args.timers.now id)) _ _ _ _ _ (omega arith) c.loop-id.invariant (grind (arith, common_steps)) c.sooner.ensures.value

use Rattle.std.proofs.Common.{subst, sym}
use Rattle.window_laws.specs.Windows.{NoneBefore}
use Rattle.window_workers.specs.JoinedNext.{FirstOfAll}
use Rattle.window_workers.specs.WorkerGroup.{IsNotBefore}
use Rattle.window_workers.proofs.JoinedNexts.{first_of_next, taken_all}
use Rattle.window_workers.proofs.joins.next.first_of_all.Goals as goal

pub loop-worker-preserved : goal.loop-worker-preserved
loop-worker-preserved c =
    first_of_next c.args.workers.now c.loop-worker.worker-index c.worker-item.result c.loop-worker.first c.sooner-first.result c.worker-item.is c.loop-worker-test.true c.loop-worker.invariant
    (λ copy h. c.sooner-first.ensures.one copy (subst (λ o. IsNotBefore o copy) (sym c.first_out_of.ensures.value) h)) c.sooner-first.ensures.other (λ m h g. c.sooner-first.ensures.greatest m (subst (λ o. NoneBefore m o) (sym c.first_out_of.ensures.value) h) g)

pub returns : goal.returns
returns c = record { first_of_all = subst (λ l. FirstOfAll l c.loop-worker.first) (taken_all c.args.workers.now c.loop-worker.worker-index c.loop-worker-test.false c.loop-worker.auto.worker-index-end) c.loop-worker.invariant }

use Rattle.std.proofs.Common.{arith}
use Rattle.std.proofs.lemmas.Result.{err_from_is_err_and}
use Rattle.radio_medium.proofs.LossLemmas.{HasLosses-none, HasLosses-more, refused_at}
use Rattle.radio_medium.proofs.losses.gather_losses.Goals as goal

pub loop-loss-init : goal.loop-loss-init
loop-loss-init c = HasLosses-none _ _ c.new-every.ensures.empty

pub loop-loss-preserved : goal.loop-loss-preserved
loop-loss-preserved c = HasLosses-more _ _ _ _ _ c.in_ok-add_loss.field-0 (omega arith) c.loop-loss.invariant c.in_ok-add_loss.ensures.adds_loss

pub returns-in_err-add_loss : goal.returns-in_err-add_loss
returns-in_err-add_loss c = record {
  gathers_losses =
      let p = err_from_is_err_and c.from_residual.result c.from_residual.ensures.1 in
      rw (p.1, p.2) (refused_at _ _ c.add_loss.new.every _ _ _ (omega arith) c.loop-loss.invariant c.in_err-add_loss.ensures.adds_loss);
}

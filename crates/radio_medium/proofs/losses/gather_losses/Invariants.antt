use Rattle.std.proofs.Common.{take}
use Rattle.radio_medium.proofs.LossLemmas.{HasLosses}
use Rattle.radio_medium.proofs.losses.gather_losses.Given as goal

-- the table has the losses so far
abbrev pub invariant-loop-loss : goal.invariant-loop-loss
invariant-loop-loss l = HasLosses l.motes l.every (take l.loss-index l.losses)

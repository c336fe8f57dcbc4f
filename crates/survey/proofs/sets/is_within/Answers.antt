use Rattle.std.proofs.Common.{refl, arith, below_more}
use Rattle.survey.proofs.Rising.{within_from_each}
use Rattle.survey.proofs.sets.is_within.Goals as goal

pub loop-fault-preserved : goal.loop-fault-preserved
loop-fault-preserved c = below_more _ _ c.loop-fault.invariant (c.has.ensures.contains.0 c.if-not-has.false)

pub returns : goal.returns
returns c = record { is_within = (λ _. within_from_each c.args.part.now c.args.whole.now (λ k lt. c.loop-fault.invariant k (omega arith)), λ _. refl) }

use Rattle.protothread.proofs.Begin.{begins}
use Rattle.protothread.proofs.thread.Thread.fresh.Goals as goal

pub returns : goal.returns
returns c = record { fresh = λ code. begins code c.args.part c.new.result c.new.ensures.empty }

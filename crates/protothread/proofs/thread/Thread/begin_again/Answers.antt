use Rattle.protothread.proofs.Begin.{begins}
use Rattle.protothread.proofs.thread.Thread.begin_again.Goals as goal

pub returns : goal.returns
returns c = record { fresh = λ code. begins code c.args.self.now.part c.args.self.now.calls c.requires.no_calls }

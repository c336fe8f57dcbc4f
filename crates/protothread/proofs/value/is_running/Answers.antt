use Rattle.protothread.proofs.Lists.{contains_test}
use Rattle.protothread.proofs.value.is_running.Goals as goal

pub returns : goal.returns
returns g c = record { value = contains_test _ _ _ c.running.ensures.decides }

use Rattle.std.proofs.Common.{List, subst}
use Rattle.protothread.specs.declared.calls.Call.{Call}
use Rattle.protothread.specs.Calls.{AreNested}
use Rattle.protothread.proofs.CallLaws.{nested-pop}
use Rattle.protothread.proofs.calls.Calls.pop.Goals as goal

pub invariant_of-self : goal.invariant_of-self
invariant_of-self c =
    let P : List Call → Type 0 = λ cs. AreNested cs in
    nested-pop c.pop.new.self.items _ (subst P c.pop.ensures.items c.self.invariant)

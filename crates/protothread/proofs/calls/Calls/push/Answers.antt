use Rattle.std.proofs.Common.{List, subst, sym, arith}
use Rattle.protothread.specs.declared.calls.Call.{Call}
use Rattle.protothread.specs.Calls.{AreNested, CanSpawn}
use Rattle.protothread.proofs.CallLaws.{nested-push, nested-room}
use Rattle.protothread.proofs.calls.Calls.push.Goals as goal

pub push-requires : goal.push-requires
push-requires c =
    let P : List Call → Type 0 = λ cs. CanSpawn cs c.args.call.thread in
    (omega arith, nested-room c.self.inside.calls.items c.args.call.thread c.self.invariant (subst P (sym c.self.view_is) c.requires.can_spawn))

pub invariant_of-self : goal.invariant_of-self
invariant_of-self c =
    let P : List Call → Type 0 = λ cs. CanSpawn cs c.args.call.thread in
    let Q : List Call → Type 0 = λ cs. AreNested cs in
    subst Q (sym c.push.ensures.items) (nested-push c.self.inside.calls.items c.args.call c.self.invariant (subst P (sym c.self.view_is) c.requires.can_spawn))

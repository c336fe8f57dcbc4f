use Rattle.std.proofs.Common.{◌≡◌, ◌++◌, map, take}
use Rattle.claim_check.specs.Asked.{fault_at}
use Rattle.claim_check.proofs.plan.put_off.Given as goal

abbrev pub invariant-loop-moment : goal.invariant-loop-moment
invariant-loop-moment l = l.motes.items ≡ l.initial.motes.items ++ map (fault_at l.when) (take l.moment-index l.moments)

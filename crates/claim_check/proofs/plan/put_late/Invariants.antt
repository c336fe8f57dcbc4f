use Rattle.std.proofs.Common.{◌≡◌, ◌++◌, map, take}
use Rattle.fault_keys.specs.declared.keys.CopyFault.TheVariants.{Late}
use Rattle.claim_check.proofs.plan.put_late.Given as goal

abbrev pub invariant-loop-delay : goal.invariant-loop-delay
invariant-loop-delay l = l.copies.items ≡ l.initial.copies.items ++ map Late (take l.delay-index l.delays)

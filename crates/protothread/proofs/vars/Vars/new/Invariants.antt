use Rattle.std.proofs.Common.{◌≡◌, take}
use Rattle.protothread.proofs.vars.Vars.new.Given as goal

abbrev pub invariant-loop-start : goal.invariant-loop-start
invariant-loop-start l = l.values.items ≡ take l.start-index l.start-items

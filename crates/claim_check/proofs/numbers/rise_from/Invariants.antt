use Rattle.std.proofs.Common.{◌≡◌, drop}
use Rattle.claim_check.specs.Asked.{rise_from}
use Rattle.claim_check.proofs.numbers.rise_from.Given as goal

abbrev pub invariant-loop-number : goal.invariant-loop-number
invariant-loop-number l = rise_from l.least l.numbers ≡ rise_from l.next (drop l.number-index l.numbers)

use Rattle.std.proofs.Common.{◌≡◌, [], drop}
use Rattle.fault_keys.specs.Keys.{new_keys}
use Rattle.fault_keys.proofs.offers.new_keys.Given as goal

abbrev pub invariant-loop-key : goal.invariant-loop-key
invariant-loop-key l = new_keys l.set l.known.items (drop l.key-index l.keys) ≡ new_keys l.set [] l.keys

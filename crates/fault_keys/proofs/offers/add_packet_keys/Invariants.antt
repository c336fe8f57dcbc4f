use Rattle.std.proofs.Common.{◌≡◌, ◌++◌, take}
use Rattle.std.specs.List.{flat_map}
use Rattle.fault_keys.specs.Keys.{keys_of_fate}
use Rattle.fault_keys.proofs.offers.add_packet_keys.Given as goal

abbrev pub invariant-loop-fate : goal.invariant-loop-fate
invariant-loop-fate l = l.keys.items ≡ l.fn.keys.items ++ flat_map (keys_of_fate l.candidates.fixed.items l.candidates.copies.items l.line.sent.sender l.line.sent.number) (take l.fate-index l.line.fates.items)

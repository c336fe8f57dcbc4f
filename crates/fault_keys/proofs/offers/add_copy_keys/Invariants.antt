use Rattle.std.proofs.Common.{◌≡◌, ◌+◌, ◌++◌, map, length}
use Rattle.std.specs.List.{range_with_len}
use Rattle.fault_keys.specs.Keys.{packed}
use Rattle.fault_keys.proofs.offers.add_copy_keys.Given as goal

abbrev pub invariant-loop-kind : goal.invariant-loop-kind
invariant-loop-kind l = l.keys.items ≡ l.fn.keys.items ++ map (λ kind. length l.candidates.fixed.items + packed (length l.candidates.copies.items) l.sent.sender l.sent.number l.to kind) (range_with_len 0 l.kind)

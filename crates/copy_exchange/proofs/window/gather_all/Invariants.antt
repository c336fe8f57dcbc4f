use Rattle.std.proofs.Common.{◌≡◌, length, drop}
use Rattle.copy_exchange.proofs.Rows.{GathersTo}
use Rattle.copy_exchange.proofs.window.gather_all.Given as goal

abbrev pub invariant-loop-place : goal.invariant-loop-place
invariant-loop-place g l = record {
  gathered : GathersTo (length l.yielded) l.fn.takers.items l.takers.items l.fn.senders.items;
  count : l.place-iterator.count ≡ length l.yielded;
  rest : l.place-iterator.iter.rest.items ≡ drop (length l.yielded) l.fn.senders.items;
}

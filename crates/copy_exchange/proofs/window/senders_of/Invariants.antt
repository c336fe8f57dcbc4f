use Rattle.std.proofs.Common.{◌≡◌, ◌≤◌, length, vec_len, vec_capacity}
use Rattle.copy_exchange.proofs.Rows.{OpensTo}
use Rattle.copy_exchange.proofs.window.senders_of.Given as goal

abbrev pub invariant-loop-other : goal.invariant-loop-other
invariant-loop-other l = record {
  opened : OpensTo l.worker l.other l.fn.takers.items l.takers.items l.senders.items;
  long : vec_len l.senders ≡ l.other;
  room : length l.inboxes ≤ vec_capacity l.senders;
}

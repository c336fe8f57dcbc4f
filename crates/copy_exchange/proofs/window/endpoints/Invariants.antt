use Rattle.std.proofs.Common.{◌≡◌, ◌≤◌, length, vec_len, vec_capacity}
use Rattle.copy_exchange.proofs.Starts.{OpensRows, built}
use Rattle.copy_exchange.proofs.window.endpoints.Given as goal

abbrev pub invariant-loop-worker : goal.invariant-loop-worker
invariant-loop-worker l = record {
  opened : OpensRows l.inboxes l.fn.takers.items l.takers.items l.rows.items;
  long : vec_len l.rows ≡ l.worker;
  room : length l.inboxes ≤ vec_capacity l.rows;
}

abbrev pub invariant-loop-taker : goal.invariant-loop-taker
invariant-loop-taker l = record {
  built : l.endpoints.items ≡ built 0 l.yielded;
  long : vec_len l.endpoints ≡ length l.yielded;
}

use Rattle.std.proofs.Common.{◌≡◌, ◌≤◌, length, vec_capacity}
use Rattle.copy_exchange.specs.Marks.{AreNone}
use Rattle.copy_exchange.proofs.heard.no_marks.Given as goal

abbrev pub invariant-loop : goal.invariant-loop
invariant-loop l = record {
  count : length l.marks.items ≡ l.counter;
  none : AreNone l.marks.items;
  room : l.senders ≤ vec_capacity l.marks;
}

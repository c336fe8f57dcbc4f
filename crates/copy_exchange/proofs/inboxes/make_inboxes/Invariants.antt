use Rattle.std.proofs.Common.{◌≡◌, ◌≤◌, length, vec_capacity}
use Rattle.std.specs.List.{AllByRecursion as Each}
use Rattle.copy_exchange.specs.Inboxes.{IsFresh}
use Rattle.copy_inbox.specs.Handles.{InboxId, TakerView}
use Rattle.copy_exchange.proofs.inboxes.make_inboxes.Given as goal

abbrev pub invariant-loop : goal.invariant-loop
invariant-loop l = record {
  fresh : Each (λ (pair : InboxId × TakerView). IsFresh pair.0 pair.1) l.pairs.items;
  kind : Each (λ (pair : InboxId × TakerView). pair.1.state.marked ≡ l.marked) l.pairs.items;
  count : length l.pairs.items ≡ l.counter;
  room : l.count ≤ vec_capacity l.pairs;
}

use Rattle.std.proofs.Common.{◌≡◌, map}
use Rattle.copy_inbox.specs.Handles.{InboxId, TakerView}
use Rattle.copy_exchange.proofs.inboxes.split_pairs.Given as goal

abbrev pub invariant-loop-inbox : goal.invariant-loop-inbox
invariant-loop-inbox l = record {
  inboxes : l.inboxes.items ≡ map (λ (pair : InboxId × TakerView). pair.0) l.yielded;
  takers : l.takers.items ≡ map (λ (pair : InboxId × TakerView). pair.1) l.yielded;
}

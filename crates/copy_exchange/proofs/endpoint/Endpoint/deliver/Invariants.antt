use Rattle.std.proofs.Common.{take}
use Rattle.copy_exchange.specs.Endpoints.{IsOnInboxes, Delivers}
use Rattle.copy_exchange.proofs.endpoint.Endpoint.deliver.Given as goal

abbrev pub invariant-loop-copy : goal.invariant-loop-copy
invariant-loop-copy g l = record {
  on_inboxes : IsOnInboxes l.inboxes l.self;
  delivers : Delivers l.owners l.fn.self l.self (take l.copy-index l.copies);
}

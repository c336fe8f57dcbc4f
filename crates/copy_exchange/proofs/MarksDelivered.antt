-- The endpoint of a worker for a whole run, window by window.
use Rattle.std.proofs.Common.{◌≡◌, ℕ, List, map, ap}
use Rattle.copy_exchange.specs.Endpoints.{IsOnInboxes, Stays, identity_of}
use Rattle.copy_exchange.specs.Expected.{TakesExpected, position}
use Rattle.copy_exchange.specs.declared.endpoint.Endpoint.{Endpoint}
use Rattle.copy_inbox.specs.Handles.{InboxId, TakerView}
use Rattle.radio_packet.specs.declared.copy.RadioCopy.{RadioCopy}
use Rattle.copy_exchange.proofs.Marked.{on_inboxes_stays}

-- the identities of the senders are the same after items are taken
pub takes_stays : (owners : List ℕ) (from : ℕ) (old new : Endpoint) (copies : List RadioCopy) → TakesExpected (position owners old.worker from) old.taker new.taker copies → new.worker ≡ old.worker → new.senders ≡ old.senders → Stays old new
takes_stays owners from old new copies took worker senders = record {
  worker = worker;
  inbox = ap (λ (t : TakerView). t.inbox) took.taker;
  marked = ap (λ (t : TakerView). t.state.marked) took.taker;
  made = ap (λ (t : TakerView). t.state.made) took.taker;
  gathered = ap (λ (t : TakerView). t.state.gathered) took.taker;
  identities = ap (λ s. map identity_of s.items) senders;
}

pub takes_on_inboxes : (inboxes : List InboxId) (owners : List ℕ) (from : ℕ) (old new : Endpoint) (copies : List RadioCopy) → TakesExpected (position owners old.worker from) old.taker new.taker copies → new.worker ≡ old.worker → new.senders ≡ old.senders
    → IsOnInboxes inboxes old → IsOnInboxes inboxes new
takes_on_inboxes inboxes owners from old new copies took worker senders on_inboxes =
    on_inboxes_stays inboxes old new (takes_stays owners from old new copies took worker senders) on_inboxes

-- The workers before their threads start, and after their threads have ended.
use Rattle.std.specs.Prelude.{◌≡◌, true, List, map}
use Rattle.std.specs.List.{zip, AllByRecursion as Each, AllZip}
use Rattle.copy_inbox.specs.Handles.{InboxId, TakerView}
use Rattle.copy_exchange.specs.declared.endpoint.Endpoint.{Endpoint}
use Rattle.copy_exchange.specs.Endpoints.{HasMarks, HasPushedNothing, StartsAs, Together}
use Rattle.worker_window.specs.declared.share.Share.{Share}
use Rattle.window_workers.specs.declared.worker.Worker.{Worker}
use Rattle.window_workers.specs.Worker.{make_worker}

-- the workers with these shares, and with the endpoints that were made together for these takers
pub record AreMade (inboxes : List InboxId) (takers : List TakerView) (shares : List Share) (workers : List Worker)
    : Type 0 where
  pub endpoints : List Endpoint
  pub are : workers ≡ map make_worker (zip shares endpoints)
  pub together : Together inboxes endpoints
  pub starts : AllZip StartsAs takers endpoints
  pub nothing : Each HasPushedNothing endpoints
  pub marked : Each (λ (taker : TakerView). taker.state.marked ≡ true) takers → Each HasMarks endpoints

-- each of the workers has this property, with any endpoints that can be made
abbrev pub AllMade : List InboxId → List TakerView → List Share → (Worker → Type 0) → Type 0
AllMade inboxes takers shares P = (workers : List Worker) → AreMade inboxes takers shares workers → Each P workers

-- the workers were made, and then each of them worked
pub record HaveWorked (inboxes : List InboxId) (takers : List TakerView) (shares : List Share)
    (makes : Worker → Worker → Type 0) (done : List Worker) : Type 0 where
  pub first : List Worker
  pub are_made : AreMade inboxes takers shares first
  pub ran : AllZip makes first done

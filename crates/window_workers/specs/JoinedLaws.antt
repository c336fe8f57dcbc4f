-- Laws of a window of all workers.
use Rattle.std.specs.Prelude.{ℕ, ◌≡◌, ◌+◌, ◌<◌, ◌≤◌, List, map, Option}
use Rattle.std.specs.List.{zip, AllZip}
use Rattle.mote_net.specs.Net.{NetModel}
use Rattle.window_laws.specs.Forward.{RunsForward}
use Rattle.window_laws.specs.Windows.{NoneBefore}
use Rattle.net_agenda.specs.NetSystem.{system_of}
use Rattle.copy_exchange.specs.declared.endpoint.Endpoint.{Endpoint}
use Rattle.copy_exchange.specs.Endpoints.{Together, StartsAs, GathersDelivered}
use Rattle.copy_exchange.specs.Inboxes.{Settled}
use Rattle.window_workers.specs.declared.group.WorkerGroup.{WorkerGroup}
use Rattle.window_workers.specs.declared.worker.Worker.{Worker}
use Rattle.window_workers.specs.Worker.{make_worker}
use Rattle.window_workers.specs.WorkerGroup.{WorkersAreAt}
use Rattle.window_workers.specs.JoinedNext.{IsNextOfAll, FirstOfAll}
use Rattle.window_workers.specs.JoinedWorker.{RunsWorker}

-- The senders of all workers were made together, each worker ran through the window with its own senders, and then all
-- senders were gathered.
pub record GroupRunsUntil (model : NetModel) (owners : List ℕ) (until : ℕ) (old new : WorkerGroup) : Type 0 where
  pub endpoints : List Endpoint
  pub done : List Worker
  pub together : Together old.inboxes.items endpoints
  pub starts : AllZip StartsAs old.takers.items endpoints
  pub ran : AllZip (RunsWorker model owners old.inboxes.items until)
      (map make_worker (zip old.shares.items endpoints)) done
  pub shares : new.shares.items ≡ map (λ worker. worker.share) done
  pub gathering : AllZip (GathersDelivered (map (λ (worker : Worker). worker.endpoint) done))
      (map (λ (worker : Worker). worker.endpoint) done) new.takers.items
  pub settled : Settled new.inboxes.items new.takers.items
  pub inboxes : new.inboxes.items ≡ old.inboxes.items
  pub first : FirstOfAll done new.first_out

-- a window that begins at the moment of the workers, and isn't longer than the lookahead, leads the workers to its end
abbrev pub WindowMovesOn : Type 0
WindowMovesOn = (model : NetModel) → RunsForward (system_of model)
    → (owners : List ℕ) (from until : ℕ) (old new : WorkerGroup)
    → WorkersAreAt model owners from old → from < until → until ≤ from + (system_of model).lookahead
    → GroupRunsUntil model owners until old new → WorkersAreAt model owners until new

-- the first pending event isn't before the moment of the workers; at each moment up to this event, the workers are in
-- the state of that moment
abbrev pub StaysUntilNext : Type 0
StaysUntilNext = (model : NetModel) → RunsForward (system_of model) → (owners : List ℕ) (from : ℕ) (group : WorkerGroup)
    → (next : Option ℕ) → WorkersAreAt model owners from group → IsNextOfAll group.first_out group.shares.items next
    → NoneBefore from next × ((moment : ℕ) → from ≤ moment → NoneBefore moment next → WorkersAreAt model owners moment group)

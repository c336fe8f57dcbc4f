-- The run of all workers with marks.
use Rattle.std.specs.Prelude.{ℕ, ◌≡◌, List, [], map, None}
use Rattle.std.specs.List.{AllByRecursion as Each, AllZip}
use Rattle.mote_net.specs.Net.{NetModel}
use Rattle.copy_exchange.specs.declared.endpoint.Endpoint.{Endpoint}
use Rattle.copy_exchange.specs.Endpoints.{Together}
use Rattle.copy_exchange.specs.Steps.{GathersBack}
use Rattle.window_workers.specs.declared.worker.Worker.{Worker}
use Rattle.window_workers.specs.declared.group.WorkerGroup.{WorkerGroup}
use Rattle.window_workers.specs.MarkedBounds.{windows_of}
use Rattle.window_workers.specs.MarkedThread.{WorkerRunsAllWindows}

abbrev pub endpoints_of : List Worker → List Endpoint
endpoints_of workers = map (λ worker. worker.endpoint) workers

-- the senders of all workers were made together, each worker ran all windows in its thread, and the senders were then
-- gathered
pub record GroupRunsMarked (model : NetModel) (owners : List ℕ) (width : ℕ) (old new : WorkerGroup) : Type 0 where
  pub first : List Worker
  pub done : List Worker
  pub together : Together new.inboxes.items (endpoints_of first)
  pub none_gathered : Each (λ (e : Endpoint). e.taker.state.gathered ≡ []) (endpoints_of first)
  pub ran : AllZip (WorkerRunsAllWindows model owners width (windows_of width model.end) new.inboxes.items) first done
  pub shares : new.shares.items ≡ map (λ (worker : Worker). worker.share) done
  pub back : GathersBack (endpoints_of done) new.takers.items
  pub inboxes : new.inboxes.items ≡ old.inboxes.items
  pub first_out : new.first_out ≡ None

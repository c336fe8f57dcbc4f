-- The workers before the motes' first turns.
use Rattle.std.specs.Prelude.{ℕ, ◌≡◌, ◌<◌, ◌≤◌, List, [], length, slice_index_or}
use Rattle.std.specs.List.{AllZip}
use Rattle.mote_net.specs.Net.{NetModel}
use Rattle.window_laws.specs.Windows.{first_mote}
use Rattle.net_agenda.specs.NetSystem.{system_of}
use Rattle.worker_window.specs.declared.share.Share.{Share}
use Rattle.worker_window.specs.Share.{IsWholeShare}
use Rattle.copy_exchange.specs.Inboxes.{IsFresh}
use Rattle.window_workers.specs.declared.group.WorkerGroup.{WorkerGroup}
use Rattle.window_workers.specs.WorkerGroup.{IsCut}

-- the shares of this many workers, in order; each mote wakes at 0
pub record AreFirst (model : NetModel) (owners : List ℕ) (workers : ℕ) (shares : List Share) : Type 0 where
  pub count : length shares ≡ workers
  pub each : (worker : ℕ) (share : Share) → worker < workers
      → IsWholeShare model owners worker 0 (first_mote (system_of model)) [] (slice_index_or shares worker share)

-- workers that can run: there are at most 16 of them, each has an inbox that was never used, and each mote belongs to
-- one of them and wakes at 0
pub record AreReady (model : NetModel) (owners : List ℕ) (group : WorkerGroup) : Type 0 where
  pub few : length group.inboxes.items ≤ 16
  pub cut : IsCut (length model.motes) (length group.inboxes.items) owners
  pub fresh : AllZip IsFresh group.inboxes.items group.takers.items
  pub first : AreFirst model owners (length group.inboxes.items) group.shares.items

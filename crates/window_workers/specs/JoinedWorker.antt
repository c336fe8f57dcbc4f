-- One worker in one window.
use Rattle.std.specs.Prelude.{ℕ, ◌≡◌, ◌+◌, ◌≤◌, ◌^◌, true, List, length, Option}
use Rattle.std.specs.List.{AllByRecursion as Each}
use Rattle.radio_packet.specs.declared.copy.RadioCopy.{RadioCopy}
use Rattle.mote_net.specs.Net.{NetModel}
use Rattle.window_laws.specs.Windows.{NoneBefore}
use Rattle.net_agenda.specs.NetSystem.{system_of}
use Rattle.copy_inbox.specs.Handles.{InboxId}
use Rattle.copy_exchange.specs.declared.endpoint.Endpoint.{Endpoint}
use Rattle.copy_exchange.specs.Endpoints.{IsEndpoint, Collects, Delivers}
use Rattle.copy_exchange.specs.Takers.{taken_by, gathered_by}
use Rattle.copy_exchange.specs.Inboxes.{HasNoMarks}
use Rattle.copy_exchange.specs.Crossed.{is_own, IsExpected}
use Rattle.worker_window.specs.Share.{Motes, IsWholeShare}
use Rattle.worker_window.specs.Window.{CanRun, RunsWindow, IsOutgoing}
use Rattle.window_workers.specs.WorkerGroup.{IsCut, IsNotBefore}
use Rattle.window_workers.specs.declared.worker.Worker.{Worker}

-- A worker that can run through a window that ends at 2^40 or earlier. The partition fits, and the share and the
-- endpoint are those of one worker. The worker's inbox has no marks, all gathered copies are for its motes, and each
-- copy that it takes in is expected.
pub record IsReadyWorker (model : NetModel) (owners : List ℕ) (inboxes : List InboxId) (until : ℕ)
    (worker : Worker) : Type 0 where
  pub early : until ≤ 2 ^ 40
  pub cut : IsCut (length model.motes) (length inboxes) owners
  pub takes_in : (between : Endpoint) (arrived : List RadioCopy) → Collects worker.endpoint between arrived
      → CanRun model owners until worker.share arrived
  pub same : worker.share.worker ≡ worker.endpoint.worker
  pub endpoint : IsEndpoint inboxes worker.endpoint
  pub plain : HasNoMarks worker.endpoint.taker
  pub own : Each (λ (copy : RadioCopy). is_own owners worker.endpoint.worker copy.to ≡ true)
      (gathered_by worker.endpoint.taker)

-- the earliest moment of arrival among these copies, if there are any
pub record IsFirstOf (copies : List RadioCopy) (first : Option ℕ) : Type 0 where
  pub none_before : Each (IsNotBefore first) copies
  pub greatest : (moment : ℕ) → Each (λ (copy : RadioCopy). moment ≤ copy.at) copies → NoneBefore moment first

-- Suppose that the share was at a moment that isn't after the window's end, that the window isn't longer than the
-- lookahead, and that each copy that arrived is expected. Then the new share is the result of the window, on all
-- copies that the worker has taken by then, and `outgoing` are the copies that its motes sent to other workers.
abbrev pub RunsItsMotes : NetModel → (owners : List ℕ) → (until : ℕ) → (arrived outgoing : List RadioCopy)
    → (old new : Worker) → Type 0
RunsItsMotes model owners until arrived outgoing old new = (from : ℕ) (motes : Motes)
    → IsWholeShare model owners old.endpoint.worker from motes (taken_by old.endpoint.taker) old.share
    → from ≤ until → until ≤ from + (system_of model).lookahead
    → Each (IsExpected owners old.endpoint.worker from) arrived
    → RunsWindow model owners old.endpoint.worker from until motes (taken_by new.endpoint.taker) new.share outgoing

-- The worker took in all copies that it had gathered and not yet taken, ran its motes, and delivered the outgoing
-- copies.
pub record RunsWorker (model : NetModel) (owners : List ℕ) (inboxes : List InboxId) (until : ℕ) (old new : Worker)
    : Type 0 where
  pub arrived : List RadioCopy
  pub outgoing : List RadioCopy
  pub between : Endpoint
  pub collects : Collects old.endpoint between arrived
  pub delivers : Delivers owners between new.endpoint outgoing
  pub endpoint : IsEndpoint inboxes new.endpoint
  pub runs : RunsItsMotes model owners until arrived outgoing old new
  pub out : Each (IsOutgoing model owners old.endpoint.worker) outgoing
  pub first : IsFirstOf outgoing new.first_out

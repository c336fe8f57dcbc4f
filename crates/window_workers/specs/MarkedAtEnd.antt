-- All workers at the end of a run with marks.
use Rattle.std.specs.Prelude.{ℕ, ◌≡◌, suc, ◌<◌, ◌≤◌, List, length, slice_index_or, Option, None}
use Rattle.std.specs.List.{AllByRecursion as Each}
use Rattle.mote_net.specs.Net.{NetModel}
use Rattle.window_laws.specs.Forward.{RunsForward}
use Rattle.net_agenda.specs.NetSystem.{system_of}
use Rattle.copy_inbox.specs.Gathered.{Whole}
use Rattle.copy_inbox.specs.Items.{part, HasPrefix}
use Rattle.copy_inbox.specs.Handles.{InboxId, TakerView, SenderView}
use Rattle.worker_window.specs.declared.share.Share.{Share}
use Rattle.window_workers.specs.declared.group.WorkerGroup.{WorkerGroup}
use Rattle.window_workers.specs.WorkerGroup.{WorkersAreAt}
use Rattle.window_workers.specs.WorkerGroup.{IsCut}
use Rattle.window_workers.specs.MarkedBounds.{AreWindows}
use Rattle.copy_exchange.specs.Endpoints.{pushed_list}
use Rattle.copy_exchange.specs.Steps.{gather_senders}
use Rattle.window_workers.specs.MarkedSenders.{AreSenders}
use Rattle.window_workers.specs.MarkedWorkerHistory.{WorkerRunsMarked}

-- One worker when all threads are joined: it ran all windows as it promised, it had taken a prefix of the items that
-- each sender on its inbox pushed, and it then gathered these senders. `sender inbox worker` is the sender of the
-- worker on the inbox.
pub record EndsMarked (model : NetModel) (owners : List ℕ) (width windows workers : ℕ)
    (sender : (inbox worker : ℕ) → Option SenderView) (worker : ℕ) (share : Share) (taker : TakerView) : Type 0 where
  pub before : TakerView
  pub promise : WorkerRunsMarked model owners width windows workers worker share before.state
      (λ v. pushed_list (sender v worker))
  pub senders : List SenderView
  pub are_senders : AreSenders workers worker (sender worker) before.state.made senders
  pub begun : Each (λ (s : SenderView). HasPrefix s.state.pushed (part s.state.number before.state.taken)) senders
  pub gathered : taker ≡ gather_senders before senders

-- all workers
pub record EndAllMarked (model : NetModel) (owners : List ℕ) (width windows : ℕ) (group : WorkerGroup) : Type 0 where
  pub cut : IsCut (length model.motes) (length group.inboxes.items) owners
  pub shares : length group.shares.items ≡ length group.inboxes.items
  pub takers : length group.takers.items ≡ length group.inboxes.items
  pub inbox_of_taker : (worker : ℕ) (id : InboxId) (taker : TakerView) → worker < length group.inboxes.items
      → (slice_index_or group.takers.items worker taker).inbox ≡ slice_index_or group.inboxes.items worker id
  pub first_out : group.first_out ≡ None
  pub sender : (inbox worker : ℕ) → Option SenderView
  pub each_worker : (worker : ℕ) → worker < length group.inboxes.items → (share : Share) (taker : TakerView)
      → EndsMarked model owners width windows (length group.inboxes.items) sender worker
      (slice_index_or group.shares.items worker share) (slice_index_or group.takers.items worker taker)

-- Suppose that no window is longer than the lookahead and that each worker kept its promise. Then, for every schedule
-- of the threads, all workers are at the end, in the same state as if all copies had been exchanged between the
-- windows; and each worker has taken all items that were pushed to it, with every mark.
abbrev pub MarkedWindowsLeadToTheEnd : Type 0
MarkedWindowsLeadToTheEnd = (model : NetModel) → RunsForward (system_of model) → (owners : List ℕ) (width windows : ℕ)
    → width ≤ (system_of model).lookahead → AreWindows width model.end windows
    → (group : WorkerGroup) → EndAllMarked model owners width windows group
    → WorkersAreAt model owners (suc model.end) group
    × Each (λ (t : TakerView). Whole t.state.gathered t.state.taken) group.takers.items

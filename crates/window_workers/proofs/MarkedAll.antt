-- The actions of all workers in a run with marks, worker by worker.
use Rattle.std.proofs.Common.{ℕ, ◌<◌, List, Option}
use Rattle.std.specs.List.{AllByRecursion as Each}
use Rattle.copy_exchange.specs.Endpoints.{pushed_list}
use Rattle.copy_inbox.specs.Handles.{SenderView}
use Rattle.copy_inbox.specs.Items.{part, HasPrefix}
use Rattle.copy_inbox.specs.declared.items.Item.{Item}
use Rattle.mote_net.specs.Net.{NetModel}
use Rattle.window_workers.specs.MarkedSenders.{AreSenders}
use Rattle.window_workers.specs.MarkedWorkerHistory.{WorkerHistory, WorkerRunsWindows}

-- Each worker ran its windows as its history says, and has taken a prefix of the items that each sender on its inbox
-- pushed. `sender inbox worker` is the sender of the worker on the inbox.
pub record AllRan (model : NetModel) (owners : List ℕ) (width windows workers : ℕ) : Type 0 where
  pub made : ℕ → ℕ
  pub taken : ℕ → List Item
  pub sender : (inbox worker : ℕ) → Option SenderView
  pub senders : (inbox : ℕ) → List SenderView
  pub histories : ℕ → WorkerHistory
  pub ran : (v : ℕ) → v < workers
      → WorkerRunsWindows model owners width windows workers v (made v) (taken v) (λ u. pushed_list (sender u v))
      (histories v)
  pub are_senders : (u : ℕ) → u < workers → AreSenders workers u (sender u) (made u) (senders u)
  pub begun : (u : ℕ) → u < workers
      → Each (λ (s : SenderView). HasPrefix s.state.pushed (part s.state.number (taken u))) (senders u)

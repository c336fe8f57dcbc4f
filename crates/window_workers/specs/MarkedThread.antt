-- The effect of a worker's thread on its worker: in each window, and in all of them.
use Rattle.std.specs.Prelude.{ℕ, ◌≡◌, suc, ◌+◌, ◌≤◌, List, [], length}
use Rattle.std.specs.List.{AllByRecursion as Each}
use Rattle.radio_packet.specs.declared.copy.RadioCopy.{RadioCopy}
use Rattle.mote_net.specs.Net.{NetModel}
use Rattle.window_laws.specs.Windows.{first_mote}
use Rattle.net_agenda.specs.NetSystem.{system_of}
use Rattle.copy_inbox.specs.Handles.{InboxId}
use Rattle.copy_exchange.specs.Endpoints.{HasMarks, HasPushedNothing, IsOnInboxes, Stays, pushed_to}
use Rattle.copy_exchange.specs.Delivers.{PushesWindow}
use Rattle.copy_exchange.specs.Expected.{TakesExpected, position}
use Rattle.copy_exchange.specs.Marks.{AllPast, AreTakersCounts}
use Rattle.worker_window.specs.Share.{IsWholeShare, Motes}
use Rattle.worker_window.specs.Window.{IsOutgoing, RunsWindow, TakesIn}
use Rattle.window_workers.specs.WorkerGroup.{IsCut}
use Rattle.window_workers.specs.declared.worker.Worker.{Worker}
use Rattle.window_workers.specs.MarkedWorkerHistory.{WorkerRunsMarked}

-- A worker before its first window: its share is unchanged since it was made, its inbox has a sender of each other
-- worker, and nothing was pushed or taken.
pub record IsBeforeFirstWindow (model : NetModel) (owners : List ℕ) (inboxes : List InboxId) (w : Worker) : Type 0 where
  pub cut : IsCut (length model.motes) (length inboxes) owners
  pub keeps : IsWholeShare model owners w.endpoint.worker 0 (first_mote (system_of model)) [] w.share
  pub on_inboxes : IsOnInboxes inboxes w.endpoint
  pub marked : HasMarks w.endpoint
  pub made : suc w.endpoint.taker.state.made ≡ length inboxes
  pub none_taken : w.endpoint.taker.state.taken ≡ []
  pub none_gathered : w.endpoint.taker.state.gathered ≡ []
  pub none_pushed : HasPushedNothing w.endpoint

-- the worker's motes ran through a window, and it pushed the outgoing copies, and the window's mark after them
pub record SendsWindow (model : NetModel) (owners : List ℕ) (workers window until : ℕ)
    (old new : Worker) : Type 0 where
  pub outgoing : List RadioCopy
  pub runs : (worker from : ℕ) (motes : Motes) (taken : List RadioCopy)
      → IsWholeShare model owners worker from motes taken old.share
      → from ≤ until → until ≤ from + (system_of model).lookahead
      → RunsWindow model owners worker from until motes taken new.share outgoing
  pub out : Each (IsOutgoing model owners old.share.worker) outgoing
  pub pushes : PushesWindow owners workers window old.endpoint new.endpoint outgoing

-- the worker took items until the window's mark had arrived from each other worker, and the expected copies among them
-- are in its share; these are the numbers of marks from each sender
pub record TakesWindow (owners : List ℕ) (window until : ℕ) (old new : Worker) (marks : List ℕ) : Type 0 where
  pub arrived : List RadioCopy
  pub took : TakesExpected (position owners old.endpoint.worker until) old.endpoint.taker new.endpoint.taker arrived
  pub counts : AreTakersCounts marks new.endpoint.taker.state
  pub past : AllPast window marks
  pub worker : new.endpoint.worker ≡ old.endpoint.worker
  pub senders : new.endpoint.senders ≡ old.endpoint.senders
  pub keeps : TakesIn arrived old.share new.share

-- the work of a worker's thread: beginning with the state `first`, it ran this many windows
pub record WorkerRunsAllWindows (model : NetModel) (owners : List ℕ) (width windows : ℕ) (inboxes : List InboxId)
    (first now : Worker) : Type 0 where
  pub stays : Stays first.endpoint now.endpoint
  pub promise : WorkerRunsMarked model owners width windows (length inboxes) first.endpoint.worker now.share
      now.endpoint.taker.state (pushed_to now.endpoint)
  pub on_inboxes : IsOnInboxes inboxes now.endpoint

-- Suppose that windows aren't longer than the lookahead. For any first state, if this many windows led from it to the
-- old state, then one more window leads to the new state.
abbrev pub LeadsOn : NetModel → (owners : List ℕ) → (width window : ℕ) → (inboxes : List InboxId)
    → (old new : Worker) → Type 0
LeadsOn model owners width window inboxes old new = width ≤ (system_of model).lookahead → (first : Worker)
    → WorkerRunsAllWindows model owners width window inboxes first old
    → WorkerRunsAllWindows model owners width (suc window) inboxes first new

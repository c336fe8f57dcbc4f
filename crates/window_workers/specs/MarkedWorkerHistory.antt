-- The promises of one worker's thread, for all windows: about the worker's motes, and about the items that the worker
-- takes and pushes.
use Rattle.std.specs.Prelude.{ℕ, ◌≡◌, ◌≢◌, suc, ◌<◌, ◌≤◌, true, List, [], ◌++◌}
use Rattle.std.specs.List.{filter, AllByRecursion as Each}
use Rattle.radio_packet.specs.declared.copy.RadioCopy.{RadioCopy}
use Rattle.mote_net.specs.Net.{NetModel}
use Rattle.window_laws.specs.Windows.{first_mote, is_from_sender}
use Rattle.net_agenda.specs.NetSystem.{system_of}
use Rattle.copy_exchange.specs.Crossed.{is_own, is_to}
use Rattle.copy_inbox.specs.declared.items.Carried.{Carried}
use Rattle.copy_inbox.specs.declared.items.Item.{Item}
use Rattle.copy_inbox.specs.declared.rule.TakerState.{TakerState}
use Rattle.copy_inbox.specs.Items.{part, OfMade}
use Rattle.copy_exchange.specs.Expected.{expected_in, position}
use Rattle.copy_exchange.specs.Pushes.{marks_in, pushes}
use Rattle.worker_window.specs.declared.share.Share.{Share}
use Rattle.worker_window.specs.Share.{Motes, IsWholeShare}
use Rattle.worker_window.specs.Window.{RunsOwnMote, IsOutgoing, outgoing_by}
use Rattle.window_workers.specs.MarkedBounds.{bound}

-- The state of a worker before each window, that is, its motes, all items that it had taken by then, and the copies
-- among them that it had found to be expected; and the outgoing copies of the window.
pub record WorkerHistory : Type 0 where
  pub motes : ℕ → Motes
  pub taken : ℕ → List Item
  pub arrived : ℕ → List RadioCopy
  pub outgoing : ℕ → List RadioCopy

-- one window of the worker's motes, on the expected copies that it had taken by then
pub record RunsMotes (model : NetModel) (owners : List ℕ) (worker from until : ℕ) (motes next : Motes)
    (taken outgoing : List RadioCopy) : Type 0 where
  pub runs : (k : ℕ) → is_own owners worker k ≡ true
      → RunsOwnMote model (is_own owners worker) from until motes next taken k
  pub out : (s : ℕ) → outgoing_by model (is_own owners worker) next s
      ≡ outgoing_by model (is_own owners worker) motes s ++ filter (is_from_sender s) outgoing
  pub goes : Each (IsOutgoing model owners worker) outgoing
  pub late : Each (λ (copy : RadioCopy). until ≤ copy.at) outgoing

-- The first windows of one worker; `windows` is their number. Before each window it had taken, from each sender that
-- was made on its inbox, the marks of all earlier windows. The items that it pushed to another worker are, for each
-- window, the copies for that worker's motes and then the mark.
pub record WorkerRunsWindows (model : NetModel) (owners : List ℕ) (width windows workers worker made : ℕ)
    (taken : List Item)
    (pushed : ℕ → List Carried) (history : WorkerHistory) : Type 0 where
  pub first : history.motes 0 ≡ first_mote (system_of model)
  pub nothing : history.taken 0 ≡ []
  pub none_arrived : history.arrived 0 ≡ []
  pub all : history.taken windows ≡ taken
  pub goes_on : (k : ℕ) → k < windows → (more : List Item) × (history.taken (suc k) ≡ history.taken k ++ more)
      × (history.arrived (suc k) ≡ history.arrived k
      ++ expected_in (position owners worker (bound width model.end (suc k))) more)
  pub marks_lead : (k : ℕ) → k ≤ windows → (sender : ℕ) → sender < made → k ≤ marks_in (part sender (history.taken k))
  pub of_made : OfMade made taken
  pub runs : (k : ℕ) → k < windows
      → RunsMotes model owners worker (bound width model.end k) (bound width model.end (suc k))
      (history.motes k) (history.motes (suc k)) (history.arrived k) (history.outgoing k)
  pub pushes_then : (v : ℕ) → v < workers → v ≢ worker
      → pushed v ≡ pushes windows (λ k. filter (is_to owners v) (history.outgoing k))

-- The promise: the worker ran this many windows, with some history, and its share keeps the motes at the end of the
-- windows. Its taker has taken the items of the history, and has gathered no sender.
pub record WorkerRunsMarked (model : NetModel) (owners : List ℕ) (width windows workers worker : ℕ) (share : Share)
    (state : TakerState) (pushed : ℕ → List Carried) : Type 0 where
  pub history : WorkerHistory
  pub ran : WorkerRunsWindows model owners width windows workers worker state.made state.taken pushed history
  pub keeps : IsWholeShare model owners worker (bound width model.end windows) (history.motes windows)
      (history.arrived windows) share
  pub nobody : state.gathered ≡ []

-- The promise of a thread before its first window, and after one more window.
use Rattle.std.proofs.Common.{◌≡◌, ◌≢◌, ℕ, suc, ◌<◌, ◌≤◌, List, [], ◌∷◌, ◌++◌, map, sym, subst}
use Rattle.std.specs.List.{filter, AllByRecursion as Each}
use Rattle.copy_exchange.specs.Crossed.{is_to}
use Rattle.copy_exchange.specs.Expected.{expected_in, position}
use Rattle.copy_exchange.specs.Pushes.{marks_in}
use Rattle.copy_inbox.specs.Items.{part, OfMade}
use Rattle.copy_inbox.specs.Views.{make_taker_state}
use Rattle.copy_inbox.specs.declared.items.Carried.{Carried}
use Rattle.copy_inbox.specs.declared.items.Item.{Item}
use Rattle.copy_inbox.specs.declared.rule.TakerState.{TakerState}
use Rattle.mote_net.specs.Net.{NetModel}
use Rattle.net_agenda.specs.NetSystem.{system_of}
use Rattle.radio_packet.specs.declared.copy.RadioCopy.{RadioCopy}
use Rattle.window_laws.specs.Windows.{first_mote}
use Rattle.window_workers.specs.MarkedBounds.{bound}
use Rattle.window_workers.specs.MarkedWorkerHistory.{WorkerHistory, RunsMotes, WorkerRunsWindows, WorkerRunsMarked}
use Rattle.worker_window.specs.Share.{IsWholeShare}
use Rattle.worker_window.specs.Window.{RunsWindow, IsOutgoing}
use Rattle.worker_window.specs.declared.share.Share.{Share}
use Rattle.copy_inbox.specs.declared.items.Carried.TheVariants.{Packet, Mark}
use Rattle.window_workers.proofs.MarkedBounds.{at_first}
use Rattle.window_workers.proofs.MarkedLonger.{edit_same, runs_none, longer, runs_longer}

-- a worker with a new share, and with a taker that has taken nothing
pub promise_first : (n : NetModel) (owners : List ℕ) (width workers worker : ℕ) (share : Share) (state : TakerState) → state.taken ≡ [] → state.gathered ≡ []
    → IsWholeShare n owners worker 0 (first_mote (system_of n)) [] share → WorkerRunsMarked n owners width 0 workers worker share state (λ v. [])
promise_first n owners width workers worker share state taken nobody keeps = record {
  history = record { motes = λ k. first_mote (system_of n); taken = λ k. []; arrived = λ k. []; outgoing = λ k. [] };
  ran = subst (λ l. WorkerRunsWindows n owners width 0 workers worker state.made l (λ v. []) (record { motes = λ k. first_mote (system_of n); taken = λ k. []; arrived = λ k. []; outgoing = λ k. [] })) (sym taken)
      (runs_none n owners width workers worker state.made);
  keeps = subst (λ t. IsWholeShare n owners worker t (first_mote (system_of n)) [] share) (sym (at_first width n.end)) keeps;
  nobody = nobody;
}

module _ (n : NetModel) (owners : List ℕ) (width workers worker k : ℕ) (share ran_share last_share : Share) (state : TakerState) (pushed pushes_now : ℕ → List Carried) (more : List Item) (outgoing : List RadioCopy)
    (promise : WorkerRunsMarked n owners width k workers worker share state pushed)
    (window : RunsWindow n owners worker (bound width n.end k) (bound width n.end (suc k)) (promise.history.motes k) (promise.history.arrived k) ran_share outgoing)
    (goes : Each (IsOutgoing n owners worker) outgoing)
    (lead : (s : ℕ) → s < state.made → suc k ≤ marks_in (part s (state.taken ++ more)))
    (of_made : OfMade state.made (state.taken ++ more))
    (pushes_more : (v : ℕ) → v < workers → v ≢ worker → pushes_now v ≡ pushed v ++ (map Packet (filter (is_to owners v) outgoing) ++ Mark k ∷ []))
    (keeps : IsWholeShare n owners worker (bound width n.end (suc k)) window.next (promise.history.arrived k ++ expected_in (position owners worker (bound width n.end (suc k))) more) last_share) where
  motes_ran : RunsMotes n owners worker (bound width n.end k) (bound width n.end (suc k)) (promise.history.motes k) window.next (promise.history.arrived k) outgoing
  motes_ran = record { runs = window.runs; out = window.out; goes = goes; late = window.late }

  abbrev now : WorkerHistory
  now = longer n owners width workers worker state.made k state.taken more pushed pushes_now promise.history window.next outgoing

  -- the window was run, its copies and its mark were pushed, and more items were taken until all marks of the window
  -- had arrived
  pub promise_next : WorkerRunsMarked n owners width (suc k) workers worker last_share (make_taker_state state.marked state.made (state.taken ++ more) state.gathered) pushes_now
  promise_next = record {
    history = now;
    ran = runs_longer n owners width workers worker state.made k state.taken more pushed pushes_now promise.history window.next outgoing promise.ran motes_ran lead of_made pushes_more;
    keeps = subst (λ m. IsWholeShare n owners worker (bound width n.end (suc k)) m (now.arrived (suc k)) last_share) (sym (edit_same promise.history.motes (suc k) window.next))
        (subst (λ l. IsWholeShare n owners worker (bound width n.end (suc k)) window.next l last_share) (sym (edit_same promise.history.arrived (suc k) (promise.history.arrived k ++ expected_in (position owners worker (bound width n.end (suc k))) more))) keeps);
    nobody = promise.nobody;
  }

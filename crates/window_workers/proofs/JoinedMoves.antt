-- A window of all workers leads all of them to its end.
use Rattle.std.proofs.Common.{◌≡◌, ℕ, ◌+◌, ◌<◌, ◌≤◌, List, length, map, get_or, sym, ap, subst, Some}
use Rattle.std.specs.List.{zip, slice_get, AllByRecursion as Each}
use Rattle.copy_exchange.specs.Crossed.{IsExpected}
use Rattle.copy_exchange.specs.Endpoints.{StartsAs, GathersDelivered}
use Rattle.copy_exchange.specs.Takers.{taken_by}
use Rattle.copy_exchange.specs.declared.endpoint.Endpoint.{Endpoint}
use Rattle.copy_inbox.specs.Handles.{TakerView}
use Rattle.copy_inbox.specs.Items.{copies_of}
use Rattle.mote_net.specs.Net.{NetModel}
use Rattle.net_agenda.specs.NetSystem.{system_of}
use Rattle.window_workers.specs.JoinedLaws.{GroupRunsUntil}
use Rattle.window_workers.specs.JoinedWorker.{RunsWorker}
use Rattle.window_workers.specs.Worker.{make_worker}
use Rattle.window_workers.specs.WorkerGroup.{WorkersAreAt, IsWorkerAt}
use Rattle.window_workers.specs.declared.group.WorkerGroup.{WorkerGroup}
use Rattle.window_workers.specs.declared.worker.Worker.{Worker}
use Rattle.worker_window.specs.Share.{IsWholeShare}
use Rattle.worker_window.specs.Window.{RunsWindow}
use Rattle.worker_window.specs.declared.share.Share.{Share}
use Rattle.window_workers.proofs.Lookups.{there, read, mapped, paired, beside, as_long}
use Rattle.window_workers.proofs.Numbered.{numbered}
use Rattle.window_workers.proofs.JoinedReady.{arrived_come}

module _ (n : NetModel) (owners : List ℕ) (from until : ℕ) (old new : WorkerGroup) (at : WorkersAreAt n owners from old) (all : GroupRunsUntil n owners until old new) where
  -- one worker in the window: its old state and its new one
  pub record Piece (v : ℕ) : Type 0 where
    pub share : Share
    pub taker : TakerView
    pub endpoint : Endpoint
    pub done : Worker
    pub gathering : TakerView
    pub done_at : slice_get all.done v ≡ Some done
    pub gathering_at : slice_get new.takers.items v ≡ Some gathering
    pub here : IsWorkerAt n owners from at.motes old.first_out v share taker
    pub starts : StartsAs taker endpoint
    pub number : endpoint.worker ≡ v
    pub ran : RunsWorker n owners old.inboxes.items until (make_worker (share, endpoint)) done
    pub came : GathersDelivered (map (λ (worker : Worker). worker.endpoint) all.done) done.endpoint gathering

  takers_long : length old.takers.items ≡ length old.inboxes.items
  takers_long = as_long _ old.inboxes.items old.takers.items at.settled

  pub piece : (v : ℕ) → v < length old.inboxes.items → Piece v
  piece v h =
      let s = there old.shares.items v (subst (λ l. v < l) (sym at.shares) h) in
      let t = there old.takers.items v (subst (λ l. v < l) (sym takers_long) h) in
      let c = beside StartsAs old.takers.items all.endpoints all.starts v t.0 t.1 in
      let d = beside _ _ all.done all.ran v (make_worker (s.0, c.0)) (mapped make_worker (zip old.shares.items all.endpoints) v (s.0, c.0) (paired old.shares.items all.endpoints v s.0 c.0 s.1 c.1)) in
      let g = beside _ _ new.takers.items all.gathering v d.0.endpoint (mapped (λ (worker : Worker). worker.endpoint) all.done v d.0 d.1) in
      let is_share = read old.shares.items v s.0 s.0 s.1 in
      let is_taker = read old.takers.items v t.0 t.0 t.1 in
      record {
        share = s.0;
        taker = t.0;
        endpoint = c.0;
        done = d.0;
        gathering = g.0;
        done_at = d.1;
        gathering_at = g.1;
        here = subst (λ x. IsWorkerAt n owners from at.motes old.first_out v x t.0) is_share (subst (λ x. IsWorkerAt n owners from at.motes old.first_out v (get_or old.shares.items v s.0) x) is_taker (at.each v h s.0 t.0));
        starts = c.2;
        number = numbered (length old.inboxes.items) all.endpoints all.together.workers v h c.0 c.1;
        ran = d.2;
        came = g.2;
      }

  module _ (short : until ≤ from + (system_of n).lookahead) (up : from ≤ until) (v : ℕ) (p : Piece v) where
    taken_same : taken_by p.endpoint.taker ≡ taken_by p.taker
    taken_same = ap copies_of p.starts.same_taken

    pub comes : Each (IsExpected owners v from) p.ran.arrived
    comes = arrived_come n owners from at.motes old.first_out v p.share p.taker p.here at.first p.endpoint p.starts p.ran.between p.ran.arrived p.ran.collects

    pub window : RunsWindow n owners v from until at.motes (taken_by p.done.endpoint.taker) p.done.share p.ran.outgoing
    window =
        subst (λ w. RunsWindow n owners w from until at.motes (taken_by p.done.endpoint.taker) p.done.share p.ran.outgoing) p.number
        (p.ran.runs from at.motes
        (subst (λ w. IsWholeShare n owners w from at.motes (taken_by p.endpoint.taker) p.share) (sym p.number) (subst (λ t. IsWholeShare n owners v from at.motes t p.share) (sym taken_same) p.here.keeps))
        up short
        (subst (λ w. Each (IsExpected owners w from) p.ran.arrived) (sym p.number) comes))

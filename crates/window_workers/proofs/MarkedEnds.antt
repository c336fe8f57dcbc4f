-- The promises of all threads together show that all workers are at the end.
use Rattle.std.proofs.Common.{◌≡◌, ◌≢◌, ℕ, suc, ◌<◌, ◌≤◌, false, List, [], length, get_or, refl, sym, ap, ◌∙◌, subst, inl, inr, arith, append-nil, Option, Some, None}
use Rattle.std.proofs.lemmas.Bool.{cases_Bool, false≢true}
use Rattle.std.specs.List.{slice_get, AllByRecursion as Each}
use Rattle.copy_exchange.proofs.AfterWindow.{zip_each}
use Rattle.copy_exchange.proofs.Early.{copies_pushes}
use Rattle.copy_exchange.proofs.Gathers.{OneOf, with_joined, gather_is}
use Rattle.copy_exchange.proofs.Parts.{from}
use Rattle.copy_exchange.specs.Crossed.{is_own, crossed}
use Rattle.copy_exchange.specs.Endpoints.{pushed_list}
use Rattle.copy_exchange.specs.Inboxes.{IsSettled}
use Rattle.copy_exchange.specs.Takers.{copies_in, taken_by, gathered_by, IsOrderly}
use Rattle.copy_inbox.specs.Gathered.{Whole}
use Rattle.copy_inbox.specs.Handles.{InboxId, TakerView, SenderView, AllGathered, PacketsLeft}
use Rattle.copy_inbox.specs.Items.{copies_of, part, HasPrefix}
use Rattle.copy_inbox.specs.Views.{make_taker_state}
use Rattle.copy_inbox.specs.declared.rule.TakerState.{TakerState}
use Rattle.mote_net.specs.Net.{NetModel}
use Rattle.net_agenda.specs.NetSystem.{system_of}
use Rattle.window_laws.specs.Forward.{RunsForward}
use Rattle.window_laws.specs.Windows.{first_mote, Windows, NoneBefore}
use Rattle.window_workers.specs.MarkedAtEnd.{EndsMarked, EndAllMarked}
use Rattle.window_workers.specs.MarkedBounds.{bound, AreWindows}
use Rattle.window_workers.specs.MarkedSenders.{AreSenders}
use Rattle.window_workers.specs.MarkedWorkerHistory.{WorkerHistory, WorkerRunsWindows}
use Rattle.window_workers.specs.WorkerGroup.{WorkersAreAt, IsWorkerAt}
use Rattle.window_workers.specs.declared.group.WorkerGroup.{WorkerGroup}
use Rattle.worker_window.specs.Share.{Motes, IsWholeShare}
use Rattle.worker_window.specs.declared.share.Share.{Share}
use Rattle.window_workers.proofs.MarkedAll.{AllRan}
use Rattle.window_workers.proofs.Choose.{choose}
use Rattle.window_workers.proofs.Lookups.{there, inside, read, same_found, each_at, each_from}
use Rattle.window_workers.proofs.Same.{keeps_same}
use Rattle.window_workers.proofs.Step.{own_of, own_by}
use Rattle.window_workers.proofs.MarkedBounds.{at_the_end}
use Rattle.window_workers.proofs.MarkedExpected.{all_arrived}
use Rattle.window_workers.proofs.MarkedPairs.{not_other, pair, copies_from, copies_none}
use Rattle.window_workers.proofs.MarkedSeen.{nobodys, sent_so_far, of_worker, of_nobody}
use Rattle.window_workers.proofs.MarkedSettles.{pair_taken, all_taken, one, gathered_all, whole_then, no_mark, orderly}
use Rattle.window_workers.proofs.MarkedSettles.{same_of_each}
use Rattle.window_workers.proofs.MarkedStages.{stage, own_stage, Reached, reached}

module _ (n : NetModel) (owners : List ℕ) (width windows : ℕ) (group : WorkerGroup) (h : EndAllMarked n owners width windows group) where
  abbrev workers : ℕ
  workers = length group.inboxes.items

  -- one worker: its taker's state before it gathered, the senders that it gathered, and the copies that it saw
  record Part : Type 0 where
    state : TakerState
    senders : List SenderView
    history : WorkerHistory

  record IsPart (v : ℕ) (z : Part) : Type 0 where
    share : Share
    taker : TakerView
    share_at : slice_get group.shares.items v ≡ Some share
    taker_at : slice_get group.takers.items v ≡ Some taker
    ran : WorkerRunsWindows n owners width windows workers v z.state.made z.state.taken (λ u. pushed_list (h.sender u v)) z.history
    keeps : IsWholeShare n owners v (bound width n.end windows) (z.history.motes windows) (z.history.arrived windows) share
    are_senders : AreSenders workers v (h.sender v) z.state.made z.senders
    begun : Each (λ (s : SenderView). HasPrefix s.state.pushed (part s.state.number z.state.taken)) z.senders
    inbox : InboxId
    taker_is : taker ≡ record { inbox = inbox; state = with_joined z.senders (record z.state { gathered = [] }) }

  is_part : (v : ℕ) → v < workers → (z : Part) × IsPart v z
  is_part v low =
      let s = there group.shares.items v (subst (λ l. v < l) (sym h.shares) low) in
      let t = there group.takers.items v (subst (λ l. v < l) (sym h.takers) low) in
      let e : EndsMarked n owners width windows workers h.sender v s.0 t.0 = subst (λ x. EndsMarked n owners width windows workers h.sender v x t.0) (read group.shares.items v s.0 s.0 s.1)
      (subst (λ x. EndsMarked n owners width windows workers h.sender v (get_or group.shares.items v s.0) x) (read group.takers.items v t.0 t.0 t.1) (h.each_worker v low s.0 t.0)) in (
        record { state = e.before.state; senders = e.senders; history = e.promise.history },
        record {
          share = s.0;
          taker = t.0;
          share_at = s.1;
          taker_at = t.1;
          ran = e.promise.ran;
          keeps = e.promise.keeps;
          are_senders = e.are_senders;
          begun = e.begun;
          inbox = e.before.inbox;
          taker_is =
              e.gathered
              ∙ (gather_is e.before e.senders
              ∙ ap (λ g. record { inbox = e.before.inbox; state = with_joined e.senders (record e.before.state { gathered = g }) }) e.promise.nobody);
        },
      )

  no_part : Part
  no_part = record {
    state = make_taker_state false 0 [] [];
    senders = [];
    history = record { motes = λ k. first_mote (system_of n); taken = λ k. []; arrived = λ k. []; outgoing = λ k. [] };
  }

  parts : (f : ℕ → Part) × ((v : ℕ) → v < workers → IsPart v (f v))
  parts = choose no_part IsPart workers is_part

  abbrev all : AllRan n owners width windows workers
  all = record {
    made = λ v. (parts.0 v).state.made;
    taken = λ v. (parts.0 v).state.taken;
    sender = h.sender;
    senders = λ u. (parts.0 u).senders;
    histories = λ v. (parts.0 v).history;
    ran = λ v low. (parts.1 v low).ran;
    are_senders = λ u low. (parts.1 u low).are_senders;
    begun = λ u low. (parts.1 u low).begun;
  }

  module _ (fine : RunsForward (system_of n)) (short : width ≤ (system_of n).lookahead) (are : AreWindows width n.end windows) where
    abbrev motes : Motes
    motes = stage n fine owners width windows workers all h.cut are short windows

    there_at_last : Reached n fine owners width windows workers all h.cut are short windows
    there_at_last = reached n fine owners width windows workers all h.cut are short windows (omega arith)

    at_last : bound width n.end windows ≡ suc n.end
    at_last = at_the_end width n.end windows are

    module _ (v : ℕ) (low : v < workers) where
      abbrev z : Part
      z = parts.0 v

      p : IsPart v z
      p = parts.1 v low

      all_had : (s : ℕ) → from s (copies_of (z.history.taken windows)) ≡ from s (copies_of z.state.taken)
      all_had s = ap (λ l. from s (copies_of l)) p.ran.all

      arrived_all : z.history.arrived windows ≡ copies_of z.state.taken
      arrived_all = all_arrived n owners width windows workers all are v low windows (omega arith) ∙ ap copies_of p.ran.all

      -- the copies taken from motes of other workers are all copies that were sent to this worker
      had_all : (s : ℕ) → is_own owners v s ≡ false → (o : Option ℕ) → slice_get owners s ≡ o → from s (copies_of z.state.taken) ≡ from s (sent_so_far n owners width windows workers all h.cut are v windows)
      had_all s other None e =
          sym (all_had s)
          ∙ (copies_none n owners width windows workers all v low windows (omega arith) s (λ w lw nw. nobodys owners w s e)
          ∙ sym (of_nobody n owners width windows workers all h.cut are v windows s (omega arith) e))
      had_all s other (Some w) e =
          let lw = each_at (λ x. x < workers) owners s w h.cut.there e in
          let ne : w ≢ v = λ same. false≢true (sym other ∙ own_by owners v s (e ∙ ap Some same)) in
          let number : ℕ = (pair n owners width windows workers all v w low lw ne).number in
          sym (all_had s)
          ∙ (copies_from n owners width windows workers all v low windows (omega arith) s w lw ne e
          ∙ (ap (λ l. from s (copies_in (part number l))) p.ran.all
          ∙ (ap (λ l. from s (copies_in l)) (pair_taken n owners width windows workers all v low w lw ne)
          ∙ (ap (from s) (copies_pushes windows _) ∙ sym (of_worker n owners width windows workers all h.cut are v windows s w (omega arith) lw e)))))

      crossed_is : (s : ℕ) → from s (copies_of z.state.taken) ≡ crossed (system_of n) owners motes v s
      crossed_is s = elim (cases_Bool (is_own owners v s)) [
        | inl e ↦ rw e (sym (all_had s) ∙ copies_none n owners width windows workers all v low windows (omega arith) s (λ w lw nw. not_other owners v w s (own_of owners v s e) (λ q. nw (sym q))))
        | inr e ↦ had_all s e (slice_get owners s) refl ∙ there_at_last.matches v low s
      ]

      its_one : (s : ℕ) → OneOf s z.senders
      its_one = one n owners width windows workers all v low h.cut

      taken_gathered : (s : ℕ) → from s (taken_by p.taker) ≡ from s (gathered_by p.taker)
      taken_gathered s =
          subst (λ t. from s (taken_by t) ≡ from s (gathered_by t)) (sym p.taker_is)
          (same_of_each workers v (h.sender v) z.state z.senders p.are_senders p.ran.of_made p.begun (all_taken n owners width windows workers all v low) its_one s)

      at_worker : IsWorkerAt n owners (suc n.end) motes group.first_out v p.share p.taker
      at_worker = record {
        keeps = subst (λ l. IsWholeShare n owners v (suc n.end) motes l p.share) (sym (ap taken_by p.taker_is))
            (keeps_same n owners v (z.history.motes windows) motes (own_stage n fine owners width windows workers all h.cut are short v low windows) (suc n.end) (copies_of z.state.taken) p.share
            (subst (λ t. IsWholeShare n owners v t (z.history.motes windows) (copies_of z.state.taken) p.share) at_last (subst (λ l. IsWholeShare n owners v (bound width n.end windows) (z.history.motes windows) l p.share) arrived_all p.keeps)));
        gathered = λ s. sym (taken_gathered s) ∙ (ap (λ t. from s (taken_by t)) p.taker_is ∙ crossed_is s);
        waits = λ s. record { rest = []; all = sym (append-nil (from s (taken_by p.taker)) ∙ taken_gathered s); later = tt };
      }

      whole_at : Whole p.taker.state.gathered p.taker.state.taken
      whole_at = subst (λ (t : TakerView). Whole t.state.gathered t.state.taken) (sym p.taker_is)
          (whole_then workers v (h.sender v) z.state z.senders p.are_senders p.ran.of_made p.begun (all_taken n owners width windows workers all v low) its_one)

      settled_one : (id : InboxId) (taker : TakerView) → IsSettled (get_or group.inboxes.items v id) (get_or group.takers.items v taker)
      settled_one id taker =
          let is = read group.takers.items v p.taker taker p.taker_at in
          subst (IsSettled (get_or group.inboxes.items v id)) (sym is) (record {
            its = ap (λ (t : TakerView). t.inbox) (sym is) ∙ h.inbox_of_taker v id taker low;
            orderly = subst (λ (t : TakerView). IsOrderly t.state) (sym p.taker_is) (orderly workers v (h.sender v) z.state z.senders p.are_senders p.ran.of_made p.begun (all_taken n owners width windows workers all v low) its_one);
            no_mark = subst (λ (t : TakerView). PacketsLeft t.state) (sym p.taker_is) (no_mark workers v (h.sender v) z.state z.senders p.are_senders p.ran.of_made p.begun (all_taken n owners width windows workers all v low) its_one);
            all = subst (λ (t : TakerView). AllGathered t.state) (sym p.taker_is) (gathered_all workers v (h.sender v) z.state z.senders p.are_senders p.ran.of_made p.begun (all_taken n owners width windows workers all v low) its_one);
          })

      worker_at : (share : Share) (taker : TakerView) → IsWorkerAt n owners (suc n.end) motes group.first_out v (get_or group.shares.items v share) (get_or group.takers.items v taker)
      worker_at share taker =
          subst (λ x. IsWorkerAt n owners (suc n.end) motes group.first_out v x (get_or group.takers.items v taker)) (sym (read group.shares.items v p.share share p.share_at))
          (subst (λ x. IsWorkerAt n owners (suc n.end) motes group.first_out v p.share x) (sym (read group.takers.items v p.taker taker p.taker_at)) at_worker)

    pub all_at_end : WorkersAreAt n owners (suc n.end) group
    all_at_end = record {
      motes = motes;
      led = subst (λ t. Windows (system_of n) 0 t (first_mote (system_of n)) motes) at_last there_at_last.led;
      cut = h.cut;
      shares = h.shares;
      settled = zip_each IsSettled group.inboxes.items group.takers.items h.takers (λ v id taker low. settled_one v low id taker);
      first = subst (NoneBefore (suc n.end)) (sym h.first_out) tt;
      each = λ v low share taker. worker_at v low share taker;
    }

    pub all_whole : Each (λ (t : TakerView). Whole t.state.gathered t.state.taken) group.takers.items
    unfolding parts p
    all_whole = each_from _ group.takers.items (λ v t e.
        let low : v < workers = subst (λ l. v < l) h.takers (inside group.takers.items v t e) in
        let p : IsPart v (parts.0 v) = parts.1 v low in
        subst (λ (x : TakerView). Whole x.state.gathered x.state.taken) (same_found (slice_get group.takers.items v) p.taker t p.taker_at e) (whole_at v low))

pub ends : (n : NetModel) → RunsForward (system_of n) → (owners : List ℕ) (width windows : ℕ) → width ≤ (system_of n).lookahead → AreWindows width n.end windows
    → (group : WorkerGroup) → EndAllMarked n owners width windows group → WorkersAreAt n owners (suc n.end) group × Each (λ (t : TakerView). Whole t.state.gathered t.state.taken) group.takers.items
ends n fine owners width windows short are group all = (all_at_end n owners width windows group all fine short are, all_whole n owners width windows group all fine short are)

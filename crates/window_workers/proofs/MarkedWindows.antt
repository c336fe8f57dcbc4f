-- The windows of a worker, one after another, and the effect of each by the promise of its thread.
use Rattle.std.proofs.Common.{◌≡◌, ◌≢◌, ◌==◌, ℕ, suc, ◌<◌, ◌≤◌, List, [], ◌∷◌, ◌++◌, length, get_or, map, refl, sym, ap, ◌∙◌, subst, arith, None, true}
use Rattle.std.proofs.lemmas.Bool.{ne_eqb}
use Rattle.std.specs.List.{filter, AllByRecursion as Each}
use Rattle.copy_exchange.proofs.Delivered.{stays_on}
use Rattle.copy_exchange.proofs.Expected.{passes_expected}
use Rattle.copy_exchange.proofs.Marked.{stays_same}
use Rattle.copy_exchange.specs.Crossed.{is_to, IsExpected}
use Rattle.copy_exchange.specs.Endpoints.{IsOnInboxes, Stays, pushed_list, pushed_to}
use Rattle.copy_exchange.specs.Expected.{expected_in, is_expected, position}
use Rattle.copy_exchange.specs.Pushes.{marks_in}
use Rattle.copy_inbox.proofs.Parts.{part-append, part-else}
use Rattle.copy_inbox.specs.Handles.{InboxId, TakerView, after_taking}
use Rattle.copy_inbox.specs.Items.{copies_of, part, OfMade}
use Rattle.copy_inbox.specs.declared.items.Carried.{Carried}
use Rattle.copy_inbox.specs.declared.items.Item.{Item}
use Rattle.copy_inbox.specs.declared.rule.TakerState.{TakerState}
use Rattle.mote_net.specs.Net.{NetModel}
use Rattle.net_agenda.specs.NetSystem.{system_of}
use Rattle.radio_packet.specs.declared.copy.RadioCopy.{RadioCopy}
use Rattle.window_laws.proofs.Lists.{every_passes, every_weaker}
use Rattle.window_workers.specs.MarkedBounds.{bound, windows_of, AreWindows}
use Rattle.window_workers.specs.MarkedThread.{IsBeforeFirstWindow, SendsWindow, TakesWindow, WorkerRunsAllWindows}
use Rattle.window_workers.specs.MarkedWorkerHistory.{WorkerRunsMarked}
use Rattle.window_workers.specs.WorkerGroup.{IsCut}
use Rattle.window_workers.specs.declared.worker.Worker.{Worker}
use Rattle.worker_window.specs.Share.{IsWholeShare}
use Rattle.worker_window.specs.Window.{CanRun, IsOutgoing, RunsWindow}
use Rattle.copy_inbox.specs.declared.items.Carried.TheVariants.{Packet, Mark}
use Rattle.copy_exchange.proofs.MarksDelivered.{takes_stays, takes_on_inboxes}
use Rattle.window_workers.proofs.MarkedBounds.{are_windows, begins_before, no_wider}
use Rattle.window_workers.proofs.MarkedPromise.{promise_first, promise_next}

-- items from senders that were made contain no items from another sender
none_of_others : (made : ℕ) (xs : List Item) → Each (λ (x : Item). x.sender < made) xs → OfMade made xs
none_of_others made [] h s le = refl
none_of_others made (x ∷ xs) h s le =
    let low = h.0 in
    part-else s x xs (λ e. absurd (omega arith)) ∙ none_of_others made xs h.1 s le

of_made_more : (made : ℕ) (xs ys : List Item) → OfMade made xs → Each (λ (x : Item). x.sender < made) ys → OfMade made (xs ++ ys)
of_made_more made xs ys h more s le = part-append s xs ys ∙ (ap (λ l. l ++ part s ys) (h s le) ∙ none_of_others made ys more s le)

-- the promise before the first window
pub no_window : (n : NetModel) (owners : List ℕ) (width : ℕ) (inboxes : List InboxId) (w : Worker)
    → IsBeforeFirstWindow n owners inboxes w → WorkerRunsAllWindows n owners width 0 inboxes w w
no_window n owners width inboxes w m = record {
  stays = stays_same w.endpoint;
  promise = subst (λ (p : ℕ → List Carried). WorkerRunsMarked n owners width 0 (length inboxes) w.endpoint.worker w.share
      w.endpoint.taker.state p)
      (λ i v. sym (m.none_pushed v) i)
      (promise_first n owners width (length inboxes) w.endpoint.worker w.share w.endpoint.taker.state m.none_taken
      m.none_gathered m.keeps);
  on_inboxes = m.on_inboxes;
}

-- a worker after some windows
module _ (n : NetModel) (owners : List ℕ) (width k until : ℕ) (inboxes : List InboxId) (wide : 0 < width) (low : k < windows_of width n.end) (at : until ≡ bound width n.end (suc k)) (first old : Worker)
    (in_state : WorkerRunsAllWindows n owners width k inboxes first old) where
  are : AreWindows width n.end (windows_of width n.end)
  are = are_windows width n.end wide

  up : bound width n.end k ≤ until
  up = let b = begins_before width n.end (windows_of width n.end) are k low in let e = at in omega arith

  -- after that, the worker has run one more window
  module _ (short : width ≤ (system_of n).lookahead) (between new : Worker) (marks : List ℕ) (sends : SendsWindow n owners (length inboxes) k until old between) (on_inboxes : IsOnInboxes inboxes between.endpoint) (takes : TakesWindow owners k until between new marks) where
    abbrev worker : ℕ
    worker = first.endpoint.worker

    abbrev state : TakerState
    state = old.endpoint.taker.state

    abbrev more : List Item
    more = takes.took.items

    ran : RunsWindow n owners worker (bound width n.end k) until (in_state.promise.history.motes k) (in_state.promise.history.arrived k) between.share sends.outgoing
    ran =
        let b = no_wider width n.end (windows_of width n.end) are k low in
        let e = at in
        let s = short in
        sends.runs worker (bound width n.end k) (in_state.promise.history.motes k) (in_state.promise.history.arrived k) in_state.promise.keeps up (omega arith)

    goes : Each (IsOutgoing n owners worker) sends.outgoing
    goes = subst (λ w. Each (IsOutgoing n owners w) sends.outgoing) in_state.promise.keeps.is_worker sends.out

    taker_is : new.endpoint.taker ≡ after_taking old.endpoint.taker more
    taker_is = takes.took.taker ∙ ap (λ t. after_taking t more) sends.pushes.taker

    between_made : between.endpoint.taker.state.made ≡ state.made
    between_made = ap (λ (t : TakerView). t.state.made) sends.pushes.taker

    of_made : OfMade state.made (state.taken ++ more)
    of_made = of_made_more state.made state.taken more in_state.promise.ran.of_made (subst (λ m. Each (λ (x : Item). x.sender < m) more) between_made takes.took.made)

    lead : (s : ℕ) → s < state.made → suc k ≤ marks_in (part s (state.taken ++ more))
    lead s there =
        let made : new.endpoint.taker.state.made ≡ state.made = ap (λ (t : TakerView). t.state.made) taker_is in
        let taken : new.endpoint.taker.state.taken ≡ state.taken ++ more = ap (λ (t : TakerView). t.state.taken) taker_is in
        let all = takes.counts.all in
        let counted = takes.counts.each s 0 (omega arith) ∙ ap (λ l. marks_in (part s l)) taken in
        let past = takes.past s 0 (omega arith) in
        omega arith

    pushes_more : (v : ℕ) → v < length inboxes → v ≢ worker → pushed_to new.endpoint v ≡ pushed_to old.endpoint v ++ (map Packet (filter (is_to owners v) sends.outgoing) ++ Mark k ∷ [])
    pushes_more v there other =
        ap (λ s. pushed_list (get_or s.items v None)) takes.senders
        ∙ sends.pushes.pushes v there (ap (λ w. v == w) in_state.stays.worker ∙ ne_eqb v worker other)

    abbrev arrived_by : ℕ → List RadioCopy
    arrived_by t = expected_in (position owners worker t) more

    arrived_is : takes.arrived ≡ arrived_by until
    arrived_is = takes.took.arrived ∙ ap (λ w. expected_in (position owners w until) more) (sends.pushes.stays.worker ∙ in_state.stays.worker)

    arrived_come : Each (IsExpected owners worker until) takes.arrived
    arrived_come = subst (λ l. Each (IsExpected owners worker until) l) (sym arrived_is)
        (every_weaker (λ c. is_expected (position owners worker until) c ≡ true) (IsExpected owners worker until) (passes_expected (position owners worker until)) (arrived_by until)
        (every_passes (is_expected (position owners worker until)) (copies_of more)))

    keeps : IsWholeShare n owners worker until ran.next (in_state.promise.history.arrived k ++ arrived_by until) new.share
    keeps = subst (λ l. IsWholeShare n owners worker until ran.next (in_state.promise.history.arrived k ++ l) new.share) arrived_is
        (takes.keeps n owners worker until ran.next (in_state.promise.history.arrived k) ran.keeps arrived_come)

    stays : Stays old.endpoint new.endpoint
    stays = stays_on old.endpoint between.endpoint new.endpoint sends.pushes.stays
        (takes_stays owners until between.endpoint new.endpoint takes.arrived takes.took takes.worker takes.senders)

    pub one_more : WorkerRunsAllWindows n owners width (suc k) inboxes first new
    one_more = record {
      stays = stays_on first.endpoint old.endpoint new.endpoint in_state.stays stays;
      promise = subst (λ (t : TakerView). WorkerRunsMarked n owners width (suc k) (length inboxes) worker new.share t.state (pushed_to new.endpoint)) (sym taker_is) promise;
      on_inboxes = takes_on_inboxes inboxes owners until between.endpoint new.endpoint takes.arrived takes.took takes.worker takes.senders on_inboxes;
    }
      where
        Ran : ℕ → Type 0
        Ran t = (r : RunsWindow n owners worker (bound width n.end k) t (in_state.promise.history.motes k) (in_state.promise.history.arrived k) between.share sends.outgoing)
            × IsWholeShare n owners worker t r.next (in_state.promise.history.arrived k ++ arrived_by t) new.share

        ran_to : Ran (bound width n.end (suc k))
        ran_to = subst Ran at (ran, keeps)

        promise : WorkerRunsMarked n owners width (suc k) (length inboxes) worker new.share (after_taking old.endpoint.taker more).state (pushed_to new.endpoint)
        promise = promise_next n owners width (length inboxes) worker k old.share between.share new.share state (pushed_to old.endpoint) (pushed_to new.endpoint) more sends.outgoing in_state.promise ran_to.0 goes lead of_made pushes_more ran_to.1

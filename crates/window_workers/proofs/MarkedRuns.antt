-- All workers at the end of their threads, put together.
use Rattle.std.proofs.Common.{◌≡◌, ℕ, suc, ◌<◌, ◌≤◌, List, [], ◌∷◌, length, map, get_or, refl, sym, ap, ◌∙◌, subst, Option, Some}
use Rattle.std.proofs.lemmas.List.{length-map}
use Rattle.std.proofs.lemmas.List.FromFn.{length-range_with_len}
use Rattle.std.specs.List.{slice_get, range_with_len, AllZip, AllByRecursion as Each}
use Rattle.copy_exchange.proofs.AfterWindow.{same_workers}
use Rattle.copy_exchange.proofs.Gathers.{gather_is}
use Rattle.copy_exchange.proofs.Open.{SendersOfOthers, are_senders, sender_of, sender_is}
use Rattle.copy_exchange.specs.Endpoints.{IsOnInboxes, Stays, Together, pushed_list, pushed_to, senders_to}
use Rattle.copy_exchange.specs.declared.endpoint.Endpoint.{Endpoint}
use Rattle.copy_inbox.specs.Gathered.{Whole}
use Rattle.copy_inbox.specs.Handles.{InboxId, TakerView, SenderView, after_gather}
use Rattle.copy_inbox.specs.Items.{HasPrefix, part}
use Rattle.copy_inbox.specs.declared.items.Carried.{Carried}
use Rattle.mote_net.specs.Net.{NetModel}
use Rattle.net_agenda.specs.NetSystem.{system_of}
use Rattle.window_laws.proofs.Lists.{every_weaker}
use Rattle.window_laws.specs.Forward.{RunsForward}
use Rattle.window_workers.specs.MarkedAtEnd.{EndsMarked, EndAllMarked}
use Rattle.window_workers.specs.MarkedBounds.{windows_of}
use Rattle.window_workers.specs.MarkedRun.{GroupRunsMarked, endpoints_of}
use Rattle.window_workers.specs.MarkedSenders.{AreSenders}
use Rattle.window_workers.specs.MarkedThread.{WorkerRunsAllWindows}
use Rattle.window_workers.specs.MarkedWorkerHistory.{WorkerRunsMarked}
use Rattle.window_workers.specs.WorkerGroup.{WorkersAreAt, IsCut}
use Rattle.window_workers.specs.declared.group.WorkerGroup.{WorkerGroup}
use Rattle.window_workers.specs.declared.worker.Worker.{Worker}
use Rattle.worker_window.specs.declared.share.Share.{Share}
use Rattle.copy_exchange.specs.Steps.{AgreesWithSender, gather_senders}
use Rattle.window_workers.proofs.Lookups.{there, read, mapped, beside, as_long}
use Rattle.window_workers.proofs.Numbered.{numbered}
use Rattle.window_workers.proofs.MarkedBounds.{are_windows}
use Rattle.window_workers.proofs.MarkedEnds.{ends}

of_others : (workers worker : ℕ) (sender : ℕ → Option SenderView) (made : ℕ) (senders : List SenderView) → SendersOfOthers workers worker sender made senders → AreSenders workers worker sender made senders
of_others workers worker sender made senders h = record { numbered = h.numbered; made_is = h.made_is; others = h.others; of_worker = h.of_worker; worker_of = h.worker_of }

module _ (n : NetModel) (owners : List ℕ) (width windows : ℕ) (inboxes : List InboxId) where
  all_stay : (xs ys : List Worker) → AllZip (WorkerRunsAllWindows n owners width windows inboxes) xs ys → AllZip Stays (endpoints_of xs) (endpoints_of ys)
  all_stay [] [] h = tt
  all_stay [] (y ∷ ys) h = h
  all_stay (x ∷ xs) [] h = h
  all_stay (x ∷ xs) (y ∷ ys) h = (h.0.stays, all_stay xs ys h.1)

  pub all_on_inboxes : (xs ys : List Worker) → AllZip (WorkerRunsAllWindows n owners width windows inboxes) xs ys → Each (IsOnInboxes inboxes) (endpoints_of ys)
  all_on_inboxes [] [] h = tt
  all_on_inboxes [] (y ∷ ys) h = absurd h
  all_on_inboxes (x ∷ xs) [] h = tt
  all_on_inboxes (x ∷ xs) (y ∷ ys) h = (h.0.on_inboxes, all_on_inboxes xs ys h.1)

  -- the endpoints at the end; each is the endpoint of its worker
  pub all_back : (xs ys : List Worker) → Together inboxes (endpoints_of xs) → AllZip (WorkerRunsAllWindows n owners width windows inboxes) xs ys
      → map (λ (c : Endpoint). c.worker) (endpoints_of ys) ≡ range_with_len 0 (length inboxes)
  all_back xs ys together ran = same_workers (endpoints_of xs) (endpoints_of ys) (all_stay xs ys ran) ∙ together.workers

module _ (n : NetModel) (owners : List ℕ) (width : ℕ) (old new : WorkerGroup) (cut : IsCut (length n.motes) (length new.inboxes.items) owners) (ran : GroupRunsMarked n owners width old new) where
  abbrev ids : List InboxId
  ids = new.inboxes.items

  abbrev starts : List Endpoint
  starts = endpoints_of ran.first

  abbrev back : List Endpoint
  back = endpoints_of ran.done

  first_long : length ran.first ≡ length ids
  first_long = sym (length-map ran.first (λ (x : Worker). x.endpoint)) ∙ (sym (length-map starts (λ (c : Endpoint). c.worker)) ∙ (ap length ran.together.workers ∙ length-range_with_len 0 (length ids)))

  done_long : length ran.done ≡ length ids
  done_long = as_long _ ran.first ran.done ran.ran ∙ first_long

  stays : AllZip Stays starts back
  stays = all_stay n owners width (windows_of width n.end) ids ran.first ran.done ran.ran

  on_inboxes : Each (IsOnInboxes ids) back
  on_inboxes = all_on_inboxes n owners width (windows_of width n.end) ids ran.first ran.done ran.ran

  -- one worker, its number, and its taker
  module _ (v : ℕ) (low : v < length ids) (w : Worker) (at_first : slice_get ran.first v ≡ Some w) (d : Worker) (at_done : slice_get ran.done v ≡ Some d)
      (has_run : WorkerRunsAllWindows n owners width (windows_of width n.end) ids w d) (t : TakerView) (at_taker : slice_get new.takers.items v ≡ Some t) where
    its : w.endpoint.worker ≡ v
    its = numbered (length ids) starts ran.together.workers v low w.endpoint (mapped (λ (x : Worker). x.endpoint) ran.first v w at_first)

    at_back : slice_get back v ≡ Some d.endpoint
    at_back = mapped (λ (x : Worker). x.endpoint) ran.done v d at_done

    taker_is : t ≡ gather_senders d.endpoint.taker (senders_to back v)
    taker_is = ran.back.taker v d.endpoint t at_back at_taker

    taker_inbox : t.inbox ≡ d.endpoint.taker.inbox
    taker_inbox = ap (λ (x : TakerView). x.inbox) (ran.back.taker v d.endpoint t at_back at_taker ∙ gather_is d.endpoint.taker (senders_to back v))

    its_inbox : slice_get ids v ≡ Some d.endpoint.taker.inbox
    its_inbox = subst (λ k. slice_get ids k ≡ Some d.endpoint.taker.inbox) (has_run.stays.worker ∙ its) has_run.on_inboxes.taker

    pushed_same : (u : ℕ) → pushed_to d.endpoint u ≡ pushed_list (sender_of back u v)
    pushed_same u = ap pushed_list (sym (sender_is back u v d.endpoint at_back))

    promise : WorkerRunsMarked n owners width (windows_of width n.end) (length ids) v d.share d.endpoint.taker.state (λ u. pushed_list (sender_of back u v))
    promise = subst (λ k. WorkerRunsMarked n owners width (windows_of width n.end) (length ids) k d.share d.endpoint.taker.state (λ u. pushed_list (sender_of back u v))) its
        (subst (λ (p : ℕ → List Carried). WorkerRunsMarked n owners width (windows_of width n.end) (length ids) w.endpoint.worker d.share d.endpoint.taker.state p) (λ i u. pushed_same u i) has_run.promise)

    pub one_ends : EndsMarked n owners width (windows_of width n.end) (length ids) (sender_of back) v d.share t
    one_ends = record {
      before = d.endpoint.taker;
      promise = promise;
      senders = senders_to back v;
      are_senders = of_others (length ids) v (sender_of back v) d.endpoint.taker.state.made (senders_to back v) (are_senders ids starts back ran.together ran.none_gathered stays on_inboxes v d.endpoint at_back);
      begun = every_weaker (λ (s : SenderView). AgreesWithSender d.endpoint.taker.state s.state) (λ (s : SenderView). HasPrefix s.state.pushed (part s.state.number d.endpoint.taker.state.taken)) (λ s h. h.begun) (senders_to back v) (ran.back.matches v d.endpoint at_back);
      gathered = taker_is;
    }

  takers_long : length new.takers.items ≡ length ids
  takers_long = ran.back.count ∙ (length-map ran.done (λ (x : Worker). x.endpoint) ∙ done_long)

  -- the element at a worker's place
  pub record IsInState (v : ℕ) : Type 0 where
    pub w : Worker
    pub at_first : slice_get ran.first v ≡ Some w
    pub d : Worker
    pub at_done : slice_get ran.done v ≡ Some d
    pub has_run : WorkerRunsAllWindows n owners width (windows_of width n.end) ids w d
    pub t : TakerView
    pub at_taker : slice_get new.takers.items v ≡ Some t

  in_state : (v : ℕ) → v < length ids → IsInState v
  in_state v low =
      let w = there ran.first v (subst (λ l. v < l) (sym first_long) low) in
      let d = beside (WorkerRunsAllWindows n owners width (windows_of width n.end) ids) ran.first ran.done ran.ran v w.0 w.1 in
      let t = there new.takers.items v (subst (λ l. v < l) (sym takers_long) low) in
      record { w = w.0; at_first = w.1; d = d.0; at_done = d.1; has_run = d.2; t = t.0; at_taker = t.1 }

  each_ends : (v : ℕ) → v < length ids → (share : Share) (taker : TakerView) → EndsMarked n owners width (windows_of width n.end) (length ids) (sender_of back) v (get_or new.shares.items v share) (get_or new.takers.items v taker)
  each_ends v low share taker =
      let s = in_state v low in
      let at_share : slice_get new.shares.items v ≡ Some s.d.share = ap (λ l. slice_get l v) ran.shares ∙ mapped (λ (w : Worker). w.share) ran.done v s.d s.at_done in
      subst (λ x. EndsMarked n owners width (windows_of width n.end) (length ids) (sender_of back) v x (get_or new.takers.items v taker)) (sym (read new.shares.items v s.d.share share at_share))
      (subst (λ x. EndsMarked n owners width (windows_of width n.end) (length ids) (sender_of back) v s.d.share x) (sym (read new.takers.items v s.t taker s.at_taker))
      (one_ends v low s.w s.at_first s.d s.at_done s.has_run s.t s.at_taker))

  each_its : (v : ℕ) (id : InboxId) (taker : TakerView) → v < length ids → (get_or new.takers.items v taker).inbox ≡ get_or ids v id
  each_its v id taker low =
      let s = in_state v low in
      ap (λ (x : TakerView). x.inbox) (read new.takers.items v s.t taker s.at_taker)
      ∙ (taker_inbox v low s.w s.at_first s.d s.at_done s.has_run s.t s.at_taker
      ∙ sym (read ids v s.d.endpoint.taker.inbox id (its_inbox v low s.w s.at_first s.d s.at_done s.has_run s.t s.at_taker)))

  pub ends_marked : EndAllMarked n owners width (windows_of width n.end) new
  ends_marked = record {
    cut = cut;
    shares = ap length ran.shares ∙ (length-map ran.done (λ (w : Worker). w.share) ∙ done_long);
    takers = takers_long;
    inbox_of_taker = each_its;
    first_out = ran.first_out;
    sender = sender_of back;
    each_worker = each_ends;
  }

-- all workers are at the end, if no window was longer than the lookahead
pub ended : (n : NetModel) → RunsForward (system_of n) → (owners : List ℕ) (width : ℕ) → 0 < width → width ≤ (system_of n).lookahead
    → (old new : WorkerGroup) → IsCut (length n.motes) (length old.inboxes.items) owners → GroupRunsMarked n owners width old new → WorkersAreAt n owners (suc n.end) new × Each (λ (t : TakerView). Whole t.state.gathered t.state.taken) new.takers.items
ended n fine owners width wide short old new cut ran =
    let cut_now : IsCut (length n.motes) (length new.inboxes.items) owners = subst (λ (l : List InboxId). IsCut (length n.motes) (length l) owners) (sym ran.inboxes) cut in
    ends n fine owners width (windows_of width n.end) short (are_windows width n.end wide) new (ends_marked n owners width old new cut_now ran)

-- The endpoints of workers that have run, at the end of a window.
use Rattle.std.proofs.Common.{◌≡◌, ◌⊎◌, ℕ, ◌==◌, true, false, List, [], ◌∷◌, length, map, sym, ap, ◌∙◌, arith, inl, inr, subst}
use Rattle.std.specs.List.{filter, zip, AllZip, AllByRecursion as Each}
use Rattle.copy_exchange.proofs.Windows.{returns_from}
use Rattle.copy_exchange.specs.Crossed.{is_own}
use Rattle.copy_exchange.specs.Endpoints.{StartsAs, Returns, AllReturn}
use Rattle.copy_exchange.specs.declared.endpoint.Endpoint.{Endpoint}
use Rattle.copy_inbox.specs.Handles.{InboxId, TakerView}
use Rattle.mote_net.specs.Net.{NetModel}
use Rattle.radio_packet.specs.declared.copy.RadioCopy.{RadioCopy}
use Rattle.window_laws.proofs.Lists.{filter_none, every_weaker}
use Rattle.window_laws.specs.Windows.{is_from_sender}
use Rattle.window_workers.specs.JoinedWorker.{RunsWorker}
use Rattle.window_workers.specs.Threads.{AreMade, HaveWorked}
use Rattle.window_workers.specs.Worker.{make_worker}
use Rattle.window_workers.specs.WorkerGroup.{WorkersAreAt}
use Rattle.window_workers.specs.declared.group.WorkerGroup.{WorkerGroup}
use Rattle.window_workers.specs.declared.worker.Worker.{Worker}
use Rattle.worker_window.specs.Window.{IsOutgoing}
use Rattle.worker_window.specs.declared.share.Share.{Share}
use Rattle.std.specs.Prelude.{slice_index}
use Rattle.std.proofs.lemmas.Bool.{eq-eqb, cases_Bool, eqb-true, false≢true}
use Rattle.window_workers.proofs.Lookups.{read, as_long}
use Rattle.window_workers.proofs.Step.{own_of}

-- no outgoing copy is from a mote of another worker
none_from : (n : NetModel) (owners : List ℕ) (w s : ℕ) → (slice_index owners s == w) ≡ false → (outgoing : List RadioCopy) → Each (IsOutgoing n owners w) outgoing → filter (is_from_sender s) outgoing ≡ []
none_from n owners w s other outgoing out = filter_none (is_from_sender s) outgoing (every_weaker (IsOutgoing n owners w) (λ (c : RadioCopy). is_from_sender s c ≡ false) one outgoing out)
  where
    one : (c : RadioCopy) → IsOutgoing n owners w c → is_from_sender s c ≡ false
    one c g = of_case (cases_Bool (is_from_sender s c))
      where
        of_case : (is_from_sender s c ≡ true) ⊎ (is_from_sender s c ≡ false) → is_from_sender s c ≡ false
        of_case (inr e) = e
        of_case (inl e) =
            let own : is_own owners w s ≡ true = ap (is_own owners w) (sym (eqb-true c.sender s e)) ∙ g.sender in
            let its : slice_index owners s ≡ w = read owners s w 0 (own_of owners w s own) in
            absurd (false≢true (sym other ∙ eq-eqb (slice_index owners s) w its))

module _ (n : NetModel) (owners : List ℕ) (until : ℕ) (inboxes : List InboxId) where
  one_back : (t : TakerView) (s : Share) (c : Endpoint) (d : Worker) → StartsAs t c → RunsWorker n owners inboxes until (make_worker (s, c)) d → Returns inboxes (slice_index owners) c d.endpoint
  one_back t s c d starts ran =
      returns_from inboxes owners (slice_index owners) t c ran.between d.endpoint ran.arrived ran.outgoing starts ran.collects ran.delivers ran.endpoint
      (λ k other. none_from n owners c.worker k other ran.outgoing ran.out)

  all_back : (takers : List TakerView) (shares : List Share) (endpoints : List Endpoint) (done : List Worker) → AllZip StartsAs takers endpoints → length endpoints ≡ length shares
      → AllZip (RunsWorker n owners inboxes until) (map make_worker (zip shares endpoints)) done → AllZip (Returns inboxes (slice_index owners)) endpoints (map (λ (worker : Worker). worker.endpoint) done)
  all_back [] [] [] [] starts long ran = tt
  all_back [] [] [] (d ∷ ds) starts long ran = absurd ran
  all_back [] (s ∷ ss) [] ds starts long ran = absurd (omega arith)
  all_back [] ss (c ∷ cs) ds starts long ran = absurd starts
  all_back (t ∷ ts) ss [] ds starts long ran = absurd starts
  all_back (t ∷ ts) [] (c ∷ cs) ds starts long ran = absurd (omega arith)
  all_back (t ∷ ts) (s ∷ ss) (c ∷ cs) [] starts long ran = absurd ran
  all_back (t ∷ ts) (s ∷ ss) (c ∷ cs) (d ∷ ds) starts long ran = (one_back t s c d starts.0 ran.0, all_back ts ss cs ds starts.1 (omega arith) ran.1)

module _ (n : NetModel) (owners : List ℕ) (from until : ℕ) (old : WorkerGroup) (at : WorkersAreAt n owners from old) (done : List Worker)
    (worked : HaveWorked old.inboxes.items old.takers.items old.shares.items (RunsWorker n owners old.inboxes.items until) done) where
  abbrev made : AreMade old.inboxes.items old.takers.items old.shares.items worked.first
  made = worked.are_made

  endpoints_long : length made.endpoints ≡ length old.shares.items
  endpoints_long = as_long _ old.takers.items made.endpoints made.starts ∙ (as_long _ old.inboxes.items old.takers.items at.settled ∙ sym at.shares)

  pub ran : AllZip (RunsWorker n owners old.inboxes.items until) (map make_worker (zip old.shares.items made.endpoints)) done
  ran = subst (λ l. AllZip (RunsWorker n owners old.inboxes.items until) l done) made.are worked.ran

  pub returned : AllReturn old.inboxes.items (map (λ (worker : Worker). worker.endpoint) done)
  returned = record {
    before = made.endpoints;
    together = made.together;
    worker_of = slice_index owners;
    each = all_back n owners until old.inboxes.items old.takers.items old.shares.items made.endpoints done made.starts endpoints_long ran;
  }

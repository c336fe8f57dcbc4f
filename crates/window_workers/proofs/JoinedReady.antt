-- Workers between two windows are ready to run after their endpoints are made.
use Rattle.std.proofs.Common.{◌≡◌, ℕ, suc, ◌<◌, ◌≤◌, ◌^◌, true, false, List, [], ◌∷◌, ◌++◌, length, get_or, refl, sym, ap, ◌∙◌, subst, arith, Option, Some, None}
use Rattle.std.proofs.lemmas.List.Elements.{filter-append}
use Rattle.std.proofs.lemmas.List.FromFn.{get_or-range_with_len}
use Rattle.std.specs.List.{filter, zip, slice_get, range_with_len, AllZip, AllByRecursion as Each}
use Rattle.copy_exchange.specs.Crossed.{is_own, IsExpected}
use Rattle.copy_exchange.specs.Endpoints.{IsEndpoint, Collects, Together, StartsAs}
use Rattle.copy_exchange.specs.Inboxes.{HasNoMarks}
use Rattle.copy_exchange.specs.Takers.{copies_gathered, taken_by, gathered_by}
use Rattle.copy_exchange.specs.declared.endpoint.Endpoint.{Endpoint}
use Rattle.copy_inbox.specs.Handles.{TakerView}
use Rattle.copy_inbox.specs.Items.{copies_of}
use Rattle.mote_net.specs.Net.{NetModel}
use Rattle.radio_packet.specs.declared.copy.RadioCopy.{RadioCopy}
use Rattle.window_laws.proofs.Lists.{every_weaker, every_both}
use Rattle.window_laws.specs.Windows.{NoneBefore, is_from_sender}
use Rattle.window_workers.specs.JoinedWorker.{IsReadyWorker}
use Rattle.window_workers.specs.Threads.{AllMade}
use Rattle.window_workers.specs.Worker.{make_worker}
use Rattle.window_workers.specs.WorkerGroup.{WorkersAreAt, IsWorkerAt, IsNotBefore}
use Rattle.window_workers.specs.declared.group.WorkerGroup.{WorkerGroup}
use Rattle.worker_window.specs.Share.{Motes}
use Rattle.worker_window.specs.declared.share.Share.{Share}
use Rattle.window_workers.proofs.Lookups.{there, inside, read, beside, as_long, each_at, each_zipped, same_found}
use Rattle.window_workers.proofs.Sent.{every_of_each}
use Rattle.window_workers.proofs.Numbered.{numbered}
use Rattle.window_workers.proofs.JoinedArrived.{arrived_have, foreign}

-- a common prefix can be dropped
goes_on : (xs ys zs : List RadioCopy) → xs ++ ys ≡ xs ++ zs → ys ≡ zs
goes_on [] ys zs e = e
goes_on (x ∷ xs) ys zs e = goes_on xs ys zs (cc)

not_before : (from : ℕ) (first : Option ℕ) (c : RadioCopy) → NoneBefore from first → IsNotBefore first c → from ≤ c.at
not_before from None c w h = absurd h
not_before from (Some m) c w h = omega arith

-- the copies that a worker takes in at the start of a window are those that were in its inbox
module _ (n : NetModel) (owners : List ℕ) (from : ℕ) (motes : Motes) (first : Option ℕ) (v : ℕ) (share : Share) (taker : TakerView) (here : IsWorkerAt n owners from motes first v share taker) (first_from : NoneBefore from first)
    (endpoint : Endpoint) (starts : StartsAs taker endpoint) (between : Endpoint) (arrived : List RadioCopy) (collects : Collects endpoint between arrived) where
  gathered_same : gathered_by endpoint.taker ≡ gathered_by taker
  gathered_same = ap copies_gathered starts.same_gathered

  taken_same : taken_by endpoint.taker ≡ taken_by taker
  taken_same = ap copies_of starts.same_taken

  all_foreign : Each (λ (c : RadioCopy). (is_own owners v c.to ≡ true) × (is_own owners v c.sender ≡ false)) arrived
  all_foreign = arrived_have (λ (c : RadioCopy). (is_own owners v c.to ≡ true) × (is_own owners v c.sender ≡ false)) endpoint between arrived collects (subst (Each (λ (c : RadioCopy). (is_own owners v c.to ≡ true) × (is_own owners v c.sender ≡ false))) (sym gathered_same) (foreign n owners motes v (gathered_by taker) here.gathered))

  waited : (s : ℕ) → filter (is_from_sender s) arrived ≡ (here.waits s).rest
  waited s = goes_on (filter (is_from_sender s) (taken_by taker)) _ _ (
      ap (λ l. filter (is_from_sender s) l ++ filter (is_from_sender s) arrived) (sym taken_same)
      ∙ (sym (filter-append (is_from_sender s) (taken_by endpoint.taker) arrived)
      ∙ (ap (filter (is_from_sender s)) (sym collects.adds)
      ∙ (collects.in_order s
      ∙ (ap (filter (is_from_sender s)) gathered_same ∙ (here.waits s).all)))))

  all_later : Each (λ (c : RadioCopy). from ≤ c.at) arrived
  all_later = every_of_each (λ (c : RadioCopy). from ≤ c.at) arrived (λ s. subst (Each (λ (c : RadioCopy). from ≤ c.at)) (sym (waited s)) (every_weaker _ _ (λ c g. not_before from first c first_from g) _ (here.waits s).later))

  pub arrived_come : Each (IsExpected owners v from) arrived
  arrived_come = every_weaker _ _ (λ c g. record { to = g.0.0; sender = g.0.1; later = g.1 }) _ (every_both (λ (c : RadioCopy). (is_own owners v c.to ≡ true) × (is_own owners v c.sender ≡ false)) (λ (c : RadioCopy). from ≤ c.at) arrived all_foreign all_later)

module _ (n : NetModel) (owners : List ℕ) (from until : ℕ) (old : WorkerGroup) (at : WorkersAreAt n owners from old) (up : from ≤ until) (early : until ≤ 2 ^ 40) (plain : Each HasNoMarks old.takers.items) where
  one_ready : (endpoints : List Endpoint) → Together old.inboxes.items endpoints → AllZip StartsAs old.takers.items endpoints → (v : ℕ) (s : Share) (c : Endpoint) → slice_get old.shares.items v ≡ Some s → slice_get endpoints v ≡ Some c → IsReadyWorker n owners old.inboxes.items until (make_worker (s, c))
  one_ready endpoints together starts v s c e f =
      let h : v < length old.inboxes.items = subst (λ l. v < l) at.shares (inside old.shares.items v s e) in
      let t = there old.takers.items v (subst (λ l. v < l) (sym (as_long _ old.inboxes.items old.takers.items at.settled)) h) in
      let b = beside StartsAs old.takers.items endpoints starts v t.0 t.1 in
      let set : StartsAs t.0 c = subst (StartsAs t.0) (same_found (slice_get endpoints v) b.0 c b.1 f) b.2 in
      let here : IsWorkerAt n owners from at.motes old.first_out v s t.0 = subst (λ x. IsWorkerAt n owners from at.motes old.first_out v x t.0) (read old.shares.items v s s e)
      (subst (λ x. IsWorkerAt n owners from at.motes old.first_out v (get_or old.shares.items v s) x) (read old.takers.items v t.0 t.0 t.1) (at.each v h s t.0)) in
      let number : c.worker ≡ v = numbered (length old.inboxes.items) endpoints together.workers v h c f in
      let own : Each (λ (x : RadioCopy). is_own owners v x.to ≡ true) (gathered_by t.0) = every_weaker (λ (x : RadioCopy). (is_own owners v x.to ≡ true) × (is_own owners v x.sender ≡ false)) (λ (x : RadioCopy). is_own owners v x.to ≡ true) (λ x g. g.0) (gathered_by t.0) (foreign n owners at.motes v (gathered_by t.0) here.gathered) in
      record {
        early = early;
        cut = at.cut;
        takes_in = λ between arrived collects. record {
          worker = v;
          from = from;
          motes = at.motes;
          taken = taken_by t.0;
          keeps = here.keeps;
          order = up;
          expected = arrived_come n owners from at.motes old.first_out v s t.0 here at.first c set between arrived collects;
        };
        same = here.keeps.is_worker ∙ sym number;
        plain = set.same_marked ∙ each_at HasNoMarks old.takers.items v t.0 plain t.1;
        endpoint = each_at (IsEndpoint old.inboxes.items) endpoints v c together.each f;
        own = subst (λ w. Each (λ (x : RadioCopy). is_own owners w x.to ≡ true) (gathered_by c.taker)) (sym number)
            (subst (λ l. Each (λ (x : RadioCopy). is_own owners v x.to ≡ true) l) (sym (ap copies_gathered set.same_gathered)) own);
      }

  pub ready : AllMade old.inboxes.items old.takers.items old.shares.items (IsReadyWorker n owners old.inboxes.items until)
  ready workers made =
      subst (Each (IsReadyWorker n owners old.inboxes.items until)) (sym made.are)
      (each_zipped (IsReadyWorker n owners old.inboxes.items until) make_worker old.shares.items made.endpoints (one_ready made.endpoints made.together made.starts))

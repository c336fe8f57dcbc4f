-- The workers of a run with marks before their first windows, once their endpoints are made.
use Rattle.std.proofs.Common.{◌≡◌, ℕ, suc, ◌<◌, true, List, [], ◌∷◌, length, map, refl, sym, ap, ◌∙◌, subst, arith, Some}
use Rattle.std.specs.List.{slice_get, zip, AllZip, AllByRecursion as Each}
use Rattle.copy_exchange.proofs.Open.{made_for_others}
use Rattle.copy_exchange.specs.Endpoints.{HasMarks, HasPushedNothing, IsEndpoint, StartsAs, Together}
use Rattle.copy_exchange.specs.Inboxes.{IsFresh}
use Rattle.copy_exchange.specs.declared.endpoint.Endpoint.{Endpoint}
use Rattle.copy_inbox.specs.Handles.{InboxId, TakerView}
use Rattle.copy_inbox.specs.Views.{make_taker_state}
use Rattle.copy_inbox.specs.declared.rule.TakerState.{TakerState}
use Rattle.mote_net.specs.Net.{NetModel}
use Rattle.net_agenda.specs.NetSystem.{system_of}
use Rattle.window_laws.specs.Windows.{first_mote}
use Rattle.window_workers.specs.MarkedRun.{endpoints_of}
use Rattle.window_workers.specs.MarkedThread.{IsBeforeFirstWindow}
use Rattle.window_workers.specs.Start.{AreFirst}
use Rattle.window_workers.specs.Threads.{AreMade}
use Rattle.window_workers.specs.Worker.{make_worker}
use Rattle.window_workers.specs.WorkerGroup.{IsCut}
use Rattle.window_workers.specs.declared.worker.Worker.{Worker}
use Rattle.worker_window.specs.Share.{IsWholeShare}
use Rattle.worker_window.specs.declared.share.Share.{Share}
use Rattle.window_workers.proofs.Lookups.{there, inside, read, beside, as_long, each_at, each_from, each_zipped}
use Rattle.window_workers.proofs.Lookups.{same_found}
use Rattle.window_workers.proofs.Numbered.{numbered}
use Rattle.window_workers.proofs.Starts.{fresh_at}

-- each worker has the endpoint that was made for it
same_endpoints : (shares : List Share) (endpoints : List Endpoint) → length endpoints ≡ length shares
    → endpoints_of (map make_worker (zip shares endpoints)) ≡ endpoints
same_endpoints [] [] long = refl
same_endpoints [] (c ∷ cs) long = absurd (omega arith)
same_endpoints (s ∷ ss) [] long = absurd (omega arith)
same_endpoints (s ∷ ss) (c ∷ cs) long = ap (λ l. c ∷ l) (same_endpoints ss cs (omega arith))

-- workers that were made from takers that have taken and gathered nothing
module _ (inboxes : List InboxId) (takers : List TakerView) (shares : List Share) (workers : List Worker) (made : AreMade inboxes takers shares workers) (fresh : AllZip IsFresh inboxes takers) where
  endpoints_long : length made.endpoints ≡ length inboxes
  endpoints_long = as_long StartsAs takers made.endpoints made.starts ∙ as_long IsFresh inboxes takers fresh

  -- the taker from which an endpoint was made
  record Taker (v : ℕ) (c : Endpoint) : Type 0 where
    taker : TakerView
    is_fresh : taker.state ≡ make_taker_state taker.state.marked 0 [] []
    starts_as : StartsAs taker c

  its_taker : (v : ℕ) (c : Endpoint) → slice_get made.endpoints v ≡ Some c → Taker v c
  its_taker v c at =
      let low : v < length inboxes = subst (λ l. v < l) endpoints_long (inside made.endpoints v c at) in
      let t = there takers v (subst (λ l. v < l) (sym (as_long IsFresh inboxes takers fresh)) low) in
      let b = beside StartsAs takers made.endpoints made.starts v t.0 t.1 in
      record {
        taker = t.0;
        is_fresh = subst (λ (x : TakerView). x.state ≡ make_taker_state x.state.marked 0 [] []) (read takers v t.0 t.0 t.1) (fresh_at inboxes takers fresh v t.0 low);
        starts_as = subst (StartsAs t.0) (same_found (slice_get made.endpoints v) b.0 c b.1 at) b.2;
      }

  none_taken : (v : ℕ) (c : Endpoint) → slice_get made.endpoints v ≡ Some c → c.taker.state.taken ≡ []
  none_taken v c at = let t = its_taker v c at in t.starts_as.same_taken ∙ ap (λ (d : TakerState). d.taken) t.is_fresh

  none_gathered : (v : ℕ) (c : Endpoint) → slice_get made.endpoints v ≡ Some c → c.taker.state.gathered ≡ []
  none_gathered v c at = let t = its_taker v c at in t.starts_as.same_gathered ∙ ap (λ (d : TakerState). d.gathered) t.is_fresh

  all_none_gathered : Each (λ (c : Endpoint). c.taker.state.gathered ≡ []) made.endpoints
  all_none_gathered = each_from (λ (c : Endpoint). c.taker.state.gathered ≡ []) made.endpoints none_gathered

  module _ (n : NetModel) (owners : List ℕ) (cut : IsCut (length n.motes) (length inboxes) owners) (first : AreFirst n owners (length inboxes) shares) (marked : Each (λ (taker : TakerView). taker.state.marked ≡ true) takers) where
    one_ready : (v : ℕ) (s : Share) (c : Endpoint) → slice_get shares v ≡ Some s → slice_get made.endpoints v ≡ Some c → IsBeforeFirstWindow n owners inboxes (make_worker (s, c))
    one_ready v s c at_share at_endpoint =
        let low : v < length inboxes = subst (λ l. v < l) first.count (inside shares v s at_share) in
        let number : c.worker ≡ v = numbered (length inboxes) made.endpoints made.together.workers v low c at_endpoint in
        record {
          cut = cut;
          keeps = subst (λ w. IsWholeShare n owners w 0 (first_mote (system_of n)) [] s) (sym number)
              (subst (λ x. IsWholeShare n owners v 0 (first_mote (system_of n)) [] x) (read shares v s s at_share) (first.each v s low));
          on_inboxes = (each_at (IsEndpoint inboxes) made.endpoints v c made.together.each at_endpoint).on_inboxes;
          marked = each_at HasMarks made.endpoints v c (made.marked marked) at_endpoint;
          made = made_for_others inboxes made.endpoints made.together v c at_endpoint (none_gathered v c at_endpoint);
          none_taken = none_taken v c at_endpoint;
          none_gathered = none_gathered v c at_endpoint;
          none_pushed = each_at HasPushedNothing made.endpoints v c made.nothing at_endpoint;
        }

    pub ready : Each (IsBeforeFirstWindow n owners inboxes) workers
    ready = subst (Each (IsBeforeFirstWindow n owners inboxes)) (sym made.are) (each_zipped (IsBeforeFirstWindow n owners inboxes) make_worker shares made.endpoints one_ready)

  -- the endpoints of the workers are those that were made
  module _ (count : length shares ≡ length inboxes) where
    start_with : endpoints_of workers ≡ made.endpoints
    start_with = ap endpoints_of made.are ∙ same_endpoints shares made.endpoints (endpoints_long ∙ sym count)

    pub together_first : Together inboxes (endpoints_of workers)
    together_first = subst (Together inboxes) (sym start_with) made.together

    pub none_gathered_first : Each (λ (c : Endpoint). c.taker.state.gathered ≡ []) (endpoints_of workers)
    none_gathered_first = subst (Each (λ (c : Endpoint). c.taker.state.gathered ≡ [])) (sym start_with) all_none_gathered

-- The senders on an inbox, if endpoints are made once for the whole run.
use Rattle.std.proofs.Common.{[], ◌≡◌, ◌≢◌, ℕ, zero, suc, ◌+◌, ◌<◌, ◌≤◌, ◌==◌, Bool, true, false, eqb, List, ◌∷◌, length, map, get_or, slice_get, Option, Some, None, refl, sym, ap, ◌∙◌, subst, ⊎_elim, arith, eq-eqb, ne_eqb, option_map}
use Rattle.std.proofs.lemmas.Bool.{cases_lt}
use Rattle.std.proofs.lemmas.Bool.Decides.{eqb_tells}
use Rattle.std.proofs.lemmas.List.{length-map}
use Rattle.std.proofs.lemmas.List.FromFn.{get_or-range_with_len, length-range_with_len}
use Rattle.std.proofs.lemmas.Option.{get_or_from_slice_get, slice_get-get_or, slice_get-map, slice_get_within}
use Rattle.std.specs.List.{AllByRecursion as Each, AllZip, cons_option, filter_map, range_with_len}
use Rattle.std.specs.Option.{option_map_or}
use Rattle.copy_exchange.specs.Endpoints.{IsEndpoint, IsOnInboxes, IsSenderOn, Stays, AreOpen, Together, sender_to, senders_to}
use Rattle.copy_exchange.specs.declared.endpoint.Endpoint.{Endpoint}
use Rattle.copy_inbox.specs.Gathered.{is_gathered}
use Rattle.copy_inbox.specs.Handles.{InboxId, SenderView}
use Rattle.copy_inbox.specs.declared.rule.TakerState.{TakerState}
use Rattle.copy_exchange.proofs.Gathers.{numbers_of}
use Rattle.copy_exchange.proofs.AfterWindow.{same_workers, each_staying, open_staying}
use Rattle.copy_exchange.proofs.Lists.{each_at, each_map, heads}
use Rattle.copy_exchange.proofs.Owns.{workers_of}

-- ---- place by place
-- in a list numbered from 0 each element has the number of its place
pub at_range : {A : Type 0} (f : A → ℕ) (xs : List A) (n : ℕ) → map f xs ≡ range_with_len 0 n → (v : ℕ) (x : A) → slice_get xs v ≡ Some x → f x ≡ v
at_range f xs n numbered v x at =
    let inside = slice_get_within xs v x at in
    let long : length xs ≡ n = sym (length-map xs f) ∙ (ap length numbered ∙ length-range_with_len 0 n) in
    let there : slice_get (map f xs) v ≡ Some (f x) = slice_get-map f xs v ∙ ap (option_map f) at in
    sym (get_or_from_slice_get (map f xs) v (f x) 0 there) ∙ (ap (λ l. get_or l v 0) numbered ∙ (get_or-range_with_len 0 n v 0 (omega arith) ∙ omega arith))

each_found : {A : Type 0} (P : A → Type 0) (xs : List A) (v : ℕ) (x : A) → Each P xs → slice_get xs v ≡ Some x → P x
each_found P xs v x h at = subst P (get_or_from_slice_get xs v x x at) (each_at P xs v x h (slice_get_within xs v x at))

module _ {A B : Type 0} (f : A → Option B) where
  with_more : (o : Option B) (ys : List B) (y : B) (j : ℕ) → slice_get ys j ≡ Some y → (i : ℕ) × (slice_get (cons_option o ys) i ≡ Some y)
  with_more None ys y j at = (j, at)
  with_more (Some z) ys y j at = (suc j, at)

  first_there : (o : Option B) (ys : List B) (y : B) → o ≡ Some y → slice_get (cons_option o ys) 0 ≡ Some y
  first_there None ys y e = absurd cc
  first_there (Some z) ys y e = e

  pub in_filter_map : (xs : List A) (u : ℕ) (x : A) (y : B) → slice_get xs u ≡ Some x → f x ≡ Some y → (j : ℕ) × (slice_get (filter_map f xs) j ≡ Some y)
  in_filter_map [] u x y at is = absurd (let none : None ≡ Some x = at in cc)
  in_filter_map (a ∷ xs) zero x y at is =
      let same : a ≡ x = cc in
      (0, first_there (f a) (filter_map f xs) y (ap f same ∙ is))
  in_filter_map (a ∷ xs) (suc u) x y at is =
      let rest = in_filter_map xs u x y at is in
      with_more (f a) (filter_map f xs) y rest.0 rest.1

  of_first : (a : A) (xs : List A) (y : B) (o : Option B) → f a ≡ o → ((i : ℕ) → slice_get (filter_map f xs) i ≡ Some y → (u : ℕ) × (x : A) × (slice_get xs u ≡ Some x) × (f x ≡ Some y))
      → (j : ℕ) → slice_get (cons_option o (filter_map f xs)) j ≡ Some y → (u : ℕ) × (x : A) × (slice_get (a ∷ xs) u ≡ Some x) × (f x ≡ Some y)
  of_first a xs y None e rest j at = let r = rest j at in (suc r.0, r.1, r.2, r.3)
  of_first a xs y (Some z) e rest zero at = (0, a, refl, e ∙ at)
  of_first a xs y (Some z) e rest (suc j) at = let r = rest j at in (suc r.0, r.1, r.2, r.3)

  pub of_filter_map : (xs : List A) (j : ℕ) (y : B) → slice_get (filter_map f xs) j ≡ Some y → (u : ℕ) × (x : A) × (slice_get xs u ≡ Some x) × (f x ≡ Some y)
  of_filter_map [] j y at = absurd (let none : None ≡ Some y = at in cc)
  of_filter_map (a ∷ xs) j y at = of_first a xs y (f a) refl (λ i found. of_filter_map xs i y found) j at

-- ---- the number of senders on an inbox
module _ (id : InboxId) (v : ℕ) where
  -- each other worker has a sender on the inbox of worker v
  abbrev On : Endpoint → Type 0
  On c = IsSenderOn id (v == c.worker) (sender_to c v)

  some_more : (o : Option SenderView) (ss : List SenderView) → IsSenderOn id false o → length (cons_option o ss) ≡ suc (length ss)
  some_more None ss h = absurd h
  some_more (Some s) ss h = refl

  as_other : (c : Endpoint) → v ≢ c.worker → On c → IsSenderOn id false (sender_to c v)
  as_other c n on = let P : Bool → Type 0 = λ own. IsSenderOn id own (sender_to c v) in subst P (ne_eqb v c.worker n) on

  as_own : (c : Endpoint) → v ≡ c.worker → On c → sender_to c v ≡ None
  as_own c e on = let P : Bool → Type 0 = λ own. IsSenderOn id own (sender_to c v) in subst P (eq-eqb v c.worker e) on

  all_behind : (k : ℕ) (cs : List Endpoint) → v < k → workers_of cs ≡ range_with_len k (length cs) → Each On cs → length (senders_to cs v) ≡ length cs
  all_behind k [] lt e on = refl
  all_behind k (c ∷ cs) lt e on =
      let n = heads c.worker k (workers_of cs) (range_with_len (k + 1) (length cs)) e in
      let is = n.0 in
      let more = some_more (sender_to c v) (senders_to cs v) (as_other c (λ same. absurd (omega arith)) on.0) in
      let rest = all_behind (k + 1) cs (omega arith) n.1 on.1 in
      omega arith

  one_missing : (k : ℕ) (cs : List Endpoint) → k ≤ v → v < k + length cs → workers_of cs ≡ range_with_len k (length cs) → Each On cs → suc (length (senders_to cs v)) ≡ length cs
  one_missing k [] le lt e on = absurd (omega arith)
  one_missing k (c ∷ cs) le lt e on =
      let n = heads c.worker k (workers_of cs) (range_with_len (k + 1) (length cs)) e in
      let is = n.0 in
      ⊎_elim
      (λ (q : (eqb v k ≡ true) × (v ≡ k)).
      let same = q.1 in
      let none : length (senders_to (c ∷ cs) v) ≡ length (senders_to cs v) = ap (λ o. length (cons_option o (senders_to cs v))) (as_own c (omega arith) on.0) in
      let rest = all_behind (k + 1) cs (omega arith) n.1 on.1 in
      omega arith)
      (λ (q : (eqb v k ≡ false) × (v ≢ k)).
      let other = q.1 in
      let more = some_more (sender_to c v) (senders_to cs v) (as_other c (λ same. other (same ∙ is)) on.0) in
      let rest = one_missing (k + 1) cs (omega arith) (omega arith) n.1 on.1 in
      omega arith)
      (eqb_tells v k)

first_is_0 : (ss : List SenderView) (d : TakerState) (h : AreOpen ss d) → d.gathered ≡ [] → h.first ≡ 0
first_is_0 ss d h none = ⊎_elim
    (λ (lt : 0 < h.first). absurd (let yes : false ≡ true = ap (λ gs. is_gathered gs 0) (sym none) ∙ h.older 0 lt in cc))
    (λ (le : h.first ≤ 0). omega arith)
    (cases_lt 0 h.first)

module _ (inboxes : List InboxId) (cs : List Endpoint) (workers : workers_of cs ≡ range_with_len 0 (length inboxes)) (each_on_inboxes : Each (IsOnInboxes inboxes) cs) where
  long : length cs ≡ length inboxes
  long = sym (length-map cs (λ (c : Endpoint). c.worker)) ∙ (ap length workers ∙ length-range_with_len 0 (length inboxes))

  worker_is : (v : ℕ) (c : Endpoint) → slice_get cs v ≡ Some c → c.worker ≡ v
  worker_is v c at = at_range (λ (x : Endpoint). x.worker) cs (length inboxes) workers v c at

  all_but_one : (v : ℕ) (c : Endpoint) → slice_get cs v ≡ Some c → suc (length (senders_to cs v)) ≡ length inboxes
  all_but_one v c at =
      let inside = slice_get_within cs v c at in
      let n = long in
      let id : InboxId = get_or inboxes v c.taker.inbox in
      let found : slice_get inboxes v ≡ Some id = slice_get-get_or inboxes v c.taker.inbox (omega arith) in
      one_missing id v 0 cs (omega arith) (omega arith) (workers ∙ ap (range_with_len 0) (sym long)) (each_map (IsOnInboxes inboxes) (On id v) cs (λ x h. h.each v id found) each_on_inboxes) ∙ long

-- if no sender is gathered yet, each worker's inbox has a sender of each other worker
pub made_for_others : (inboxes : List InboxId) (endpoints : List Endpoint) → Together inboxes endpoints → (v : ℕ) (c : Endpoint) → slice_get endpoints v ≡ Some c → c.taker.state.gathered ≡ [] → suc c.taker.state.made ≡ length inboxes
made_for_others inboxes endpoints h v c at none =
    let each_on_inboxes = each_map (IsEndpoint inboxes) (IsOnInboxes inboxes) endpoints (λ c e. e.on_inboxes) h.each in
    let o : AreOpen (senders_to endpoints c.worker) c.taker.state = each_found (λ (x : Endpoint). AreOpen (senders_to endpoints x.worker) x.taker.state) endpoints v c h.are_open at in
    let first = first_is_0 (senders_to endpoints c.worker) c.taker.state o none in
    let made = o.made in
    let same : length (senders_to endpoints c.worker) ≡ length (senders_to endpoints v) = ap (λ w. length (senders_to endpoints w)) (worker_is inboxes endpoints h.workers each_on_inboxes v c at) in
    let others = all_but_one inboxes endpoints h.workers each_on_inboxes v c at in
    omega arith

-- ---- one sender of each other worker
-- the sender of a worker on the inbox of another, among all endpoints
abbrev pub sender_of : List Endpoint → (inbox worker : ℕ) → Option SenderView
sender_of endpoints inbox worker = option_map_or (λ (c : Endpoint). sender_to c inbox) (slice_get endpoints worker) None

pub sender_is : (cs : List Endpoint) (inbox worker : ℕ) (c : Endpoint) → slice_get cs worker ≡ Some c → sender_of cs inbox worker ≡ sender_to c inbox
sender_is cs inbox worker c at = ap (λ (o : Option Endpoint). option_map_or (λ (x : Endpoint). sender_to x inbox) o None) at

found_as : (ss : List SenderView) (i j : ℕ) (s : SenderView) → i ≡ j → slice_get ss j ≡ Some s → slice_get ss i ≡ Some s
found_as ss i j s e at = ap (slice_get ss) e ∙ at

-- the senders on the inbox of this worker are one of each other worker, numbered from 0, and no others
pub record SendersOfOthers (workers worker : ℕ) (sender : (other : ℕ) → Option SenderView) (made : ℕ) (senders : List SenderView) : Type 0 where
  pub numbered : map (λ (s : SenderView). s.state.number) senders ≡ range_with_len 0 (length senders)
  pub made_is : made ≡ length senders
  pub others : suc (length senders) ≡ workers
  pub of_worker : (v : ℕ) → v < workers → v ≢ worker → (s : SenderView) × (sender v ≡ Some s) × (slice_get senders s.state.number ≡ Some s)
  pub worker_of : (j : ℕ) (s : SenderView) → slice_get senders j ≡ Some s → (v : ℕ) × (v < workers) × (v ≢ worker) × (sender v ≡ Some s)

module _ (inboxes : List InboxId) (before after : List Endpoint)
    (together : Together inboxes before)
    (none : Each (λ (c : Endpoint). c.taker.state.gathered ≡ []) before)
    (stays : AllZip Stays before after)
    (each_on_inboxes : Each (IsOnInboxes inboxes) after)
    (v : ℕ) (c : Endpoint) (at : slice_get after v ≡ Some c) where
  workers : workers_of after ≡ range_with_len 0 (length inboxes)
  workers = same_workers before after stays ∙ together.workers

  abbrev senders : List SenderView
  senders = senders_to after v

  its : c.worker ≡ v
  its = worker_is inboxes after workers each_on_inboxes v c at

  are_open : AreOpen senders c.taker.state
  are_open =
      let P : ℕ → Type 0 = λ w. AreOpen (senders_to after w) c.taker.state in
      subst P its (each_found (λ (x : Endpoint). AreOpen (senders_to after x.worker) x.taker.state) after v c (open_staying before after stays together.are_open) at)

  none_gathered : c.taker.state.gathered ≡ []
  none_gathered = each_found (λ (x : Endpoint). x.taker.state.gathered ≡ []) after v c
      (each_staying (λ (x : Endpoint). x.taker.state.gathered ≡ []) (λ (x : Endpoint). x.taker.state.gathered ≡ []) (λ a b e h. h.gathered ∙ e) before after none stays) at

  first : are_open.first ≡ 0
  first = first_is_0 senders c.taker.state are_open none_gathered

  numbered : numbers_of senders ≡ range_with_len 0 (length senders)
  numbered = are_open.numbered ∙ ap (λ k. range_with_len k (length senders)) first

  abbrev inbox : InboxId
  inbox = get_or inboxes v c.taker.inbox

  inside : v < length inboxes
  inside = let n = long inboxes after workers each_on_inboxes in let lt = slice_get_within after v c at in omega arith

  its_inbox : slice_get inboxes v ≡ Some inbox
  its_inbox = slice_get-get_or inboxes v c.taker.inbox inside

  on_it : (u : ℕ) (d : Endpoint) → slice_get after u ≡ Some d → On inbox v d
  on_it u d there = (each_found (IsOnInboxes inboxes) after u d each_on_inboxes there).each v inbox its_inbox

  found_some : (o : Option SenderView) → IsSenderOn inbox false o → (s : SenderView) × (o ≡ Some s)
  found_some None h = absurd h
  found_some (Some s) h = (s, refl)

  of_worker : (u : ℕ) → u < length inboxes → u ≢ v → (s : SenderView) × (sender_of after v u ≡ Some s) × (slice_get senders s.state.number ≡ Some s)
  of_worker u lt other =
      let n = long inboxes after workers each_on_inboxes in
      let d : Endpoint = get_or after u c in
      let there : slice_get after u ≡ Some d = slice_get-get_or after u c (omega arith) in
      let its_worker = worker_is inboxes after workers each_on_inboxes u d there in
      let found = found_some (sender_to d v) (as_other inbox v d (λ same. other (sym (same ∙ its_worker))) (on_it u d there)) in
      let place = in_filter_map (λ (x : Endpoint). sender_to x v) after u d found.0 there found.1 in
      let number : found.0.state.number ≡ place.0 = at_range (λ (s : SenderView). s.state.number) senders (length senders) numbered place.0 found.0 place.1 in (
        found.0,
        sender_is after v u d there ∙ found.1,
        found_as senders found.0.state.number place.0 found.0 number place.1,
      )

  worker_of : (j : ℕ) (s : SenderView) → slice_get senders j ≡ Some s → (u : ℕ) × (u < length inboxes) × (u ≢ v) × (sender_of after v u ≡ Some s)
  worker_of j s is =
      let n = long inboxes after workers each_on_inboxes in
      let of_it = of_filter_map (λ (x : Endpoint). sender_to x v) after j s is in
      let u : ℕ = of_it.0 in
      let d : Endpoint = of_it.1 in
      let there : slice_get after u ≡ Some d = of_it.2 in
      let lt = slice_get_within after u d there in
      let its_worker = worker_is inboxes after workers each_on_inboxes u d there in (
        u,
        omega arith,
        λ same. absurd (let own = as_own inbox v d (sym (its_worker ∙ same)) (on_it u d there) in let some : sender_to d v ≡ Some s = of_it.3 in let clash : None ≡ Some s = sym own ∙ some in cc),
        sender_is after v u d there ∙ of_it.3,
      )

  pub are_senders : SendersOfOthers (length inboxes) v (sender_of after v) c.taker.state.made senders
  are_senders = record {
    numbered = numbered;
    made_is = let made = are_open.made in let zero_ = first in omega arith;
    others = all_but_one inboxes after workers each_on_inboxes v c at;
    of_worker = of_worker;
    worker_of = worker_of;
  }

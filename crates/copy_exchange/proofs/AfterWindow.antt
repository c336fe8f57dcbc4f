-- The items that the takers have gathered after a window.
use Rattle.std.proofs.Common.{[], ◌≡◌, ℕ, zero, suc, ◌+◌, ◌<◌, Bool, List, ◌∷◌, ◌++◌, length, map, get_or, slice_get, Option, Some, None, Vec, refl, sym, ap, ◌∙◌, subst, arith}
use Rattle.std.proofs.lemmas.List.{length-map}
use Rattle.std.proofs.lemmas.List.Elements.{filter_map-append}
use Rattle.std.proofs.lemmas.List.FromFn.{length-range_with_len}
use Rattle.std.proofs.lemmas.Option.{get_or_from_slice_get, slice_get-get_or}
use Rattle.std.specs.List.{AllByRecursion as Each, AllZip, cons_option, filter_map, range_with_len}
use Rattle.std.specs.declared.alloc.Global.{Global}
use Rattle.copy_exchange.specs.Endpoints.{IsEndpoint, IsOnInboxes, IsCollected, DeliversOwn, Stays, AreOpen, Returns, AllReturn, GathersDelivered, sender_to, senders_to, identity_of}
use Rattle.copy_exchange.specs.Inboxes.{HasNoMarks, IsSettled, Settled}
use Rattle.copy_exchange.specs.Steps.{AreTakersOf, GathersRow, GathersBack, AgreesWithSender, gather_into, gather_senders, at_place}
use Rattle.copy_exchange.specs.Takers.{copies_gathered, IsOrderly}
use Rattle.copy_exchange.specs.declared.endpoint.Endpoint.{Endpoint}
use Rattle.copy_inbox.specs.Gathered.{is_gathered}
use Rattle.copy_inbox.specs.Handles.{InboxId, TakerView, SenderView, after_gather, AllGathered, PacketsLeft}
use Rattle.copy_inbox.specs.Items.{Packets}
use Rattle.copy_inbox.specs.declared.rule.SenderState.{SenderState}
use Rattle.copy_inbox.specs.declared.rule.TakerState.{TakerState}
use Rattle.copy_exchange.proofs.Gathers.{gather_is, with_joined, numbers_of, joined_copies, all_gathered, orderly_then}
use Rattle.copy_exchange.proofs.Gathers.{packets_then, OneOf}
use Rattle.copy_exchange.proofs.Lists.{each_from, each_join, each_map}
use Rattle.copy_exchange.proofs.Rows.{into_inbox}
use Rattle.copy_exchange.proofs.Owns.{workers_of, delivered_is, one_of}

-- ---- unchanged parts meet the requirements on endpoints
read_map : (l : List (Option SenderView)) (v : ℕ) → identity_of (get_or l v None) ≡ get_or (map identity_of l) v None
read_map [] v = refl
read_map (x ∷ xs) zero = refl
read_map (x ∷ xs) (suc v) = read_map xs v

pub same_identity : (old new : Endpoint) (v : ℕ) → Stays old new → identity_of (sender_to new v) ≡ identity_of (sender_to old v)
same_identity old new v h = read_map new.senders.items v ∙ (ap (λ l. get_or l v None) h.identities ∙ sym (read_map old.senders.items v))

numbers_same : (o p : Option SenderView) (ss us : List SenderView) → identity_of o ≡ identity_of p → numbers_of ss ≡ numbers_of us → numbers_of (cons_option o ss) ≡ numbers_of (cons_option p us)
numbers_same None None ss us e h = h
numbers_same None (Some q) ss us e h = absurd cc
numbers_same (Some p) None ss us e h = absurd cc
numbers_same (Some p) (Some q) ss us e h =
    let identity : (p.inbox, p.state.number, p.state.marked) ≡ (q.inbox, q.state.number, q.state.marked) = cc in
    let number : p.state.number ≡ q.state.number = ap (λ (x : InboxId × ℕ × Bool). x.1) identity in
    λ i. number i ∷ h i

pub same_workers : (old new : List Endpoint) → AllZip Stays old new → workers_of new ≡ workers_of old
same_workers [] [] h = refl
same_workers (a ∷ as') (b ∷ bs) h = λ i. h.0.worker i ∷ same_workers as' bs h.1 i
same_workers [] (b ∷ bs) h = absurd h
same_workers (a ∷ as') [] h = absurd h

same_numbers : (old new : List Endpoint) (v : ℕ) → AllZip Stays old new → numbers_of (senders_to new v) ≡ numbers_of (senders_to old v)
same_numbers [] [] v h = refl
same_numbers (a ∷ as') (b ∷ bs) v h = numbers_same (sender_to b v) (sender_to a v) (senders_to bs v) (senders_to as' v) (same_identity a b v h.0) (same_numbers as' bs v h.1)
same_numbers [] (b ∷ bs) v h = absurd h
same_numbers (a ∷ as') [] v h = absurd h

module _ (P Q : Endpoint → Type 0) (f : (a b : Endpoint) → P a → Stays a b → Q b) where
  pub each_staying : (old new : List Endpoint) → Each P old → AllZip Stays old new → Each Q new
  each_staying [] [] e h = tt
  each_staying (a ∷ as') (b ∷ bs) e h = (f a b e.0 h.0, each_staying as' bs e.1 h.1)
  each_staying [] (b ∷ bs) e h = absurd h
  each_staying (a ∷ as') [] e h = absurd h

module _ (inboxes : List InboxId) (worker_of : ℕ → ℕ) where
  abbrev Back : List Endpoint → List Endpoint → Type 0
  Back old new = AllZip (Returns inboxes worker_of) old new

  stayed : (old new : List Endpoint) → Back old new → AllZip Stays old new
  stayed [] [] h = tt
  stayed (a ∷ as') (b ∷ bs) h = (h.0.stays, stayed as' bs h.1)
  stayed [] (b ∷ bs) h = absurd h
  stayed (a ∷ as') [] h = absurd h

  each_back : (P : Endpoint → Type 0) → ((a b : Endpoint) → Returns inboxes worker_of a b → P b) → (old new : List Endpoint) → Back old new → Each P new
  each_back P f [] [] h = tt
  each_back P f (a ∷ as') (b ∷ bs) h = (f a b h.0, each_back P f as' bs h.1)
  each_back P f [] (b ∷ bs) h = absurd h
  each_back P f (a ∷ as') [] h = absurd h

open_same : (ss us : List SenderView) (d e : TakerState) → AreOpen ss d → numbers_of us ≡ numbers_of ss → e.made ≡ d.made → e.gathered ≡ d.gathered → AreOpen us e
open_same ss us d e h numbers made gathered =
    let long : length us ≡ length ss = sym (length-map us (λ (s : SenderView). s.state.number)) ∙ (ap length numbers ∙ length-map ss (λ (s : SenderView). s.state.number)) in
    record {
      first = h.first;
      numbered = numbers ∙ (h.numbered ∙ ap (range_with_len h.first) (sym long));
      made = made ∙ (h.made ∙ ap (λ n. h.first + n) (sym long));
      older = λ i lt. ap (λ g. is_gathered g i) gathered ∙ h.older i lt;
      newer = λ i le. ap (λ g. is_gathered g i) gathered ∙ h.newer i le;
    }

-- the set of open senders doesn't change while the endpoints stay the same
pub open_staying : (old new : List Endpoint) → AllZip Stays old new → Each (λ (c : Endpoint). AreOpen (senders_to old c.worker) c.taker.state) old → Each (λ (c : Endpoint). AreOpen (senders_to new c.worker) c.taker.state) new
open_staying old new stays are_open =
    each_staying (λ c. AreOpen (senders_to old c.worker) c.taker.state) (λ c. AreOpen (senders_to new c.worker) c.taker.state)
    (λ a b h r. open_same (senders_to old a.worker) (senders_to new b.worker) a.taker.state b.taker.state h (same_numbers old new b.worker stays ∙ ap (λ v. numbers_of (senders_to old v)) r.worker) r.made r.gathered)
    old new are_open stays

module _ (P Q R S : Endpoint → Type 0) where
  each_three : ((c : Endpoint) → P c → Q c → R c → S c) → (cs : List Endpoint) → Each P cs → Each Q cs → Each R cs → Each S cs
  each_three f [] p q r = tt
  each_three f (c ∷ cs) p q r = (f c p.0 q.0 r.0, each_three f cs p.1 q.1 r.1)

module _ (inboxes : List InboxId) (cs : List Endpoint) (back : AllReturn inboxes cs) where
  abbrev before : List Endpoint
  before = back.before

  stays : AllZip Stays before cs
  stays = stayed inboxes back.worker_of before cs back.each

  pub workers : workers_of cs ≡ range_with_len 0 (length inboxes)
  workers = same_workers before cs stays ∙ back.together.workers

  pub count : length cs ≡ length inboxes
  count = sym (length-map cs (λ (c : Endpoint). c.worker)) ∙ (ap length workers ∙ length-range_with_len 0 (length inboxes))

  still_open : Each (λ (c : Endpoint). AreOpen (senders_to cs c.worker) c.taker.state) cs
  still_open = open_staying before cs stays back.together.are_open

  pub owns : Each (DeliversOwn back.worker_of) cs
  owns = each_back inboxes back.worker_of (DeliversOwn back.worker_of) (λ a b r. r.own) before cs back.each

  pub all_on_inboxes : Each (IsOnInboxes inboxes) cs
  all_on_inboxes = each_back inboxes back.worker_of (IsOnInboxes inboxes) (λ a b r. r.endpoint.on_inboxes) before cs back.each

  one : (s v : ℕ) → OneOf s (senders_to cs v)
  one s v = one_of back.worker_of s v 0 cs (workers ∙ ap (range_with_len 0) (sym count)) owns

  -- the taker after it gathered all senders of its inbox
  abbrev pub with_all : Endpoint → TakerView
  with_all c = gather_senders c.taker (senders_to cs c.worker)

  -- the taker had taken all items that it knew of, and its inbox has no marks
  abbrev IsDone : Endpoint → Type 0
  IsDone c = IsCollected c × HasNoMarks c.taker

  abbrev pub HasEnded : Endpoint → Type 0
  HasEnded c = IsEndpoint inboxes c × (IsOrderly (with_all c).state × AllGathered (with_all c).state) × GathersDelivered cs c (with_all c) × IsDone c

  ended : (c : Endpoint) → AreOpen (senders_to cs c.worker) c.taker.state → IsEndpoint inboxes c → IsDone c → HasEnded c
  ended c are_open endpoint done =
      let ss : List SenderView = senders_to cs c.worker in
      let d : TakerState = c.taker.state in
      let P : TakerView → Type 0 = λ t. (IsOrderly t.state × AllGathered t.state) × GathersDelivered cs c t in
      let then_ : P (record { inbox = c.taker.inbox; state = with_joined ss d }) = (
        (orderly_then ss d endpoint.orderly done.0 are_open (λ s. one s c.worker), all_gathered ss d endpoint.orderly done.0 are_open (λ s. one s c.worker)),
        record {
          same_marked = refl;
          same_taken = refl;
          adds = joined_copies d.made ss d.gathered ∙ ap (λ l. copies_gathered d.gathered ++ l) (sym (delivered_is cs c.worker));
        },
      ) in
      let both = subst P (sym (gather_is c.taker ss)) then_ in
      (endpoint, both.0, both.1, done)

  pub all_ended : Each HasEnded cs
  all_ended = each_three (λ c. AreOpen (senders_to cs c.worker) c.taker.state) (IsEndpoint inboxes) IsDone HasEnded ended cs still_open
      (each_back inboxes back.worker_of (IsEndpoint inboxes) (λ a b r. r.endpoint) before cs back.each)
      (each_back inboxes back.worker_of IsDone (λ a b r. (r.collected, r.plain)) before cs back.each)

  pub settled_at : (c : Endpoint) → HasEnded c → Each (λ (s : SenderView). AgreesWithSender c.taker.state s.state) (senders_to cs c.worker) → IsSettled c.taker.inbox (with_all c)
  settled_at c h matches =
      let ss : List SenderView = senders_to cs c.worker in
      let is = gather_is c.taker ss in
      let packets : Each (λ (s : SenderView). Packets s.state.pushed) ss = each_map (λ (s : SenderView). AgreesWithSender c.taker.state s.state) (λ (s : SenderView). Packets s.state.pushed) ss (λ s k. k.plain h.3.1) matches in
      let P : TakerView → Type 0 = λ t. PacketsLeft t.state in
      record {
        its = ap (λ (t : TakerView). t.inbox) is;
        orderly = h.1.0;
        all = h.1.1;
        no_mark = subst P (sym is) (packets_then ss c.taker.state h.3.0 packets);
      }

-- ---- row by row
abbrev pub Row : Type 0
Row = Vec (Option SenderView) Global

-- the senders on the inbox of worker v
abbrev pub row_senders : List Row → (v : ℕ) → List SenderView
row_senders rows v = filter_map (λ (r : Row). at_place r.items v) rows

pub record GathersRows (old new : List TakerView) (rows : List Row) : Type 0 where
  pub count : length new ≡ length old
  pub taker : (v : ℕ) (t : TakerView) → v < length old → get_or new v t ≡ gather_senders (get_or old v t) (row_senders rows v)
  pub matches : (v : ℕ) (t : TakerView) → v < length old → Each (λ (s : SenderView). AgreesWithSender (get_or old v t).state s.state) (row_senders rows v)

-- the items that a taker took don't change when it gathers
known_before : (t : TakerView) (ss : List SenderView) (p : SenderState) → AgreesWithSender (gather_senders t ss).state p → AgreesWithSender t.state p
known_before t ss p h =
    let P : TakerView → Type 0 = λ u. AgreesWithSender u.state p in
    let k : AgreesWithSender (with_joined ss t.state) p = subst P (gather_is t ss) h in
    record { begun = k.begun; plain = k.plain }

known_option : (d : TakerState) (o : Option SenderView) → ((s : SenderView) → o ≡ Some s → AgreesWithSender d s.state) → Each (λ (s : SenderView). AgreesWithSender d s.state) (cons_option o [])
known_option d None f = tt
known_option d (Some s) f = (f s refl, tt)

gather_more : (t : TakerView) (ss : List SenderView) (o : Option SenderView) → gather_senders t (ss ++ cons_option o []) ≡ gather_into (gather_senders t ss) o
gather_more t [] None = refl
gather_more t [] (Some s) = refl
gather_more t (s ∷ ss) o = gather_more (after_gather t s.state) ss o

pub no_rows : (old : List TakerView) → GathersRows old old []
no_rows old = record { count = refl; taker = λ v t lt. refl; matches = λ v t lt. tt }

pub more_rows : (old mid new : List TakerView) (rows : List Row) (row : Row) → GathersRows old mid rows → GathersRow mid new row.items → GathersRows old new (rows ++ row ∷ [])
more_rows old mid new rows row h r =
    let count = h.count in
    record {
      count = r.takers ∙ count;
      taker = λ v t lt.
          r.taker v t (omega arith) ∙ (ap (λ u. gather_into u (at_place row.items v)) (h.taker v t lt)
          ∙ (sym (gather_more (get_or old v t) (row_senders rows v) (at_place row.items v)) ∙ ap (gather_senders (get_or old v t)) (sym (filter_map-append (λ (k : Row). at_place k.items v) rows (row ∷ [])))));
      matches = λ v t lt.
          let F : SenderView → Type 0 = λ s. AgreesWithSender (get_or old v t).state s.state in
          let new_ : Each F (cons_option (at_place row.items v) []) = known_option (get_or old v t).state (at_place row.items v) (λ s found.
          let P : TakerView → Type 0 = λ u. AgreesWithSender u.state s.state in
          known_before (get_or old v t) (row_senders rows v) s.state (subst P (h.taker v t lt) (r.matches v t s (omega arith) found))) in
          let L : List SenderView → Type 0 = λ l. Each F l in
          subst L (sym (filter_map-append (λ (k : Row). at_place k.items v) rows (row ∷ []))) (each_join F (row_senders rows v) (cons_option (at_place row.items v) []) (h.matches v t lt) new_);
    }

pub takers_after : (inboxes : List InboxId) (old new : List TakerView) (senders : List (Option SenderView)) → AreTakersOf inboxes old → GathersRow old new senders → AreTakersOf inboxes new
takers_after inboxes old new senders a r =
    let count = a.count in
    record {
      count = r.takers ∙ count;
      its = λ v id t lt. ap (λ (u : TakerView). u.inbox) (r.taker v t (omega arith)) ∙ (into_inbox (get_or old v t) (at_place senders v) ∙ a.its v id t lt);
    }

-- ---- place by place
module _ (P : Endpoint → Type 0) where
  pub pick : (k : ℕ) (cs : List Endpoint) → workers_of cs ≡ range_with_len k (length cs) → Each P cs → (v : ℕ) → v < length cs
      → (c : Endpoint) × (c.worker ≡ k + v) × ((t : TakerView) → get_or (map (λ (x : Endpoint). x.taker) cs) v t ≡ c.taker) × ((d : Endpoint) → get_or cs v d ≡ c) × P c
  pick k [] e h v lt = absurd (omega arith)
  pick k (c ∷ cs) e h zero lt = (c, (let n : c.worker ≡ k = cc in omega arith), λ t. refl, λ d. refl, h.0)
  pick k (c ∷ cs) e h (suc v) lt =
      let tail : workers_of cs ≡ range_with_len (k + 1) (length cs) = cc in
      let p = pick (k + 1) cs tail h.1 v (omega arith) in
      let is = p.1 in
      (p.0, omega arith, p.2, p.3, p.4)

pub zip_each : {A B : Type 0} (R : A → B → Type 0) (xs : List A) (ys : List B) → length ys ≡ length xs → ((i : ℕ) (d : A) (e : B) → i < length xs → R (get_or xs i d) (get_or ys i e)) → AllZip R xs ys
zip_each R [] [] len f = tt
zip_each R (x ∷ xs) (y ∷ ys) len f = (f 0 x y (omega arith), zip_each R xs ys (omega arith) (λ i d e lt. f (suc i) d e (omega arith)))
zip_each R [] (y ∷ ys) len f = absurd (omega arith)
zip_each R (x ∷ xs) [] len f = absurd (omega arith)

module _ (inboxes : List InboxId) (cs : List Endpoint) (back : AllReturn inboxes cs) where
  long : length cs ≡ length inboxes
  long = count inboxes cs back

  picked : (v : ℕ) → v < length cs → (c : Endpoint) × (c.worker ≡ 0 + v) × ((t : TakerView) → get_or (map (λ (x : Endpoint). x.taker) cs) v t ≡ c.taker) × ((d : Endpoint) → get_or cs v d ≡ c) × HasEnded inboxes cs back c
  picked v lt = pick (HasEnded inboxes cs back) 0 cs (workers inboxes cs back ∙ ap (range_with_len 0) (sym long)) (all_ended inboxes cs back) v lt

  inbox_of : (v : ℕ) (id : InboxId) (lt : v < length cs) → (picked v lt).0.taker.inbox ≡ get_or inboxes v id
  inbox_of v id lt =
      let p = picked v lt in
      let is = p.1 in
      let same : v ≡ p.0.worker = omega arith in
      sym (ap (λ k. get_or inboxes k id) same ∙ get_or_from_slice_get inboxes p.0.worker p.0.taker.inbox id p.4.0.on_inboxes.taker)

  module _ (ts : List TakerView) (h : GathersBack cs ts) where
    taker_is : (v : ℕ) (t : TakerView) (lt : v < length cs) → get_or ts v t ≡ gather_senders (picked v lt).0.taker (senders_to cs (picked v lt).0.worker)
    taker_is v t lt =
        let p = picked v lt in
        let n = h.count in
        let is = p.1 in
        let same : v ≡ p.0.worker = omega arith in
        let found : slice_get cs v ≡ Some p.0 = slice_get-get_or cs v p.0 lt ∙ ap Some (p.3 p.0) in
        h.taker v p.0 (get_or ts v t) found (slice_get-get_or ts v t (omega arith)) ∙ ap (λ k. gather_senders p.0.taker (senders_to cs k)) same

    report_at : (v : ℕ) (lt : v < length cs) → Each (λ (s : SenderView). AgreesWithSender (picked v lt).0.taker.state s.state) (senders_to cs (picked v lt).0.worker)
    report_at v lt =
        let p = picked v lt in
        let is = p.1 in
        let same : v ≡ p.0.worker = omega arith in
        let found : slice_get cs v ≡ Some p.0 = slice_get-get_or cs v p.0 lt ∙ ap Some (p.3 p.0) in
        let Q : ℕ → Type 0 = λ k. Each (λ (s : SenderView). AgreesWithSender p.0.taker.state s.state) (senders_to cs k) in
        subst Q same (h.matches v p.0 found)

    pub settled : Settled inboxes ts
    settled = zip_each IsSettled inboxes ts (h.count ∙ long) (λ v id t lt.
        let n = long in
        let inside : v < length cs = omega arith in
        let P : InboxId × TakerView → Type 0 = λ x. IsSettled x.0 x.1 in
        subst P (λ i. (inbox_of v id inside i, sym (taker_is v t inside) i)) (settled_at inboxes cs back (picked v inside).0 (picked v inside).4 (report_at v inside)))

    still_marked : (t : TakerView) (ss : List SenderView) → (gather_senders t ss).state.marked ≡ t.state.marked
    still_marked t ss = ap (λ (u : TakerView). u.state.marked) (gather_is t ss)

    pub plain_after : Each HasNoMarks ts
    plain_after = each_from HasNoMarks ts (λ v t lt.
        let n = h.count in
        let inside : v < length cs = omega arith in
        let p = picked v inside in
        ap (λ (u : TakerView). u.state.marked) (taker_is v t inside) ∙ (still_marked p.0.taker (senders_to cs p.0.worker) ∙ p.4.3.1))

    pub gathers_delivered : AllZip (GathersDelivered cs) cs ts
    gathers_delivered = zip_each (GathersDelivered cs) cs ts h.count (λ v d t lt.
        let P : Endpoint × TakerView → Type 0 = λ x. GathersDelivered cs x.0 x.1 in
        subst P (λ i. (sym ((picked v lt).3 d) i, sym (taker_is v t lt) i)) (picked v lt).4.2)

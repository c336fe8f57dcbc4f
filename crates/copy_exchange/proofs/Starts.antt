-- The endpoints at the start of a window.
use Rattle.std.proofs.Common.{[], ◌≡◌, ℕ, zero, suc, ◌+◌, ◌<◌, ◌≤◌, ◌==◌, Bool, true, false, List, ◌∷◌, ◌++◌, length, get_or, slice_get, Option, Some, None, refl, sym, ap, ◌∙◌, subst, ⊎_elim, arith, append-nil, length-append, add-zero, map-id}
use Rattle.std.proofs.lemmas.Bool.{cases_lt}
use Rattle.std.proofs.lemmas.List.{map-append}
use Rattle.std.proofs.lemmas.List.Elements.{filter_map-append}
use Rattle.std.proofs.lemmas.List.FromFn.{map-range_with_len_more}
use Rattle.std.proofs.lemmas.Option.{get_or_from_slice_get, slice_get-get_or, slice_get_past}
use Rattle.std.specs.List.{AllByRecursion as Each, AllZip, cons_option, range_with_len, zip}
use Rattle.copy_exchange.specs.Endpoints.{IsEndpoint, IsSenderOn, AreOpen, Together, StartsAs, HasMarks, HasPushedNothing, senders_to, pushed_by, pushed_list}
use Rattle.copy_exchange.specs.Inboxes.{IsSettled, Settled}
use Rattle.copy_exchange.specs.Steps.{AreTakersOf, Opens, at_place, opened_taker, opened_sender}
use Rattle.copy_exchange.specs.Takers.{copies_in, IsOrderly}
use Rattle.copy_exchange.specs.declared.endpoint.Endpoint.{Endpoint}
use Rattle.copy_inbox.specs.Gathered.{is_gathered}
use Rattle.copy_inbox.specs.Handles.{InboxId, TakerView, SenderView, AllGathered}
use Rattle.copy_inbox.specs.Views.{make_taker_state, make_sender_state}
use Rattle.copy_inbox.specs.declared.rule.Gathered.{Gathered}
use Rattle.fork_join.proofs.Zips.{zip_length}
use Rattle.copy_exchange.proofs.Lists.{each_at, each_map, each_more, same_read}
use Rattle.copy_exchange.proofs.Gathers.{numbers_of, gathered_more}
use Rattle.copy_exchange.proofs.Owns.{workers_of}
use Rattle.copy_exchange.proofs.Rows.{opened_takers}
use Rattle.copy_exchange.proofs.AfterWindow.{Row, row_senders}

-- ---- a taker that has made more senders
abbrev pub with_more : TakerView → ℕ → TakerView
with_more t n = record { inbox = t.inbox; state = make_taker_state t.state.marked (t.state.made + n) t.state.taken t.state.gathered }

below : (made : ℕ) (gs : List Gathered) → Each (λ (g : Gathered). (g.number < made) × (g.made ≤ made)) gs → (i : ℕ) → made ≤ i → is_gathered gs i ≡ false
below made [] h i le = refl
below made (g ∷ gs) h i le = let number = h.0.0 in gathered_more g gs i (λ e. absurd (omega arith)) ∙ below made gs h.1 i le

orderly_more : (t : TakerView) (n : ℕ) → IsOrderly t.state → AllGathered t.state → IsOrderly (with_more t n).state
orderly_more t n h all =
    let made : ℕ = t.state.made in
    record {
      in_order = h.in_order;
      begun = h.begun;
      unseen = h.unseen;
      apart = h.apart;
      later = λ u lt open_. ⊎_elim
          (λ (old : u < made). absurd (let yes = all u old in cc))
          (λ (new : made ≤ u). each_map (λ (g : Gathered). (g.number < made) × (g.made ≤ made)) (λ (g : Gathered). g.made ≤ u) t.state.gathered (λ g k. let le = k.1 in omega arith) h.numbers)
          (cases_lt u made);
      numbers = each_map (λ (g : Gathered). (g.number < made) × (g.made ≤ made)) (λ (g : Gathered). (g.number < made + n) × (g.made ≤ made + n)) t.state.gathered (λ g k. let lt = k.0 in let le = k.1 in (omega arith, omega arith)) h.numbers;
    }

-- ---- row by row
-- worker u's new senders
pub record IsRow (inboxes : List InboxId) (u : ℕ) (row : Row) : Type 0 where
  pub count : length row.items ≡ length inboxes
  pub each : (v : ℕ) (id : InboxId) → slice_get inboxes v ≡ Some id → IsSenderOn id (v == u) (at_place row.items v)
  pub nothing : (v : ℕ) → pushed_list (at_place row.items v) ≡ []

-- a worker's new sender on an inbox and the inbox's taker agree on whether there are marks
abbrev pub HasMarksOf : List InboxId → List TakerView → Row → Type 0
HasMarksOf inboxes takers row = (v : ℕ) (t : TakerView) (s : SenderView) → v < length inboxes → at_place row.items v ≡ Some s → s.state.marked ≡ (get_or takers v t).state.marked

abbrev pub AreRows : List InboxId → (u : ℕ) → List Row → Type 0
AreRows inboxes u [] = Unit {0}
AreRows inboxes u (r ∷ rs) = IsRow inboxes u r × AreRows inboxes (u + 1) rs

pub record OpensRows (inboxes : List InboxId) (old new : List TakerView) (rows : List Row) : Type 0 where
  pub takers : AreTakersOf inboxes new
  pub are_rows : AreRows inboxes 0 rows
  pub marked : Each (HasMarksOf inboxes old) rows
  pub taker : (v : ℕ) (t : TakerView) → v < length inboxes → get_or new v t ≡ with_more (get_or old v t) (length (row_senders rows v))
  pub numbered : (v : ℕ) (t : TakerView) → v < length inboxes → numbers_of (row_senders rows v) ≡ range_with_len (get_or old v t).state.made (length (row_senders rows v))

zip_at : {A B : Type 0} (R : A → B → Type 0) (xs : List A) (ys : List B) → AllZip R xs ys → (i : ℕ) (d : A) (e : B) → i < length xs → R (get_or xs i d) (get_or ys i e)
zip_at R [] [] h i d e lt = absurd (omega arith)
zip_at R (x ∷ xs) (y ∷ ys) h zero d e lt = h.0
zip_at R (x ∷ xs) (y ∷ ys) h (suc i) d e lt = zip_at R xs ys h.1 i d e (omega arith)
zip_at R [] (y ∷ ys) h i d e lt = absurd h
zip_at R (x ∷ xs) [] h i d e lt = absurd h

pub settled_takers : (inboxes : List InboxId) (takers : List TakerView) → Settled inboxes takers → AreTakersOf inboxes takers
settled_takers inboxes takers h = record { count = zip_length IsSettled inboxes takers h; its = λ v id t lt. (zip_at IsSettled inboxes takers h v id t lt).its }

pub opens_no_rows : (inboxes : List InboxId) (old : List TakerView) → Settled inboxes old → OpensRows inboxes old old []
opens_no_rows inboxes old h = record {
  takers = settled_takers inboxes old h;
  are_rows = tt;
  marked = tt;
  taker = λ v t lt. λ i. record { inbox = (get_or old v t).inbox; state = record { marked = (get_or old v t).state.marked; made = sym (add-zero (get_or old v t).state.made) i; taken = (get_or old v t).state.taken; gathered = (get_or old v t).state.gathered } };
  numbered = λ v t lt. refl;
}

past : (xs : List (Option SenderView)) (v : ℕ) → length xs ≤ v → get_or xs v None ≡ None
past [] v le = refl
past (x ∷ xs) zero le = absurd (omega arith)
past (x ∷ xs) (suc v) le = past xs v (omega arith)

opening_fits : (own : Bool) (t : TakerView) → IsSenderOn t.inbox own (opened_sender own t)
opening_fits true t = refl
opening_fits false t = refl

opening_nothing : (own : Bool) (t : TakerView) → pushed_list (opened_sender own t) ≡ []
opening_nothing true t = refl
opening_nothing false t = refl

opening_marked : (own : Bool) (t : TakerView) (s : SenderView) → opened_sender own t ≡ Some s → s.state.marked ≡ t.state.marked
opening_marked true t s e = absurd cc
opening_marked false t s e =
    let opened : SenderView = record { inbox = t.inbox; state = make_sender_state t.state.marked t.state.made [] } in
    let same : opened ≡ s = cc in
    ap (λ (x : SenderView). x.state.marked) (sym same)

-- a default value, taken from a list that isn't empty
first_of : (xs : List TakerView) (v : ℕ) → v < length xs → TakerView
first_of [] v lt = absurd (omega arith)
first_of (x ∷ xs) v lt = x

found_inside : (inboxes : List InboxId) (v : ℕ) (id : InboxId) → slice_get inboxes v ≡ Some id → v < length inboxes
found_inside inboxes v id found = ⊎_elim (λ (lt : v < length inboxes). lt) (λ (le : length inboxes ≤ v). absurd (let none = slice_get_past inboxes v le in cc)) (cases_lt v (length inboxes))

-- a worker's new senders are a row
pub opens_row : (inboxes : List InboxId) (u : ℕ) (old new : List TakerView) (row : Row) → AreTakersOf inboxes old → Opens u old new row.items → IsRow inboxes u row
opens_row inboxes u old new row a h =
    let count = a.count in
    let long = h.count in
    record {
      count = long ∙ count;
      each = λ v id found.
          let lt = found_inside inboxes v id found in
          let inside : v < length old = omega arith in
          let t : TakerView = first_of old v inside in
          let is : (get_or old v t).inbox ≡ id = a.its v id t lt ∙ get_or_from_slice_get inboxes v id id found in
          let P : InboxId × Option SenderView → Type 0 = λ x. IsSenderOn x.0 (v == u) x.1 in
          subst P (λ i. (is i, sym (h.sender v t inside) i)) (opening_fits (v == u) (get_or old v t));
      nothing = λ v. ⊎_elim
          (λ (lt : v < length old). ap pushed_list (h.sender v (first_of old v lt) lt) ∙ opening_nothing (v == u) (get_or old v (first_of old v lt)))
          (λ (le : length old ≤ v). ap pushed_list (past row.items v (omega arith)))
          (cases_lt v (length old));
    }

rows_more : (inboxes : List InboxId) (u : ℕ) (rows : List Row) (row : Row) → AreRows inboxes u rows → IsRow inboxes (u + length rows) row → AreRows inboxes u (rows ++ row ∷ [])
rows_more inboxes u [] row h r = let P : ℕ → Type 0 = λ k. IsRow inboxes k row in (subst P (add-zero u) r, tt)
rows_more inboxes u (x ∷ xs) row h r =
    let P : ℕ → Type 0 = λ k. IsRow inboxes k row in
    let e : u + suc (length xs) ≡ u + 1 + length xs = omega arith in
    (h.0, rows_more inboxes (u + 1) xs row h.1 (subst P e r))

range_more : (a n : ℕ) → range_with_len a (n + 1) ≡ range_with_len a n ++ (a + n) ∷ []
range_more a n = sym (map-id (range_with_len a (n + 1))) ∙ (map-range_with_len_more (λ x. x) a n (a + n) refl ∙ ap (λ l. l ++ (a + n) ∷ []) (map-id (range_with_len a n)))

-- a taker that made one more sender
opened_more : (own : Bool) (t : TakerView) (n : ℕ) (ss : List SenderView) → n ≡ length ss → opened_taker own (with_more t n) ≡ with_more t (length (ss ++ cons_option (opened_sender own (with_more t n)) []))
opened_more true t n ss e = ap (with_more t) (e ∙ ap length (sym (append-nil ss)))
opened_more false t n ss e =
    let s : SenderView = record { inbox = t.inbox; state = make_sender_state t.state.marked (t.state.made + n) [] } in
    let more : t.state.made + n + 1 ≡ t.state.made + length (ss ++ s ∷ []) = let long = length-append ss (s ∷ []) in omega arith in
    λ i. record { inbox = t.inbox; state = make_taker_state t.state.marked (more i) t.state.taken t.state.gathered }

numbers_more : (own : Bool) (t : TakerView) (n : ℕ) (ss : List SenderView) → n ≡ length ss → numbers_of ss ≡ range_with_len t.state.made (length ss)
    → numbers_of (ss ++ cons_option (opened_sender own (with_more t n)) []) ≡ range_with_len t.state.made (length (ss ++ cons_option (opened_sender own (with_more t n)) []))
numbers_more true t n ss e h = let nil = append-nil ss in ap numbers_of nil ∙ (h ∙ ap (λ l. range_with_len t.state.made (length l)) (sym nil))
numbers_more false t n ss e h =
    let s : SenderView = record { inbox = t.inbox; state = make_sender_state t.state.marked (t.state.made + n) [] } in
    let f : SenderView → ℕ = λ x. x.state.number in
    map-append f ss (s ∷ []) ∙ (ap (λ l. l ++ (t.state.made + n) ∷ []) h ∙ (ap (λ k. range_with_len t.state.made (length ss) ++ (t.state.made + k) ∷ []) e ∙ (sym (range_more t.state.made (length ss)) ∙ ap (range_with_len t.state.made) (sym (length-append ss (s ∷ []))))))

pub opens_more_rows : (inboxes : List InboxId) (u : ℕ) (old mid new : List TakerView) (rows : List Row) (row : Row) → OpensRows inboxes old mid rows → Opens u mid new row.items → length rows ≡ u → OpensRows inboxes old new (rows ++ row ∷ [])
opens_more_rows inboxes u old mid new rows row h r e =
    let count = h.takers.count in
    let same : (v : ℕ) (t : TakerView) → v < length inboxes → at_place row.items v ≡ opened_sender (v == u) (with_more (get_or old v t) (length (row_senders rows v)))
    = λ v t lt. r.sender v t (omega arith) ∙ ap (opened_sender (v == u)) (h.taker v t lt) in
    let joined : (v : ℕ) (t : TakerView) → v < length inboxes → row_senders (rows ++ row ∷ []) v ≡ row_senders rows v ++ cons_option (opened_sender (v == u) (with_more (get_or old v t) (length (row_senders rows v)))) []
    = λ v t lt. filter_map-append (λ (k : Row). at_place k.items v) rows (row ∷ []) ∙ ap (λ o. row_senders rows v ++ cons_option o []) (same v t lt) in
    let P : ℕ → Type 0 = λ k. IsRow inboxes k row in
    record {
      takers = opened_takers inboxes u mid new row.items h.takers r;
      are_rows = rows_more inboxes 0 rows row h.are_rows (subst P (let z : u ≡ 0 + length rows = omega arith in z) (opens_row inboxes u mid new row h.takers r));
      marked = each_more (HasMarksOf inboxes old) rows row h.marked (λ v t s lt found. opening_marked (v == u) (with_more (get_or old v t) (length (row_senders rows v))) s (sym (same v t lt) ∙ found));
      taker = λ v t lt.
          r.taker v t (omega arith) ∙ (ap (opened_taker (v == u)) (h.taker v t lt)
          ∙ (opened_more (v == u) (get_or old v t) (length (row_senders rows v)) (row_senders rows v) refl ∙ ap (λ l. with_more (get_or old v t) (length l)) (sym (joined v t lt))));
      numbered = λ v t lt.
          ap numbers_of (joined v t lt) ∙ (numbers_more (v == u) (get_or old v t) (length (row_senders rows v)) (row_senders rows v) refl (h.numbered v t lt)
          ∙ ap (λ l. range_with_len (get_or old v t).state.made (length l)) (sym (joined v t lt)));
    }

-- ---- the endpoints of these takers and rows
abbrev pub endpoint_of : ℕ → TakerView → Row → Endpoint
endpoint_of u t row = record { worker = u; taker = t; senders = row }

abbrev pub built : ℕ → List (TakerView × Row) → List Endpoint
built u [] = []
built u (p ∷ ps) = endpoint_of u p.0 p.1 ∷ built (u + 1) ps

pub built_more : (u : ℕ) (ps : List (TakerView × Row)) (p : TakerView × Row) → built u (ps ++ p ∷ []) ≡ built u ps ++ endpoint_of (u + length ps) p.0 p.1 ∷ []
built_more u [] p = ap (λ k. endpoint_of k p.0 p.1 ∷ []) (sym (add-zero u))
built_more u (q ∷ qs) p =
    let e : u + 1 + length qs ≡ u + suc (length qs) = omega arith in
    ap (λ l. endpoint_of u q.0 q.1 ∷ l) (built_more (u + 1) qs p ∙ ap (λ k. built (u + 1) qs ++ endpoint_of k p.0 p.1 ∷ []) e)

built_workers : (u : ℕ) (ts : List TakerView) (rows : List Row) → length rows ≡ length ts → workers_of (built u (zip ts rows)) ≡ range_with_len u (length ts)
built_workers u [] [] e = refl
built_workers u (t ∷ ts) (r ∷ rs) e = ap (λ l. u ∷ l) (built_workers (u + 1) ts rs (omega arith))
built_workers u [] (r ∷ rs) e = absurd (omega arith)
built_workers u (t ∷ ts) [] e = absurd (omega arith)

built_senders : (u : ℕ) (ts : List TakerView) (rows : List Row) (v : ℕ) → length rows ≡ length ts → senders_to (built u (zip ts rows)) v ≡ row_senders rows v
built_senders u [] [] v e = refl
built_senders u (t ∷ ts) (r ∷ rs) v e = ap (cons_option (at_place r.items v)) (built_senders (u + 1) ts rs v (omega arith))
built_senders u [] (r ∷ rs) v e = absurd (omega arith)
built_senders u (t ∷ ts) [] v e = absurd (omega arith)

module _ (P : Endpoint → Type 0) where
  built_each : (u : ℕ) (ts : List TakerView) (rows : List Row) → length rows ≡ length ts → ((i : ℕ) (t : TakerView) (r : Row) → i < length ts → P (endpoint_of (u + i) (get_or ts i t) (get_or rows i r))) → Each P (built u (zip ts rows))
  built_each u [] [] e f = tt
  built_each u (t ∷ ts) (r ∷ rs) e f =
      let Q : ℕ → Type 0 = λ k. P (endpoint_of k t r) in (
        subst Q (add-zero u) (f 0 t r (omega arith)),
        built_each (u + 1) ts rs (omega arith) (λ i t' r' lt.
            let e : u + suc i ≡ u + 1 + i = omega arith in
            let R : ℕ → Type 0 = λ k. P (endpoint_of k (get_or ts i t') (get_or rs i r')) in
            subst R e (f (suc i) t' r' (omega arith))),
      )
  built_each u [] (r ∷ rs) e f = absurd (omega arith)
  built_each u (t ∷ ts) [] e f = absurd (omega arith)

module _ (R : TakerView → Endpoint → Type 0) where
  built_zip : (u : ℕ) (olds ts : List TakerView) (rows : List Row) → length rows ≡ length ts → length olds ≡ length ts
      → ((i : ℕ) (o t : TakerView) (r : Row) → i < length ts → R (get_or olds i o) (endpoint_of (u + i) (get_or ts i t) (get_or rows i r))) → AllZip R olds (built u (zip ts rows))
  built_zip u [] [] [] e same f = tt
  built_zip u (o ∷ os) (t ∷ ts) (r ∷ rs) e same f =
      let Q : ℕ → Type 0 = λ k. R o (endpoint_of k t r) in (
        subst Q (add-zero u) (f 0 o t r (omega arith)),
        built_zip (u + 1) os ts rs (omega arith) (omega arith) (λ i o' t' r' lt.
            let e : u + suc i ≡ u + 1 + i = omega arith in
            let S : ℕ → Type 0 = λ k. R (get_or os i o') (endpoint_of k (get_or ts i t') (get_or rs i r')) in
            subst S e (f (suc i) o' t' r' (omega arith))),
      )
  built_zip u [] [] (r ∷ rs) e same f = absurd (omega arith)
  built_zip u [] (t ∷ ts) rows e same f = absurd (omega arith)
  built_zip u (o ∷ os) [] rows e same f = absurd (omega arith)
  built_zip u (o ∷ os) (t ∷ ts) [] e same f = absurd (omega arith)

none_delivered : (o : Option SenderView) → pushed_list o ≡ [] → pushed_by o ≡ []
none_delivered None e = refl
none_delivered (Some s) e = ap copies_in e

row_at : (inboxes : List InboxId) (u : ℕ) (rows : List Row) (i : ℕ) (d : Row) → AreRows inboxes u rows → i < length rows → IsRow inboxes (u + i) (get_or rows i d)
row_at inboxes u [] i d h lt = absurd (omega arith)
row_at inboxes u (r ∷ rs) zero d h lt = let P : ℕ → Type 0 = λ k. IsRow inboxes k r in subst P (sym (add-zero u)) h.0
row_at inboxes u (r ∷ rs) (suc i) d h lt =
    let e : u + 1 + i ≡ u + suc i = omega arith in
    let P : ℕ → Type 0 = λ k. IsRow inboxes k (get_or rs i d) in
    subst P e (row_at inboxes (u + 1) rs i d h.1 (omega arith))

module _ (inboxes : List InboxId) (olds ts : List TakerView) (rows : List Row) (settled : Settled inboxes olds) (h : OpensRows inboxes olds ts rows) (long : length rows ≡ length inboxes) where
  abbrev Made : List Endpoint
  Made = built 0 (zip ts rows)

  old_long : length olds ≡ length inboxes
  old_long = zip_length IsSettled inboxes olds settled

  row_long : length rows ≡ length ts
  row_long = long ∙ sym h.takers.count

  -- the inbox, and the taker that it had before
  inbox_at : (i : ℕ) (id : InboxId) → i < length inboxes → slice_get inboxes i ≡ Some (get_or inboxes i id)
  inbox_at i id lt = slice_get-get_or inboxes i id lt

  endpoint_at : (i : ℕ) (t : TakerView) (r : Row) → i < length ts → IsEndpoint inboxes (endpoint_of (0 + i) (get_or ts i t) (get_or rows i r))
  endpoint_at i t r lt =
      let n = h.takers.count in
      let m = row_long in
      let inside : i < length inboxes = omega arith in
      let row = row_at inboxes 0 rows i r h.are_rows (omega arith) in
      let old = zip_at IsSettled inboxes olds settled i t.inbox t inside in
      let zero_ : 0 + i ≡ i = omega arith in
      let P : TakerView → Type 0 = λ x. IsOrderly x.state in
      record {
        on_inboxes = record {
          taker = ap (slice_get inboxes) zero_ ∙ (inbox_at i t.inbox inside ∙ ap Some (sym (h.takers.its i t.inbox t inside)));
          count = row.count;
          each = row.each;
        };
        orderly = subst P (sym (h.taker i t inside)) (orderly_more (get_or olds i t) (length (row_senders rows i)) old.orderly old.all);
      }

  open_at : (i : ℕ) (t : TakerView) (r : Row) → i < length ts → AreOpen (senders_to Made (0 + i)) (get_or ts i t).state
  open_at i t r lt =
      let n = h.takers.count in
      let inside : i < length inboxes = omega arith in
      let old = zip_at IsSettled inboxes olds settled i t.inbox t inside in
      let first : ℕ = (get_or olds i t).state.made in
      let zero_ : 0 + i ≡ i = omega arith in
      let senders : senders_to Made (0 + i) ≡ row_senders rows i = built_senders 0 ts rows (0 + i) row_long ∙ ap (row_senders rows) zero_ in
      let P : List SenderView × TakerView → Type 0 = λ x. AreOpen x.0 x.1.state in
      let there : P (row_senders rows i, with_more (get_or olds i t) (length (row_senders rows i))) = record {
        first = first;
        numbered = h.numbered i t inside;
        made = refl;
        older = old.all;
        newer = below first (get_or olds i t).state.gathered old.orderly.numbers;
      } in
      subst P (λ j. (sym senders j, sym (h.taker i t inside) j)) there

  pub together : Together inboxes Made
  together = record {
    workers = built_workers 0 ts rows row_long ∙ (ap (range_with_len 0) (h.takers.count));
    each = built_each (IsEndpoint inboxes) 0 ts rows row_long endpoint_at;
    are_open = built_each (λ c. AreOpen (senders_to Made c.worker) c.taker.state) 0 ts rows row_long open_at;
  }

  pub starts : AllZip StartsAs olds Made
  starts = built_zip StartsAs 0 olds ts rows row_long (old_long ∙ sym h.takers.count) (λ i o t r lt.
      let n = h.takers.count in
      let m = row_long in
      let inside : i < length inboxes = omega arith in
      let k = old_long in
      let row = row_at inboxes 0 rows i r h.are_rows (omega arith) in
      let same = same_read olds i t o (omega arith) in
      record {
        same_marked = ap (λ (x : TakerView). x.state.marked) (h.taker i t inside) ∙ ap (λ (x : TakerView). x.state.marked) same;
        same_taken = ap (λ (x : TakerView). x.state.taken) (h.taker i t inside) ∙ ap (λ (x : TakerView). x.state.taken) same;
        same_gathered = ap (λ (x : TakerView). x.state.gathered) (h.taker i t inside) ∙ ap (λ (x : TakerView). x.state.gathered) same;
        nothing = λ v. none_delivered (at_place (get_or rows i r).items v) (row.nothing v);
      })

  pub pushed_nothing : Each HasPushedNothing Made
  pushed_nothing = built_each HasPushedNothing 0 ts rows row_long (λ i t r lt.
      let n = row_long in
      (row_at inboxes 0 rows i r h.are_rows (omega arith)).nothing)

  pub has_marks : Each (λ (t : TakerView). t.state.marked ≡ true) olds → Each HasMarks Made
  has_marks all = built_each HasMarks 0 ts rows row_long (λ i t r lt v s found.
      let n = row_long in
      let k = old_long in
      let row = row_at inboxes 0 rows i r h.are_rows (omega arith) in
      let count = row.count in
      let inside : v < length inboxes = ⊎_elim
      (λ (less : v < length inboxes). less)
      (λ (over : length inboxes ≤ v). absurd (let none : None ≡ Some s = sym (past (get_or rows i r).items v (omega arith)) ∙ found in cc))
      (cases_lt v (length inboxes)) in
      each_at (HasMarksOf inboxes olds) rows i r h.marked (omega arith) v t s inside found ∙ each_at (λ (x : TakerView). x.state.marked ≡ true) olds v t all (omega arith))

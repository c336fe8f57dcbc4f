-- The change of a bucket at one moment, and the agenda that the buckets hold after it.
use mathlib.Core.Bool.{and-false, and-true}
use Rattle.std.proofs.Common.{◌≡◌, ℕ, true, false, cond, not, ◌&&◌, ◌||◌, ltb, eqb, if◌then◌else◌, List, [], ◌∷◌, ◌++◌, map, refl, sym, ap, ◌∙◌, subst, inl, inr, arith, ◌≤◌, Option, Some, None, IsSome, unwrap_or}
use Rattle.std.specs.List.{filter, list_any}
use Rattle.std.specs.Ordering.{nat_cmp, is_eq, is_gt}
use Rattle.std.specs.BTreeMap.{get, is_at}
use Rattle.std.specs.Map.{lookup}
use Rattle.std.proofs.lemmas.Bool.{cases_Bool, cases_order, eq-eqb, eqb-true, false≢true, ltb-false}
use Rattle.std.proofs.lemmas.Bool.Decides.{nat_tests}
use Rattle.std.proofs.lemmas.List.{map-append}
use Rattle.radio_packet.specs.declared.arrival.Arrival.{Arrival}
use Rattle.window_laws.specs.Agenda.{Item, Wake, IsLeast, comes_at, is_wake_of, moment_of, mote_of, packets}
use Rattle.window_laws.proofs.Agenda.{same_place}
use Rattle.window_laws.proofs.Ahead.{past_from}
use Rattle.window_laws.proofs.Lists.{any_every}
use Rattle.net_agenda.specs.declared.bucket.Bucket.{Bucket}
use Rattle.net_agenda.specs.declared.bucket.PendingEvent.{PendingEvent}
use Rattle.net_agenda.specs.Buckets.{goes_to, packet_in, arrival_of, arrivals_in_order, arrivals_at, nothing_due, gathered, due_of, is_here, is_pending_for, of_mote, is_wake_for, arrivals_of, DescendIfSorted, is_nothing, first_bucket_mote, IsTaken, IsReadyBucket, Buckets, HoldsItems, item_of, item_at, items_in, bucket_items_at, without_wake}
use Rattle.net_agenda.proofs.Sorted.{first_low}
use Rattle.net_agenda.proofs.Gathered.{unwrapped, due_both, due_elsewhere, due_taken, due_unwoken, due_asleep, any_same, from_due, held, then_out}
use Rattle.net_agenda.proofs.Keys.{not_greater}
use Rattle.net_agenda.proofs.Orders.{given_in_order, none_in_order}

-- the items of one bucket

pub moment_at : (t : ℕ) (c : PendingEvent) → moment_of (item_at t c) ≡ t
moment_at t c = of (packet_in c)
  where
    of : (p : Option Arrival) → moment_of (item_of t (goes_to c) p) ≡ t
    of None = refl
    of (Some a) = refl

mote_at : (t : ℕ) (c : PendingEvent) → mote_of (item_at t c) ≡ (goes_to c)
mote_at t c = of (packet_in c)
  where
    of : (p : Option Arrival) → mote_of (item_of t (goes_to c) p) ≡ (goes_to c)
    of None = refl
    of (Some a) = refl

comes_here : (t m : ℕ) (c : PendingEvent) → comes_at t m (item_at t c) ≡ is_pending_for m c
comes_here t m c = ap (λ u. eqb u t && eqb (mote_of (item_at t c)) m) (moment_at t c) ∙ (ap (λ j. eqb t t && eqb j m) (mote_at t c) ∙ ap (λ b. b && eqb (goes_to c) m) (eq-eqb t t refl))

filter_at : (t m : ℕ) (cs : List PendingEvent) → filter (comes_at t m) (map (item_at t) cs) ≡ map (item_at t) (of_mote m cs)
filter_at t m [] = refl
filter_at t m (c ∷ cs) =
    ap (λ b. cond b (item_at t c ∷ filter (comes_at t m) (map (item_at t) cs)) (filter (comes_at t m) (map (item_at t) cs))) (comes_here t m c)
    ∙ elim (cases_Bool (is_pending_for m c)) [
      | inl e ↦ rw e (ap (λ l. item_at t c ∷ l) (filter_at t m cs))
      | inr e ↦ rw e (filter_at t m cs)
    ]

any_at : (t m : ℕ) (cs : List PendingEvent) → list_any (comes_at t m) (map (item_at t) cs) ≡ list_any (is_pending_for m) cs
any_at t m [] = refl
any_at t m (c ∷ cs) = ap (λ b. b || list_any (comes_at t m) (map (item_at t) cs)) (comes_here t m c) ∙ ap (λ b. is_pending_for m c || b) (any_at t m cs)

bucket_due : (t m : ℕ) (cs : List PendingEvent) → due_of t m (map (item_at t) cs) ≡ gathered (map (item_at t) (of_mote m cs))
bucket_due t m cs = ap gathered (filter_at t m cs)

given : (t : ℕ) (cs : List PendingEvent) → map arrival_of (packets (map (item_at t) cs)) ≡ arrivals_of cs
given t [] = refl
given t (c ∷ cs) = of (given t cs) (packet_in c) refl
  where
    of : map arrival_of (packets (map (item_at t) cs)) ≡ arrivals_of cs → (p : Option Arrival) → packet_in c ≡ p → map arrival_of (packets (map (item_at t) (c ∷ cs))) ≡ arrivals_of (c ∷ cs)
    of rest None e = rw e rest
    of rest (Some a) e = rw e (ap (λ l. a ∷ l) rest)

is_wake_here : (t k : ℕ) (c : PendingEvent) → is_wake_of k (item_at t c) ≡ is_wake_for k c
is_wake_here t k c = of (packet_in c) refl
  where
    of : (p : Option Arrival) → packet_in c ≡ p → is_wake_of k (item_at t c) ≡ is_wake_for k c
    of None e = rw e (sym (and-true (eqb (goes_to c) k)))
    of (Some a) e = rw e (sym (and-false (eqb (goes_to c) k)))

asleep_at : (t k : ℕ) (cs : List PendingEvent) → map (item_at t) (filter (λ c. not (is_wake_for k c)) cs) ≡ filter (λ item. not (is_wake_of k item)) (map (item_at t) cs)
asleep_at t k [] = refl
asleep_at t k (c ∷ cs) =
    elim (cases_Bool (is_wake_for k c)) [
      | inl e ↦ (let f = is_wake_here t k c ∙ e in rw (e, f) (asleep_at t k cs))
      | inr e ↦ (let f = is_wake_here t k c ∙ e in rw (e, f) (ap (λ l. item_at t c ∷ l) (asleep_at t k cs)))
    ]

-- an event is added

not_none : (cs : List PendingEvent) (c : PendingEvent) → is_nothing (cs ++ c ∷ []) ≡ false
not_none [] c = refl
not_none (x ∷ cs) c = refl

pub put_more : (old new : Buckets) (t : ℕ) (c : PendingEvent) (b : Bucket) (cs : List PendingEvent) (items : List Item) → HoldsItems old items → bucket_items_at old t ≡ map (item_at t) cs
    → b.coming.items ≡ cs ++ c ∷ [] → DescendIfSorted b → ((q : ℕ) → get nat_cmp new q ≡ cond (is_eq (nat_cmp t q)) (Some b) (get nat_cmp old q)) → HoldsItems new (items ++ item_at t c ∷ [])
put_more old new t c b cs items holds at more is_sorted updates =
    held old new t (Some b) items (items ++ item_at t c ∷ []) holds updates ready
    (λ m. ap (due_of t m) (ap (map (item_at t)) more ∙ (map-append (item_at t) cs (c ∷ []) ∙ ap (λ l. l ++ item_at t c ∷ []) (sym at))) ∙ due_both t m (bucket_items_at old t) items (item_at t c) (holds.due t m))
    (λ u m e. due_elsewhere u m t items (item_at t c) (moment_at t c) e)
  where
    ready : (d : Bucket) → Some b ≡ Some d → IsReadyBucket d
    ready d e = let f : b ≡ d = cc in subst IsReadyBucket f (record { filled = ap is_nothing more ∙ not_none cs c; is_sorted = is_sorted })

-- a bucket from which events were taken out; it is removed if no event is left in it

abbrev pub left_of : Bucket → Option Bucket
left_of b = if is_nothing b.coming.items then None else Some b

none_is : (cs : List PendingEvent) → is_nothing cs ≡ true → [] ≡ cs
none_is [] h = refl
none_is (c ∷ cs) h = absurd (false≢true h)

left_items : (t : ℕ) (b : Bucket) → items_in t (left_of b) ≡ map (item_at t) b.coming.items
left_items t b =
    elim (cases_Bool (is_nothing b.coming.items)) [
      | inl e ↦ rw e (ap (map (item_at t)) (none_is b.coming.items e))
      | inr e ↦ rw e refl
    ]

left_ready : (b : Bucket) → DescendIfSorted b → (d : Bucket) → left_of b ≡ Some d → IsReadyBucket d
left_ready b is_sorted d e =
    elim (cases_Bool (is_nothing b.coming.items)) [
      | inl f ↦ (let g = rw f at e in absurd (cc))
      | inr f ↦ (let g = rw f at e in let h : b ≡ d = cc in subst IsReadyBucket h (record { filled = f; is_sorted = is_sorted }))
    ]

held_left : (old new : Buckets) (t : ℕ) (b : Bucket) (items more : List Item) → HoldsItems old items
    → ((q : ℕ) → get nat_cmp new q ≡ cond (is_eq (nat_cmp t q)) (left_of b) (get nat_cmp old q)) → DescendIfSorted b
    → ((m : ℕ) → due_of t m (map (item_at t) b.coming.items) ≡ due_of t m more)
    → ((u m : ℕ) → eqb t u ≡ false → due_of u m more ≡ due_of u m items) → HoldsItems new more
held_left old new t b items more holds updates is_sorted there elsewhere =
    held old new t (left_of b) items more holds updates (left_ready b is_sorted) (λ m. ap (due_of t m) (left_items t b) ∙ there m) elsewhere

due_found : (old : Buckets) (t m : ℕ) (b : Bucket) (items : List Item) → HoldsItems old items → get nat_cmp old t ≡ Some b → due_of t m (map (item_at t) b.coming.items) ≡ due_of t m items
due_found old t m b items holds found = ap (λ o. due_of t m (items_in t o)) (sym found) ∙ holds.due t m

due_absent : (old : Buckets) (t m : ℕ) (items : List Item) → HoldsItems old items → get nat_cmp old t ≡ None → None ≡ due_of t m items
due_absent old t m items holds none = ap (λ o. due_of t m (items_in t o)) (sym none) ∙ holds.due t m

pub changed_left : (old new : Buckets) (t : ℕ) (d : Bucket) → is_nothing d.coming.items ≡ false
    → ((q : ℕ) → get nat_cmp new q ≡ cond (is_eq (nat_cmp t q)) (Some d) (get nat_cmp old q)) → (q : ℕ) → get nat_cmp new q ≡ cond (is_eq (nat_cmp t q)) (left_of d) (get nat_cmp old q)
changed_left old new t d e updates q = rw e (updates q)

pub changed_gone : (old mid new : Buckets) (t : ℕ) (d : Bucket) → is_nothing d.coming.items ≡ true
    → ((q : ℕ) → get nat_cmp mid q ≡ cond (is_eq (nat_cmp t q)) (Some d) (get nat_cmp old q))
    → ((q : ℕ) → get nat_cmp new q ≡ cond (is_eq (nat_cmp t q)) None (get nat_cmp mid q)) → (q : ℕ) → get nat_cmp new q ≡ cond (is_eq (nat_cmp t q)) (left_of d) (get nat_cmp old q)
changed_gone old mid new t d e put out q =
    let last : cond (is_eq (nat_cmp t q)) None (get nat_cmp mid q) ≡ cond (is_eq (nat_cmp t q)) None (get nat_cmp old q) = ap (cond (is_eq (nat_cmp t q)) None) (put q) ∙ then_out (is_eq (nat_cmp t q)) (Some d) (get nat_cmp old q) in
    rw e (out q ∙ last)

-- all events of a mote are taken out

pub taken : (old new : Buckets) (t k : ℕ) (b d : Bucket) (items : List Item) → HoldsItems old items → get nat_cmp old t ≡ Some b → IsTaken k b d
    → ((q : ℕ) → get nat_cmp new q ≡ cond (is_eq (nat_cmp t q)) (left_of d) (get nat_cmp old q)) → HoldsItems new (filter (λ item. not (comes_at t k item)) items)
taken old new t k b d items holds found is updates =
    held_left old new t d items (filter (λ item. not (comes_at t k item)) items) holds updates is.is_sorted there
    (λ u m e. (let out = rw e at (due_taken items t k u m) in out))
  where
    there : (m : ℕ) → due_of t m (map (item_at t) d.coming.items) ≡ due_of t m (filter (λ item. not (comes_at t k item)) items)
    there m =
        elim (cases_Bool (eqb k m)) [
          | inl e ↦ (let o = rw e at (is.others m) in let out = rw (eq-eqb t t refl, e) at (due_taken items t k t m) in
              bucket_due t m d.coming.items ∙ (ap (λ l. gathered (map (item_at t) l)) o ∙ sym out))
          | inr e ↦ (let o = rw e at (is.others m) in let out = rw (eq-eqb t t refl, e) at (due_taken items t k t m) in
              bucket_due t m d.coming.items ∙ (ap (λ l. gathered (map (item_at t) l)) o ∙ (sym (bucket_due t m b.coming.items) ∙ (due_found old t m b items holds found ∙ sym out))))
        ]

pub none_taken : (old : Buckets) (t k : ℕ) (items : List Item) → HoldsItems old items → get nat_cmp old t ≡ None → HoldsItems old (filter (λ item. not (comes_at t k item)) items)
none_taken old t k items holds none = record {
  due = λ u m.
      elim (cases_Bool (is_here t k u m)) [
        | inl e ↦ (let out = rw e at (due_taken items t k u m) in holds.due u m ∙ (gone u m e ∙ sym out))
        | inr e ↦ (let out = rw e at (due_taken items t k u m) in holds.due u m ∙ sym out)
      ];
  ready = holds.ready;
}
  where
    gone : (u m : ℕ) → is_here t k u m ≡ true → due_of u m items ≡ None
    gone u m e = let same = (same_place t k u m e).0 in sym (subst (λ a. None ≡ due_of a m items) same (due_absent old t m items holds none))

copies_same : (t k : ℕ) (xs ys : List Item) → due_of t k xs ≡ due_of t k ys → map arrival_of (packets (filter (comes_at t k) xs)) ≡ map arrival_of (packets (filter (comes_at t k) ys))
copies_same t k xs ys e =
    sym (ap (λ d. d.copies) (unwrapped (filter (comes_at t k) xs))) ∙ (ap (λ o. (unwrap_or o nothing_due).copies) e ∙ ap (λ d. d.copies) (unwrapped (filter (comes_at t k) ys)))

pub arrivals_found : (old : Buckets) (t k : ℕ) (b : Bucket) (items : List Item) → HoldsItems old items → get nat_cmp old t ≡ Some b
    → arrivals_in_order (arrivals_of (of_mote k b.coming.items)) ≡ arrivals_at t k items
arrivals_found old t k b items holds found =
    let same = copies_same t k (map (item_at t) b.coming.items) items (due_found old t k b items holds found) in
    let mine = sym (given t (of_mote k b.coming.items)) ∙ ap (λ l. map arrival_of (packets l)) (sym (filter_at t k b.coming.items)) in
    ap arrivals_in_order (mine ∙ same) ∙ given_in_order (packets (filter (comes_at t k) items))

pub none_found : (old : Buckets) (t k : ℕ) (items : List Item) → HoldsItems old items → get nat_cmp old t ≡ None → [] ≡ arrivals_at t k items
none_found old t k items holds none =
    let same = copies_same t k [] items (due_absent old t k items holds none) in
    sym none_in_order ∙ (ap arrivals_in_order same ∙ given_in_order (packets (filter (comes_at t k) items)))

-- a wake is taken out

pub unwoken : (old new : Buckets) (t k : ℕ) (b d : Bucket) (items : List Item) → HoldsItems old items → get nat_cmp old t ≡ Some b
    → d.coming.items ≡ filter (λ c. not (is_wake_for k c)) b.coming.items → DescendIfSorted d → filter (is_wake_of k) items ≡ Wake t k ∷ []
    → ((q : ℕ) → get nat_cmp new q ≡ cond (is_eq (nat_cmp t q)) (left_of d) (get nat_cmp old q)) → HoldsItems new (filter (λ item. not (is_wake_of k item)) items)
unwoken old new t k b d items holds found less is_sorted one updates =
    held_left old new t d items (filter (λ item. not (is_wake_of k item)) items) holds updates is_sorted there
    (λ u m e. (let out = rw e at (due_unwoken items t k one u m) in out))
  where
    there : (m : ℕ) → due_of t m (map (item_at t) d.coming.items) ≡ due_of t m (filter (λ item. not (is_wake_of k item)) items)
    there m =
        ap (λ l. due_of t m (map (item_at t) l)) less ∙ (ap (due_of t m) (asleep_at t k b.coming.items) ∙ (due_asleep (map (item_at t) b.coming.items) k t m
        ∙ (ap (λ o. if eqb k m then without_wake o else o) (due_found old t m b items holds found) ∙ sym (due_asleep items k t m))))

pub none_unwoken : (old : Buckets) (t k : ℕ) (items : List Item) → HoldsItems old items → get nat_cmp old t ≡ None → filter (is_wake_of k) items ≡ Wake t k ∷ []
    → HoldsItems old (filter (λ item. not (is_wake_of k item)) items)
none_unwoken old t k items holds none one = record {
  due = λ u m.
      elim (cases_Bool (is_here t k u m)) [
        | inl e ↦ (let out = rw e at (due_unwoken items t k one u m) in
            ap (λ a. due_of a m (bucket_items_at old a)) (sym (same_place t k u m e).0) ∙ (ap (λ o. due_of t m (items_in t o)) none ∙ (ap without_wake (due_absent old t k items holds none) ∙ sym out)))
        | inr e ↦ (let out = rw e at (due_unwoken items t k one u m) in holds.due u m ∙ sym out)
      ];
  ready = holds.ready;
}

-- the first pending event

pub there_of : (buckets : Buckets) (t m : ℕ) (b : Bucket) (items : List Item) → HoldsItems buckets items → get nat_cmp buckets t ≡ Some b → first_bucket_mote b ≡ Some m → list_any (comes_at t m) items ≡ true
there_of buckets t m b items holds found first =
    let is = first_low b m (holds.ready t b found) first in
    sym (any_same t m (map (item_at t) b.coming.items) items (due_found buckets t m b items holds found)) ∙ (any_at t m b.coming.items ∙ is.there)

pub least_of : (buckets : Buckets) (t m : ℕ) (b : Bucket) (items : List Item) → HoldsItems buckets items → get nat_cmp buckets t ≡ Some b → first_bucket_mote b ≡ Some m
    → ((q : ℕ) → IsSome (get nat_cmp buckets q) → is_gt (nat_cmp t q) ≡ false) → IsLeast t m items
least_of buckets t m b items holds found first low = record {
  is_there = there_of buckets t m b items holds found first;
  is_first = from_due (λ u k. (ltb t u || (eqb u t && not (ltb k m))) ≡ true) items (λ u k h. of u k (get nat_cmp buckets u) refl (any_same u k _ items (holds.due u k) ∙ h));
}
  where
    same : (t u k m : ℕ) → t ≡ u → m ≤ k → (ltb t u || (eqb u t && not (ltb k m))) ≡ true
    same t u k m e h = grind (arith, nat_tests)

    of : (u k : ℕ) (o : Option Bucket) → get nat_cmp buckets u ≡ o → list_any (comes_at u k) (items_in u o) ≡ true → (ltb t u || (eqb u t && not (ltb k m))) ≡ true
    of u k None e h = absurd (false≢true h)
    of u k (Some d) e h =
        let some : IsSome (get nat_cmp buckets u) = subst IsSome (sym e) refl in
        let le = ltb-false u t (sym (not_greater t u) ∙ low u some) in
        elim (cases_order t u) [
          | inl f ↦ (let g : Some b ≡ Some d = sym found ∙ (ap (get nat_cmp buckets) f ∙ e) in let is : b ≡ d = cc in
              let any : list_any (is_pending_for k) b.coming.items ≡ true = ap (λ x. list_any (is_pending_for k) x.coming.items) is ∙ (sym (any_at u k d.coming.items) ∙ h) in
              same t u k m f (any_every (m ≤ k) (is_pending_for k) (λ (c : PendingEvent). m ≤ (goes_to c)) (λ c j n. (let q = eqb-true (goes_to c) k j in omega arith)) b.coming.items any (first_low b m (holds.ready t b found) first).low))
          | inr (inl f) ↦ past_from t m u k f
          | inr (inr f) ↦ absurd (omega arith)
        ]

pub none_of : (buckets : Buckets) (items : List Item) → HoldsItems buckets items → buckets.entries ≡ [] → items ≡ []
none_of buckets [] holds e = refl
none_of buckets (x ∷ xs) holds e =
    let i = eq-eqb (moment_of x) (moment_of x) refl in
    let j = eq-eqb (mote_of x) (mote_of x) refl in
    let there : list_any (comes_at (moment_of x) (mote_of x)) (x ∷ xs) ≡ true = rw (i, j) refl in
    let none : get nat_cmp buckets (moment_of x) ≡ None = ap (λ es. lookup (is_at (nat_cmp (moment_of x))) es) e in
    let same = any_same (moment_of x) (mote_of x) [] (x ∷ xs) (due_absent buckets (moment_of x) (mote_of x) (x ∷ xs) holds none) in
    absurd (false≢true (same ∙ there))

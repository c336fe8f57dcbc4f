-- The events of an agenda for each mote at each moment, while items are added and taken out.
use Rattle.std.proofs.Common.{◌≡◌, ℕ, Bool, true, false, cond, not, ◌&&◌, eqb, if◌then◌else◌, List, [], ◌∷◌, ◌++◌, map, refl, sym, ap, ◌∙◌, inl, inr, append-nil, length-append, arith, zero, suc, ◌<◌, subst, append_assoc, take, get_or, length, ◌+◌, Option, Some, None, unwrap_or}
use Rattle.std.specs.List.{filter, filter_map, list_any, AllByRecursion}
use Rattle.std.specs.Ordering.{nat_cmp, is_eq}
use Rattle.std.specs.BTreeMap.{get}
use Rattle.std.proofs.lemmas.Bool.{cases_Bool, eq-eqb, eqb-true, false≢true, or_right}
use Rattle.std.proofs.lemmas.Bool.Decides.{nat_tests}
use Rattle.std.proofs.lemmas.List.Elements.{filter-append, filter_map-append}
use Rattle.std.proofs.lemmas.List.{map-append, take_more}
use Rattle.radio_packet.specs.declared.arrival.Arrival.{Arrival}
use Rattle.radio_packet.specs.declared.sent.Sent.{Sent}
use Rattle.radio_packet.specs.declared.copy.RadioCopy.{RadioCopy}
use Rattle.radio_packet.specs.declared.fate.Fate.{Fate}
use Rattle.radio_medium.specs.Medium.{copy_of}
use Rattle.window_laws.specs.Agenda.{Item, Wake, Packet, comes_at, is_wake_of, moment_of, mote_of, packets}
use Rattle.window_laws.proofs.Agenda.{packets_append, packets_map, same_place}
use Rattle.window_laws.proofs.Lists.{is_filled, filter_filter, filter_stronger, filter_none, filter_not, every_weaker, every_passes, filled_any}
use Rattle.net_agenda.specs.Buckets.{arrival_of, Due, nothing_due, is_wake, due_all, gathered, due_of, is_here, with_copy, with_wake, without_wake, is_none_left, Buckets, HoldsItems, IsReadyBucket, items_in}
use Rattle.net_agenda.specs.declared.bucket.Bucket.{Bucket}
use Rattle.net_agenda.proofs.Keys.{same_number}

wakes_more : (xs : List Item) (x : Item) → length (filter is_wake (xs ++ x ∷ [])) ≡ length (filter is_wake xs) + length (filter is_wake (x ∷ []))
wakes_more xs x = ap length (filter-append is_wake xs (x ∷ [])) ∙ length-append (filter is_wake xs) (filter is_wake (x ∷ []))

some_more : (xs : List Item) (x : Item) → gathered (xs ++ x ∷ []) ≡ Some (due_all (xs ++ x ∷ []))
some_more [] x = refl
some_more (y ∷ xs) x = refl

abbrev pub due_with : ℕ → List Arrival → Due
due_with w k = record { wakes = w; copies = k }

pub unwrapped : (xs : List Item) → unwrap_or (gathered xs) nothing_due ≡ due_all xs
unwrapped [] = refl
unwrapped (x ∷ xs) = refl

pub two : (w v : ℕ) (k l : List Arrival) → w ≡ v → k ≡ l → due_with w k ≡ due_with v l
two w v k l e f = ap (λ x. due_with x k) e ∙ ap (λ x. due_with v x) f

copy_more : (xs : List Item) (c : RadioCopy) → gathered (xs ++ Packet c ∷ []) ≡ Some (with_copy (arrival_of c) (unwrap_or (gathered xs) nothing_due))
copy_more xs c =
    let w : length (filter is_wake (xs ++ Packet c ∷ [])) ≡ length (filter is_wake xs) = (let e = wakes_more xs (Packet c) in omega arith) in
    let k = ap (map arrival_of) (packets_append xs (Packet c ∷ [])) ∙ map-append arrival_of (packets xs) (c ∷ []) in
    some_more xs (Packet c) ∙ (ap Some (two _ _ _ _ w k) ∙ ap (λ d. Some (with_copy (arrival_of c) d)) (sym (unwrapped xs)))

wake_more : (xs : List Item) (t m : ℕ) → gathered (xs ++ Wake t m ∷ []) ≡ Some (with_wake (unwrap_or (gathered xs) nothing_due))
wake_more xs t m =
    let w : length (filter is_wake (xs ++ Wake t m ∷ [])) ≡ suc (length (filter is_wake xs)) = (let e = wakes_more xs (Wake t m) in omega arith) in
    let k = ap (map arrival_of) (packets_append xs (Wake t m ∷ []) ∙ append-nil (packets xs)) in
    some_more xs (Wake t m) ∙ (ap Some (two _ _ _ _ w k) ∙ ap (λ d. Some (with_wake d)) (sym (unwrapped xs)))

-- one more item, which is for this moment and mote or for another
due_more : (t m : ℕ) (items : List Item) (x : Item) → comes_at t m x ≡ true → due_of t m (items ++ x ∷ []) ≡ gathered (filter (comes_at t m) items ++ x ∷ [])
due_more t m items x e = ap gathered (filter-append (comes_at t m) items (x ∷ []) ∙ ap (λ l. filter (comes_at t m) items ++ l) (one e))
  where
    one : comes_at t m x ≡ true → filter (comes_at t m) (x ∷ []) ≡ x ∷ []
    one e = rw e refl

due_same : (t m : ℕ) (items : List Item) (x : Item) → comes_at t m x ≡ false → due_of t m (items ++ x ∷ []) ≡ due_of t m items
due_same t m items x e = ap gathered (filter-append (comes_at t m) items (x ∷ []) ∙ (ap (λ l. filter (comes_at t m) items ++ l) (none e) ∙ append-nil _))
  where
    none : comes_at t m x ≡ false → filter (comes_at t m) (x ∷ []) ≡ []
    none e = rw e refl

pub due_copy : (items : List Item) (c : RadioCopy) (t m : ℕ)
    → due_of t m (items ++ Packet c ∷ []) ≡ (if is_here c.at c.to t m then Some (with_copy (arrival_of c) (unwrap_or (due_of c.at c.to items) nothing_due)) else due_of t m items)
due_copy items c t m =
    elim (cases_Bool (is_here c.at c.to t m)) [
      | inl e ↦ (let h = same_place c.at c.to t m e in
          rw e (due_more t m items (Packet c) e ∙ (copy_more (filter (comes_at t m) items) c
          ∙ ap (λ o. Some (with_copy (arrival_of c) (unwrap_or o nothing_due))) (ap (λ u. due_of u m items) (sym h.0) ∙ ap (λ k. due_of c.at k items) (sym h.1)))))
      | inr e ↦ rw e (due_same t m items (Packet c) e)
    ]

pub due_wake : (items : List Item) (u k t m : ℕ)
    → due_of t m (items ++ Wake u k ∷ []) ≡ (if is_here u k t m then Some (with_wake (unwrap_or (due_of u k items) nothing_due)) else due_of t m items)
due_wake items u k t m =
    elim (cases_Bool (is_here u k t m)) [
      | inl e ↦ (let h = same_place u k t m e in
          rw e (due_more t m items (Wake u k) e ∙ (wake_more (filter (comes_at t m) items) u k
          ∙ ap (λ o. Some (with_wake (unwrap_or o nothing_due))) (ap (λ a. due_of a m items) (sym h.0) ∙ ap (λ b. due_of u b items) (sym h.1)))))
      | inr e ↦ rw e (due_same t m items (Wake u k) e)
    ]

-- comparisons of plain numbers
both_places : (u k t m a b : ℕ) → (eqb a t && eqb b m) ≡ true → (eqb u t && eqb k m) ≡ true → not (eqb a u && eqb b k) ≡ false
both_places u k t m a b h e = grind (arith, nat_tests)

other_place : (u k t m a b : ℕ) → (eqb u t && eqb k m) ≡ false → (eqb a t && eqb b m) ≡ true → not (eqb a u && eqb b k) ≡ true
other_place u k t m a b h e = grind (arith, nat_tests)

-- all due events, taken out
pub due_taken : (items : List Item) (u k t m : ℕ)
    → due_of t m (filter (λ item. not (comes_at u k item)) items) ≡ (if is_here u k t m then None else due_of t m items)
due_taken items u k t m =
    elim (cases_Bool (is_here u k t m)) [
      | inl e ↦ rw e (ap gathered (filter_filter (comes_at t m) (λ item. not (comes_at u k item)) items
          ∙ filter_none (λ item. not (comes_at u k item)) (filter (comes_at t m) items)
          (every_weaker _ _ (λ item h. both_places u k t m (moment_of item) (mote_of item) h e) _ (every_passes (comes_at t m) items))))
      | inr e ↦ rw e (ap gathered (filter_stronger (comes_at t m) (λ item. not (comes_at u k item)) (λ item h. other_place u k t m (moment_of item) (mote_of item) e h) items))
    ]

-- a mote's wake, taken out

-- the items for one mote, without its wakes
wakeless : (k : ℕ) (xs : List Item) → AllByRecursion (λ item. mote_of item ≡ k) xs → filter (λ item. not (is_wake_of k item)) xs ≡ map Packet (packets xs)
wakeless k [] h = refl
wakeless k (Wake u m ∷ xs) h = let e : eqb m k ≡ true = eq-eqb m k h.0 in rw e (wakeless k xs h.1)
wakeless k (Packet c ∷ xs) h = ap (λ l. Packet c ∷ l) (wakeless k xs h.1)

no_wake : (cs : List RadioCopy) → length (filter is_wake (map Packet cs)) ≡ 0
no_wake [] = refl
no_wake (c ∷ cs) = no_wake cs

gathered_packets : (xs : List Item) → gathered (map Packet (packets xs)) ≡ without_wake (gathered xs)
gathered_packets [] = refl
gathered_packets (x ∷ xs) = of_copies (packets (x ∷ xs)) ∙ refl
  where
    of_copies : (cs : List RadioCopy) → gathered (map Packet cs) ≡ (if is_none_left (map arrival_of cs) then None else Some (record { wakes = 0; copies = map arrival_of cs }))
    of_copies [] = refl
    of_copies (c ∷ cs) = ap Some (two _ _ _ _ (no_wake (c ∷ cs)) (ap (map arrival_of) (packets_map (c ∷ cs))))

pub due_at_mote : (t k : ℕ) (items : List Item) → AllByRecursion (λ item. mote_of item ≡ k) (filter (comes_at t k) items)
due_at_mote t k items = every_weaker _ _ (λ item h. (same_place (moment_of item) (mote_of item) t k h).1) _ (every_passes (comes_at t k) items)

pub due_unwoken : (items : List Item) (u k : ℕ) → filter (is_wake_of k) items ≡ Wake u k ∷ [] → (t m : ℕ)
    → due_of t m (filter (λ item. not (is_wake_of k item)) items) ≡ (if is_here u k t m then without_wake (due_of u k items) else due_of t m items)
due_unwoken items u k one t m =
    elim (cases_Bool (is_here u k t m)) [
      | inl e ↦ (let h = same_place u k t m e in
          rw e (ap gathered (filter_filter (comes_at t m) (λ item. not (is_wake_of k item)) items)
          ∙ (ap (λ a. gathered (filter (λ item. not (is_wake_of k item)) (filter (comes_at a m) items))) (sym h.0)
          ∙ (ap (λ b. gathered (filter (λ item. not (is_wake_of k item)) (filter (comes_at u b) items))) (sym h.1)
          ∙ (ap gathered (wakeless k (filter (comes_at u k) items) (due_at_mote u k items)) ∙ gathered_packets (filter (comes_at u k) items))))))
      | inr e ↦ rw e (ap gathered (filter_filter (comes_at t m) (λ item. not (is_wake_of k item)) items
          ∙ filter_not (is_wake_of k) (filter (comes_at t m) items) (filter_filter (is_wake_of k) (comes_at t m) items ∙ (ap (filter (comes_at t m)) one ∙ elsewhere e))))
    ]
  where
    elsewhere : is_here u k t m ≡ false → filter (comes_at t m) (Wake u k ∷ []) ≡ []
    elsewhere e = rw e refl

-- the events without a mote's wakes, of which there may be several
pub due_asleep : (items : List Item) (k t m : ℕ)
    → due_of t m (filter (λ item. not (is_wake_of k item)) items) ≡ (if eqb k m then without_wake (due_of t m items) else due_of t m items)
due_asleep items k t m =
    ap gathered (filter_filter (comes_at t m) (λ item. not (is_wake_of k item)) items) ∙ elim (cases_Bool (eqb k m)) [
      | inl e ↦ rw e (ap (λ j. gathered (filter (λ item. not (is_wake_of j item)) due)) (eqb-true k m e) ∙ (ap gathered (wakeless m due (due_at_mote t m items)) ∙ gathered_packets due))
      | inr e ↦ rw e (ap gathered (filter_not (is_wake_of k) due (filter_none (is_wake_of k) due (every_weaker _ _ (λ item h. other_mote k m e item h) due (due_at_mote t m items)))))
    ]
  where
    due : List Item
    due = filter (comes_at t m) items

    other_mote : (k m : ℕ) → eqb k m ≡ false → (item : Item) → mote_of item ≡ m → is_wake_of k item ≡ false
    other_mote k m e (Wake u j) h = apart k m j e h
      where
        apart : (k m j : ℕ) → eqb k m ≡ false → j ≡ m → eqb j k ≡ false
        apart k m j e h = grind (arith, nat_tests)
    other_mote k m e (Packet c) h = refl

-- two lists with the same due events still have the same due events after one more item is added to both
pub due_both : (t m : ℕ) (xs ys : List Item) (x : Item) → due_of t m xs ≡ due_of t m ys → due_of t m (xs ++ x ∷ []) ≡ due_of t m (ys ++ x ∷ [])
due_both t m xs ys (Packet c) same =
    due_copy xs c t m ∙ (elim (cases_Bool (is_here c.at c.to t m)) [
      | inl e ↦ (let h = same_place c.at c.to t m e in
          let at : due_of c.at c.to xs ≡ due_of c.at c.to ys = ap (λ u. due_of u c.to xs) h.0 ∙ (ap (λ k. due_of t k xs) h.1 ∙ (same ∙ (ap (λ k. due_of t k ys) (sym h.1) ∙ ap (λ u. due_of u c.to ys) (sym h.0)))) in
          rw e (ap (λ o. Some (with_copy (arrival_of c) (unwrap_or o nothing_due))) at))
      | inr e ↦ rw e same
    ] ∙ sym (due_copy ys c t m))
due_both t m xs ys (Wake u k) same =
    due_wake xs u k t m ∙ (elim (cases_Bool (is_here u k t m)) [
      | inl e ↦ (let h = same_place u k t m e in
          let at : due_of u k xs ≡ due_of u k ys = ap (λ a. due_of a k xs) h.0 ∙ (ap (λ b. due_of t b xs) h.1 ∙ (same ∙ (ap (λ b. due_of t b ys) (sym h.1) ∙ ap (λ a. due_of a k ys) (sym h.0)))) in
          rw e (ap (λ o. Some (with_wake (unwrap_or o nothing_due))) at))
      | inr e ↦ rw e same
    ] ∙ sym (due_wake ys u k t m))

-- an item at another moment doesn't change the due events
pub due_elsewhere : (u m t : ℕ) (items : List Item) (x : Item) → moment_of x ≡ t → eqb t u ≡ false → due_of u m (items ++ x ∷ []) ≡ due_of u m items
due_elsewhere u m t items x at e = due_same u m items x (other (moment_of x) (mote_of x) at)
  where
    other : (a b : ℕ) → a ≡ t → (eqb a u && eqb b m) ≡ false
    other a b f = grind (arith, nat_tests)

-- a change at one moment: the bucket of this moment becomes o
pub held : (old new : Buckets) (t : ℕ) (o : Option Bucket) (items more : List Item) → HoldsItems old items
    → ((q : ℕ) → get nat_cmp new q ≡ cond (is_eq (nat_cmp t q)) o (get nat_cmp old q))
    → ((b : Bucket) → o ≡ Some b → IsReadyBucket b)
    → ((m : ℕ) → due_of t m (items_in t o) ≡ due_of t m more)
    → ((u m : ℕ) → eqb t u ≡ false → due_of u m more ≡ due_of u m items)
    → HoldsItems new more
held old new t o items more holds updates ready there elsewhere = record {
  due = λ u m.
      elim (cases_Bool (eqb t u)) [
        | inl e ↦ (let g = rw e at (found u) in ap (λ x. due_of u m (items_in u x)) g ∙ subst (λ u. due_of u m (items_in u o) ≡ due_of u m more) (eqb-true t u e) (there m))
        | inr e ↦ (let g = rw e at (found u) in ap (λ x. due_of u m (items_in u x)) g ∙ (holds.due u m ∙ sym (elsewhere u m e)))
      ];
  ready = λ u b f.
      elim (cases_Bool (eqb t u)) [
        | inl e ↦ (let g = rw e at (found u) in ready b (sym g ∙ f))
        | inr e ↦ (let g = rw e at (found u) in holds.ready u b (sym g ∙ f))
      ];
}
  where
    found : (u : ℕ) → get nat_cmp new u ≡ (if eqb t u then o else get nat_cmp old u)
    found u = updates u ∙ ap (λ b. if b then o else get nat_cmp old u) (same_number t u)

-- a bucket that is changed and then taken out
pub then_out : {A : Type 0} (b : Bool) (o : Option A) (x : Option A) → cond b None (cond b o x) ≡ cond b None x
then_out true o x = refl
then_out false o x = refl

-- the least moment and mote, if there is one

-- if two lists have the same due events, one has a due event if and only if the other has one
pub any_same : (t m : ℕ) (xs ys : List Item) → due_of t m xs ≡ due_of t m ys → list_any (comes_at t m) xs ≡ list_any (comes_at t m) ys
any_same t m xs ys e = sym (filled_any (comes_at t m) xs) ∙ (both _ _ e ∙ filled_any (comes_at t m) ys)
  where
    both : (xs ys : List Item) → gathered xs ≡ gathered ys → is_filled xs ≡ is_filled ys
    both [] [] e = refl
    both [] (y ∷ ys) e = absurd (cc)
    both (x ∷ xs) [] e = absurd (cc)
    both (x ∷ xs) (y ∷ ys) e = refl

-- a property of each moment and mote with a due event is a property of each item
pub from_due : (P : ℕ → ℕ → Type 0) (items : List Item) → ((t m : ℕ) → list_any (comes_at t m) items ≡ true → P t m) → AllByRecursion (λ item. P (moment_of item) (mote_of item)) items
from_due P [] f = tt
from_due P (x ∷ xs) f = (
  f (moment_of x) (mote_of x) (let i = eq-eqb (moment_of x) (moment_of x) refl in let j = eq-eqb (mote_of x) (mote_of x) refl in rw (i, j) refl),
  from_due P xs (λ t m e. f t m (or_right _ _ e)),
)

pub zero_from : (n : ℕ) → (0 < n → false ≡ true) → n ≡ 0
zero_from zero h = refl
zero_from (suc n) h = absurd (false≢true (h (omega arith)))

pub more_copies : (items : List Item) (cs : List RadioCopy) (i : ℕ) (d : RadioCopy) → i < length cs
    → (items ++ map Packet (take i cs)) ++ Packet (get_or cs i d) ∷ [] ≡ items ++ map Packet (take (i + 1) cs)
more_copies items cs i d h = let more = take_more cs i d h in rw more (simp (map-append, append_assoc))

-- the copies of one more fate
pub more_fates : (items : List Item) (sent : Sent) (fs : List Fate) (i : ℕ) (d : Fate) → i < length fs
    → (items ++ map Packet (filter_map (copy_of sent) (take i fs))) ++ map Packet (filter_map (copy_of sent) (get_or fs i d ∷ [])) ≡ items ++ map Packet (filter_map (copy_of sent) (take (i + 1) fs))
more_fates items sent fs i d h = let more = take_more fs i d h in rw more (simp (filter_map-append, map-append, append_assoc))

-- The list that is read from the buckets has the same items as the list that the buckets represent.
use Rattle.std.proofs.Common.{◌≡◌, ℕ, zero, suc, ◌≤◌, Bool, true, false, not, ◌&&◌, ◌||◌, eqb, ltb, List, [], ◌∷◌, ◌++◌, length, map, replicate, refl, sym, ap, ◌∙◌, subst, inl, inr, arith, append-nil, Some, None, unwrap_or}
use Rattle.std.specs.List.{filter, list_any, flat_map, AllByRecursion}
use Rattle.std.specs.List.Sorted.{IsPermutation, IsStrictlySortedBy}
use Rattle.std.specs.Map.{lookup, keys_of}
use Rattle.std.specs.BTreeMap.{is_at, IsOrdered}
use Rattle.std.specs.Ordering.{is_eq, nat_cmp}
use Rattle.std.specs.declared.cmp.Ordering.TheVariants.{Less}
use Rattle.std.proofs.lemmas.Bool.{cases_Bool, eq-eqb, eqb-true, false≢true, lt-ltb}
use Rattle.std.proofs.lemmas.Bool.Decides.{nat_tests}
use Rattle.std.proofs.lemmas.List.Elements.{filter-append}
use Rattle.std.proofs.lemmas.List.Sorted.{IsPermutation-refl, IsPermutation-sym, IsPermutation-trans, IsPermutation-append, IsPermutation-filter_both}
use Rattle.std.proofs.lemmas.Map.Keys.{sorted_head, sorted_tail}
use Rattle.window_laws.specs.Agenda.{Item, Wake, Packet, comes_at, moment_of, mote_of, packets}
use Rattle.window_laws.proofs.Agenda.{packets_filter, same_place}
use Rattle.window_laws.proofs.Lists.{every_passes, no_more}
use Rattle.net_agenda.specs.declared.bucket.Bucket.{Bucket}
use Rattle.net_agenda.specs.declared.bucket.PendingEvent.{PendingEvent}
use Rattle.net_agenda.specs.Buckets.{arrival_of, Due, nothing_due, is_wake, due_all, gathered, due_of, is_here, item_at, items_in, Buckets, HoldsItems}
use Rattle.net_agenda.specs.Items.{copy_at, bucket_items, items_of, is_wake_at, AreSameItems}
use Rattle.net_agenda.proofs.Gathered.{unwrapped, due_taken, any_same}
use Rattle.net_agenda.proofs.Keys.{same_number}
use Rattle.net_agenda.proofs.Moments.{moment_at}

-- the due events among the items of all buckets are those in the bucket of their moment

abbrev pub Entries : Type 0
Entries = List (ℕ × Bucket)

abbrev pub items_among : Entries → List Item
items_among entries = flat_map (λ (entry : ℕ × Bucket). bucket_items entry.0 entry.1) entries

not_among : (key : ℕ) (es : Entries) → AllByRecursion (λ q. nat_cmp key q ≡ Less) (keys_of es) → lookup (is_at (nat_cmp key)) es ≡ None
not_among key [] h = refl
not_among key (e ∷ es) h = let f : is_at (nat_cmp key) e.0 ≡ false = ap is_eq h.0 in rw f (not_among key es h.1)

none_elsewhere : (t m u : ℕ) (cs : List PendingEvent) → eqb t u ≡ false → filter (comes_at t m) (map (item_at u) cs) ≡ []
none_elsewhere t m u [] e = refl
none_elsewhere t m u (c ∷ cs) e = let f : comes_at t m (item_at u c) ≡ false = other (moment_of (item_at u c)) (mote_of (item_at u c)) (moment_at u c) in rw f (none_elsewhere t m u cs e)
  where
    other : (a b : ℕ) → a ≡ u → (eqb a t && eqb b m) ≡ false
    other a b f = grind (arith, nat_tests)

at_its_moment : (es : Entries) → IsStrictlySortedBy nat_cmp (keys_of es) → (t m : ℕ) → filter (comes_at t m) (items_among es) ≡ filter (comes_at t m) (items_in t (lookup (is_at (nat_cmp t)) es))
at_its_moment [] sorted t m = refl
at_its_moment (e ∷ es) sorted t m = filter-append (comes_at t m) (bucket_items e.0 e.1) (items_among es) ∙ of (at_its_moment es (sorted_tail nat_cmp e.0 (keys_of es) sorted) t m)
  where
    found : is_at (nat_cmp t) e.0 ≡ true → Some e.1 ≡ lookup (is_at (nat_cmp t)) (e ∷ es)
    found f = rw f refl

    passed : is_at (nat_cmp t) e.0 ≡ false → lookup (is_at (nat_cmp t)) es ≡ lookup (is_at (nat_cmp t)) (e ∷ es)
    passed f = rw f refl

    of : filter (comes_at t m) (items_among es) ≡ filter (comes_at t m) (items_in t (lookup (is_at (nat_cmp t)) es))
        → filter (comes_at t m) (bucket_items e.0 e.1) ++ filter (comes_at t m) (items_among es) ≡ filter (comes_at t m) (items_in t (lookup (is_at (nat_cmp t)) (e ∷ es)))
    of later =
        elim (cases_Bool (eqb t e.0)) [
          | inl h ↦ (let f : is_at (nat_cmp t) e.0 ≡ true = same_number t e.0 ∙ h in
              let none : lookup (is_at (nat_cmp t)) es ≡ None = ap (λ k. lookup (is_at (nat_cmp k)) es) (eqb-true t e.0 h) ∙ not_among e.0 es (sorted_head nat_cmp e.0 (keys_of es) sorted) in
              let rest : filter (comes_at t m) (items_among es) ≡ [] = later ∙ ap (λ o. filter (comes_at t m) (items_in t o)) none in
              ap (λ l. filter (comes_at t m) (bucket_items e.0 e.1) ++ l) rest ∙ (append-nil _ ∙ (ap (λ k. filter (comes_at t m) (bucket_items k e.1)) (sym (eqb-true t e.0 h)) ∙ ap (λ o. filter (comes_at t m) (items_in t o)) (found f))))
          | inr h ↦ (let f : is_at (nat_cmp t) e.0 ≡ false = same_number t e.0 ∙ h in
              ap (λ l. l ++ filter (comes_at t m) (items_among es)) (none_elsewhere t m e.0 e.1.coming.items h) ∙ (later ∙ ap (λ o. filter (comes_at t m) (items_in t o)) (passed f)))
        ]

-- lists that have the same due events for each moment and mote have the same items

abbrev IsSame : List Item → List Item → Type 0
IsSame xs ys = (t m : ℕ) → due_of t m xs ≡ due_of t m ys

put_back : (t m : ℕ) (xs : List Item) → AllByRecursion (λ item. comes_at t m item ≡ true) xs → map (copy_at t m) (map arrival_of (packets xs)) ≡ packets xs
put_back t m [] h = refl
put_back t m (Wake u k ∷ xs) h = put_back t m xs h.1
put_back t m (Packet c ∷ xs) h = ap (λ l. copy_at t m (arrival_of c) ∷ l) (put_back t m xs h.1) ∙ ap (λ x. x ∷ packets xs) same
  where
    same : copy_at t m (arrival_of c) ≡ c
    same = let there = same_place c.at c.to t m h.0 in
        ap (λ x. copy_at x m (arrival_of c)) (sym there.0) ∙ ap (λ x. copy_at c.at x (arrival_of c)) (sym there.1)

wakes_are : (t m : ℕ) (xs : List Item) → AllByRecursion (λ item. comes_at t m item ≡ true) xs → filter is_wake xs ≡ replicate (length (filter is_wake xs)) (Wake t m)
wakes_are t m [] h = refl
wakes_are t m (Wake u k ∷ xs) h =
    let there = same_place u k t m h.0 in
    ap (λ l. Wake u k ∷ l) (wakes_are t m xs h.1) ∙ (ap (λ x. Wake x k ∷ replicate (length (filter is_wake xs)) (Wake t m)) there.0 ∙ ap (λ x. Wake t x ∷ replicate (length (filter is_wake xs)) (Wake t m)) there.1)
wakes_are t m (Packet c ∷ xs) h = wakes_are t m xs h.1

not_wakes : (xs : List Item) → filter (λ item. not (is_wake item)) xs ≡ map Packet (packets xs)
not_wakes [] = refl
not_wakes (Wake u k ∷ xs) = not_wakes xs
not_wakes (Packet c ∷ xs) = ap (λ l. Packet c ∷ l) (not_wakes xs)

-- the due events, turned back into items
abbrev items_of_due : (t m : ℕ) → Due → List Item
items_of_due t m due = replicate due.wakes (Wake t m) ++ map Packet (map (copy_at t m) due.copies)

given_permutes : (t m : ℕ) (xs : List Item) → AllByRecursion (λ item. comes_at t m item ≡ true) xs → IsPermutation xs (items_of_due t m (due_all xs))
given_permutes t m xs h =
    subst (λ l. IsPermutation xs (replicate (length (filter is_wake xs)) (Wake t m) ++ map Packet l)) (sym (put_back t m xs h))
    (subst (λ l. IsPermutation xs (replicate (length (filter is_wake xs)) (Wake t m) ++ l)) (not_wakes xs)
    (subst (λ l. IsPermutation xs (l ++ filter (λ item. not (is_wake item)) xs)) (wakes_are t m xs h) (IsPermutation-filter_both is_wake (λ item. not (is_wake item)) (λ item. refl) xs)))

due_alls : (t m : ℕ) (xs ys : List Item) → due_of t m xs ≡ due_of t m ys → due_all (filter (comes_at t m) xs) ≡ due_all (filter (comes_at t m) ys)
due_alls t m xs ys e = sym (unwrapped (filter (comes_at t m) xs)) ∙ (ap (λ o. unwrap_or o nothing_due) e ∙ unwrapped (filter (comes_at t m) ys))

permutes_here : (t m : ℕ) (xs ys : List Item) → due_of t m xs ≡ due_of t m ys → IsPermutation (filter (comes_at t m) xs) (filter (comes_at t m) ys)
permutes_here t m xs ys e =
    IsPermutation-trans _ _ _ (subst (λ d. IsPermutation (filter (comes_at t m) xs) (items_of_due t m d)) (due_alls t m xs ys e) (given_permutes t m (filter (comes_at t m) xs) (every_passes (comes_at t m) xs)))
    (IsPermutation-sym _ _ (given_permutes t m (filter (comes_at t m) ys) (every_passes (comes_at t m) ys)))

packets_here : (t m : ℕ) (xs ys : List Item) → due_of t m xs ≡ due_of t m ys → packets (filter (comes_at t m) xs) ≡ packets (filter (comes_at t m) ys)
packets_here t m xs ys e =
    sym (put_back t m (filter (comes_at t m) xs) (every_passes (comes_at t m) xs)) ∙ (ap (λ (d : Due). map (copy_at t m) d.copies) (due_alls t m xs ys e) ∙ put_back t m (filter (comes_at t m) ys) (every_passes (comes_at t m) ys))

-- the packets that pass a test, and the other packets
parted : (p : Item → Bool) (items : List Item) → IsPermutation (packets items) (packets (filter p items) ++ packets (filter (λ item. not (p item)) items))
parted p items =
    subst (λ l. IsPermutation (packets items) (l ++ packets (filter (λ item. not (p item)) items))) (sym (packets_filter p items))
    (subst (λ l. IsPermutation (packets items) (filter (λ c. p (Packet c)) (packets items) ++ l)) (sym (packets_filter (λ item. not (p item)) items))
    (IsPermutation-filter_both (λ c. p (Packet c)) (λ c. not (p (Packet c))) (λ c. refl) (packets items)))

none_same : (ys : List Item) → IsSame [] ys → [] ≡ ys
none_same [] same = refl
none_same (y ∷ ys) same =
    let i = eq-eqb (moment_of y) (moment_of y) refl in
    let j = eq-eqb (mote_of y) (mote_of y) refl in
    let there : list_any (comes_at (moment_of y) (mote_of y)) (y ∷ ys) ≡ true = rw (i, j) refl in
    absurd (false≢true (any_same (moment_of y) (mote_of y) [] (y ∷ ys) (same (moment_of y) (mote_of y)) ∙ there))

rest_same : (t m : ℕ) (xs ys : List Item) → IsSame xs ys → IsSame (filter (λ item. not (comes_at t m item)) xs) (filter (λ item. not (comes_at t m item)) ys)
rest_same t m xs ys same u k = due_taken xs t m u k ∙ (elim (cases_Bool (is_here t m u k)) [ inl e ↦ rw e refl | inr e ↦ rw e (same u k) ] ∙ sym (due_taken ys t m u k))

pub same_permute : (n : ℕ) (xs ys : List Item) → length xs ≤ n → IsSame xs ys → IsPermutation xs ys × IsPermutation (packets xs) (packets ys)
same_permute n [] ys h same = let e = none_same ys same in (subst (IsPermutation []) e (IsPermutation-refl []), subst (λ l. IsPermutation [] (packets l)) e (IsPermutation-refl []))
same_permute zero (x ∷ xs) ys h same = absurd (omega arith)
same_permute (suc n) (x ∷ xs) ys h same =
    let later = same_permute n (filter others (x ∷ xs)) (filter others ys) fewer (rest_same t m (x ∷ xs) ys same) in (
      IsPermutation-trans _ _ _ (IsPermutation-filter_both p others (λ item. refl) (x ∷ xs))
          (IsPermutation-trans _ _ _ (IsPermutation-append _ _ _ _ (permutes_here t m (x ∷ xs) ys (same t m)) later.0) (IsPermutation-sym _ _ (IsPermutation-filter_both p others (λ item. refl) ys))),
      IsPermutation-trans _ _ _ (parted p (x ∷ xs))
          (IsPermutation-trans _ _ _ (IsPermutation-append _ _ _ _ (subst (IsPermutation (packets (filter p (x ∷ xs)))) (packets_here t m (x ∷ xs) ys (same t m)) (IsPermutation-refl _)) later.1)
          (IsPermutation-sym _ _ (parted p ys))),
    )
  where
    t : ℕ
    t = moment_of x

    m : ℕ
    m = mote_of x

    p : Item → Bool
    p = comes_at t m

    others : Item → Bool
    others item = not (comes_at t m item)

    fewer : length (filter others (x ∷ xs)) ≤ n
    fewer =
        let i = eq-eqb t t refl in
        let j = eq-eqb m m refl in
        let gone : filter others (x ∷ xs) ≡ filter others xs = rw (i, j) refl in
        let same_length = ap length gone in
        let less = no_more others xs in
        omega arith

-- wakes

any_due_wake : (u k : ℕ) (items : List Item) → list_any (is_wake_at u k) items ≡ list_any is_wake (filter (comes_at u k) items)
any_due_wake u k [] = refl
any_due_wake u k (x ∷ xs) =
    elim (cases_Bool (comes_at u k x)) [
      | inl e ↦ rw e (ap (λ b. is_wake x || b) (any_due_wake u k xs))
      | inr e ↦ rw e (any_due_wake u k xs)
    ]

any_counted : (xs : List Item) → list_any is_wake xs ≡ ltb 0 (length (filter is_wake xs))
any_counted [] = refl
any_counted (Wake u k ∷ xs) = sym (lt-ltb 0 (suc (length (filter is_wake xs))) (omega arith))
any_counted (Packet c ∷ xs) = any_counted xs

any_wake : (u k : ℕ) (items : List Item) → list_any (is_wake_at u k) items ≡ ltb 0 (due_all (filter (comes_at u k) items)).wakes
any_wake u k items = any_due_wake u k items ∙ any_counted (filter (comes_at u k) items)

-- the law

pub same_due : (buckets : Buckets) → IsOrdered nat_cmp buckets → (items : List Item) → HoldsItems buckets items → IsSame items (items_of buckets)
same_due buckets ordered items holds t m = sym (holds.due t m) ∙ ap gathered (sym (at_its_moment buckets.entries ordered t m))

pub items_held : (buckets : Buckets) → IsOrdered nat_cmp buckets → (items : List Item) → HoldsItems buckets items → AreSameItems items (items_of buckets)
items_held buckets ordered items holds =
    let same = same_due buckets ordered items holds in
    let permuted = same_permute (length items) items (items_of buckets) (omega arith) same in
    record {
      same_packets = permuted.1;
      same_wakes = λ u k. any_wake u k items ∙ (ap (λ (d : Due). ltb 0 d.wakes) (due_alls u k items (items_of buckets) (same u k)) ∙ sym (any_wake u k (items_of buckets)));
      permuted = λ one. permuted.0;
    }

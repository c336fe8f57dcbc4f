-- The copies of a packet that arrive at one moment, added one after another.
use Rattle.std.proofs.Common.{◌≡◌, ℕ, suc, ◌+◌, ◌-◌, ◌<◌, cond, false, eqb, List, [], ◌∷◌, ◌++◌, length, map, take, drop, get_or, refl, sym, ap, ◌∙◌, subst, append_assoc, take_all, length-drop, append-nil, add-one, arith, Option, Some, None, Result, Ok, Err, IfOk, OnOk}
use Rattle.std.specs.List.{filter_map, AllByRecursion}
use Rattle.std.specs.Ordering.{nat_cmp, is_eq}
use Rattle.std.specs.BTreeMap.{get}
use Rattle.std.proofs.lemmas.List.{map-append}
use Rattle.std.proofs.lemmas.List.Elements.{filter_map-append}
use Rattle.std.proofs.Math.Seq.{take-add, drop-cons}
use Rattle.radio_packet.specs.declared.sent.Sent.{Sent}
use Rattle.radio_packet.specs.declared.copy.RadioCopy.{RadioCopy}
use Rattle.radio_packet.specs.declared.fate.Fate.{Fate}
use Rattle.radio_medium.specs.Medium.{copy_of}
use Rattle.window_laws.specs.Agenda.{Item, Packet, moment_of}
use Rattle.net_agenda.specs.declared.bucket.Bucket.{Bucket}
use Rattle.net_agenda.specs.declared.bucket.PendingEvent.{PendingEvent}
use Rattle.net_agenda.specs.Buckets.{due_of, is_nothing, Buckets, DescendIfSorted, HoldsItems, IsReadyBucket, item_at, bucket_items_at}
use Rattle.net_agenda.proofs.Gathered.{due_both, due_elsewhere, held, more_copies, more_fates}
use Rattle.net_agenda.proofs.Moments.{moment_at}

-- the copies of one packet that have these fates
abbrev pub copies_with : Sent → List Fate → List Item
copies_with sent fates = map Packet (filter_map (copy_of sent) fates)

-- the copy that arrives at a mote at a moment
abbrev pub copy_to : (moment mote : ℕ) → Sent → Item
copy_to moment mote sent = Packet (record { at = moment; to = mote; sender = sent.sender; number = sent.number; value = sent.value })

one_copy : (sent : Sent) (f : Fate) (t : ℕ) → f.at ≡ Some t → copies_with sent (f ∷ []) ≡ copy_to t f.to sent ∷ []
one_copy sent f t e = rw e refl

no_copy : (sent : Sent) (f : Fate) → f.at ≡ None → copies_with sent (f ∷ []) ≡ []
no_copy sent f e = rw e refl

pub like_more : (t : ℕ) (before now : List PendingEvent) (sent : Sent) (fs : List Fate) (i : ℕ) (f : Fate) (c : PendingEvent) → i < length fs → (get_or fs i f).at ≡ Some t
    → item_at t c ≡ copy_to t (get_or fs i f).to sent → map (item_at t) now ≡ map (item_at t) before ++ copies_with sent (take i fs)
    → map (item_at t) (now ++ c ∷ []) ≡ map (item_at t) before ++ copies_with sent (take (i + 1) fs)
like_more t before now sent fs i f c low at is so =
    map-append (item_at t) now (c ∷ []) ∙ (ap (λ l. l ++ item_at t c ∷ []) so
    ∙ (ap (λ l. (map (item_at t) before ++ copies_with sent (take i fs)) ++ l) (ap (λ x. x ∷ []) is ∙ sym (one_copy sent (get_or fs i f) t at)) ∙ more_fates (map (item_at t) before) sent fs i f low))

pub same_more : (t : ℕ) (before now : List PendingEvent) (cs : List RadioCopy) (i : ℕ) (d : RadioCopy) (c : PendingEvent) → i < length cs → (get_or cs i d).at ≡ t
    → item_at (get_or cs i d).at c ≡ Packet (get_or cs i d) → map (item_at t) now ≡ map (item_at t) before ++ map Packet (take i cs)
    → map (item_at t) (now ++ c ∷ []) ≡ map (item_at t) before ++ map Packet (take (i + 1) cs)
same_more t before now cs i d c low at is so =
    map-append (item_at t) now (c ∷ []) ∙ (ap (λ l. l ++ item_at t c ∷ []) so
    ∙ (ap (λ x. (map (item_at t) before ++ map Packet (take i cs)) ++ x ∷ []) (ap (λ u. item_at u c) (sym at) ∙ is) ∙ more_copies (map (item_at t) before) cs i d low))

pub lost_more : (before : List Item) (sent : Sent) (fs : List Fate) (i : ℕ) (f : Fate) → i < length fs → (get_or fs i f).at ≡ None
    → before ++ copies_with sent (take i fs) ≡ before ++ copies_with sent (take (i + 1) fs)
lost_more before sent fs i f low at =
    sym (append-nil _) ∙ (ap (λ l. (before ++ copies_with sent (take i fs)) ++ l) (sym (no_copy sent (get_or fs i f) at)) ∙ more_fates before sent fs i f low)

-- many events are added at one moment

all_then : (t : ℕ) (cs : List PendingEvent) → AllByRecursion (λ item. moment_of item ≡ t) (map (item_at t) cs)
all_then t [] = tt
all_then t (c ∷ cs) = (moment_at t c, all_then t cs)

all_after : (t : ℕ) (xs ys : List Item) → AllByRecursion (λ item. moment_of item ≡ t) (xs ++ ys) → AllByRecursion (λ item. moment_of item ≡ t) ys
all_after t [] ys h = h
all_after t (x ∷ xs) ys h = all_after t xs ys h.1

due_many : (t m : ℕ) (xs ys zs : List Item) → due_of t m xs ≡ due_of t m ys → due_of t m (xs ++ zs) ≡ due_of t m (ys ++ zs)
due_many t m xs ys [] same = ap (due_of t m) (append-nil xs) ∙ (same ∙ ap (due_of t m) (sym (append-nil ys)))
due_many t m xs ys (z ∷ zs) same =
    ap (due_of t m) (sym (append_assoc xs (z ∷ []) zs)) ∙ (due_many t m (xs ++ z ∷ []) (ys ++ z ∷ []) zs (due_both t m xs ys z same) ∙ ap (due_of t m) (append_assoc ys (z ∷ []) zs))

many_elsewhere : (u m t : ℕ) (items zs : List Item) → AllByRecursion (λ item. moment_of item ≡ t) zs → eqb t u ≡ false → due_of u m (items ++ zs) ≡ due_of u m items
many_elsewhere u m t items [] h e = ap (due_of u m) (append-nil items)
many_elsewhere u m t items (z ∷ zs) h e =
    ap (due_of u m) (sym (append_assoc items (z ∷ []) zs)) ∙ (many_elsewhere u m t (items ++ z ∷ []) zs h.1 e ∙ due_elsewhere u m t items z h.0 e)

pub put_many : (old new : Buckets) (t : ℕ) (b : Bucket) (items zs : List Item) → HoldsItems old items → map (item_at t) b.coming.items ≡ bucket_items_at old t ++ zs
    → is_nothing b.coming.items ≡ false → DescendIfSorted b → ((q : ℕ) → get nat_cmp new q ≡ cond (is_eq (nat_cmp t q)) (Some b) (get nat_cmp old q)) → HoldsItems new (items ++ zs)
put_many old new t b items zs holds more filled is_sorted updates =
    held old new t (Some b) items (items ++ zs) holds updates ready
    (λ m. ap (due_of t m) more ∙ due_many t m (bucket_items_at old t) items zs (holds.due t m))
    (λ u m e. many_elsewhere u m t items zs (all_after t (bucket_items_at old t) zs (subst (AllByRecursion (λ item. moment_of item ≡ t)) more (all_then t b.coming.items))) e)
  where
    ready : (d : Bucket) → Some b ≡ Some d → IsReadyBucket d
    ready d e = let f : b ≡ d = cc in subst IsReadyBucket f (record { filled = filled; is_sorted = is_sorted })

pub this_fate : (f : Fate) (t : ℕ) → f.at ≡ Some t → record { to = f.to; at = Some t } ≡ f
this_fate f t e = ap (λ (o : Option ℕ). record { to = f.to; at = o }) (sym e)

pub if_all : {E F : Type 0} {P Q R : ℕ → Type 0} (r : Result ℕ E) → ((n : ℕ) → P n → Q n → F → R n) → IfOk r P → IfOk r Q → OnOk r F → IfOk r R
if_all (Ok n) f p q h = f n p q h
if_all (Err e) f p q h = tt

pub rest_is : {X : Type 0} (xs : List X) (k : ℕ) → take (length xs - k) (drop k xs) ≡ drop k xs
rest_is xs k = take_all (length xs - k) (drop k xs) (let n = length-drop k xs in omega arith)

-- the elements up to an index, and a run of elements from this index on
run_on : {X : Type 0} (xs : List X) (i n : ℕ) (x : X) → i < length xs → take i xs ++ (get_or xs i x ∷ take n (take (length xs - (i + 1)) (drop (i + 1) xs))) ≡ take (i + (1 + n)) xs
run_on xs i n x low =
    let more : i + suc n ≡ i + (1 + n) = omega arith in
    ap (λ l. take i xs ++ (get_or xs i x ∷ take n l)) (rest_is xs (i + 1) ∙ ap (λ k. drop k xs) (add-one i)) ∙ (ap (λ l. take i xs ++ take (suc n) l) (sym (drop-cons xs i x low)) ∙ (sym (take-add i (suc n) xs) ∙ ap (λ k. take k xs) more))

pub fates_held : (new : Buckets) (items : List Item) (sent : Sent) (fs : List Fate) (i n : ℕ) (f : Fate) → i < length fs
    → HoldsItems new ((items ++ copies_with sent (take i fs)) ++ copies_with sent (get_or fs i f ∷ take n (take (length fs - (i + 1)) (drop (i + 1) fs)))) → HoldsItems new (items ++ copies_with sent (take (i + (1 + n)) fs))
fates_held new items sent fs i n f low =
    subst (HoldsItems new) (append_assoc items (copies_with sent (take i fs)) _ ∙ ap (λ l. items ++ l) (sym (ap (map Packet) (filter_map-append (copy_of sent) (take i fs) _)
    ∙ map-append Packet (filter_map (copy_of sent) (take i fs)) _) ∙ ap (copies_with sent) (run_on fs i n f low)))

pub copies_held : (new : Buckets) (items : List Item) (cs : List RadioCopy) (i n : ℕ) (c : RadioCopy) → i < length cs
    → HoldsItems new ((items ++ map Packet (take i cs)) ++ map Packet (get_or cs i c ∷ take n (take (length cs - (i + 1)) (drop (i + 1) cs)))) → HoldsItems new (items ++ map Packet (take (i + (1 + n)) cs))
copies_held new items cs i n c low =
    subst (HoldsItems new) (append_assoc items (map Packet (take i cs)) _ ∙ ap (λ l. items ++ l) (sym (map-append Packet (take i cs) _) ∙ ap (map Packet) (run_on cs i n c low)))

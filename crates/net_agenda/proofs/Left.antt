-- The number of packets that are left, counted bucket by bucket.
use Rattle.std.proofs.Common.{◌≡◌, ℕ, suc, ◌+◌, List, [], ◌∷◌, length, length-append, map, refl, ap, ◌∙◌, arith, Option, Some, None}
use Rattle.std.specs.List.{filter}
use Rattle.std.specs.BTreeMap.{IsOrdered}
use Rattle.std.specs.Ordering.{nat_cmp}
use Rattle.std.proofs.lemmas.List.Sorted.{length_permutation}
use Rattle.radio_packet.specs.declared.arrival.Arrival.{Arrival}
use Rattle.window_laws.specs.Agenda.{Item, packets}
use Rattle.window_laws.proofs.Agenda.{packets_append}
use Rattle.net_agenda.specs.declared.bucket.Bucket.{Bucket}
use Rattle.net_agenda.specs.declared.bucket.PendingEvent.{PendingEvent}
use Rattle.net_agenda.specs.Buckets.{packet_in, Buckets, HoldsItems, is_packet_event, item_at}
use Rattle.net_agenda.specs.Items.{bucket_items, items_of}
use Rattle.net_agenda.proofs.Items.{Entries, items_among, same_due, same_permute}

counted : (t : ℕ) (cs : List PendingEvent) → length (packets (map (item_at t) cs)) ≡ length (filter is_packet_event cs)
counted t [] = refl
counted t (c ∷ cs) = of (counted t cs) (packet_in c) refl
  where
    of : length (packets (map (item_at t) cs)) ≡ length (filter is_packet_event cs) → (p : Option Arrival) → packet_in c ≡ p → length (packets (map (item_at t) (c ∷ cs))) ≡ length (filter is_packet_event (c ∷ cs))
    of rest None e = rw e rest
    of rest (Some a) e = rw e (ap suc rest)

pub all_left : (buckets : Buckets) → IsOrdered nat_cmp buckets → (items : List Item) → HoldsItems buckets items → (xs : List PendingEvent) → xs ≡ [] → length xs + length (packets (items_among buckets.entries)) ≡ length (packets items)
all_left buckets ordered items holds xs none =
    let both = same_permute (length items) items (items_of buckets) (omega arith) (same_due buckets ordered items holds) in
    let n = length_permutation _ _ both.1 in
    let m = ap length none in
    omega arith

pub next_left : (old new : Entries) (t : ℕ) (b : Bucket) (n total : ℕ) → old ≡ (t, b) ∷ new → n + length (packets (items_among old)) ≡ total → (n + length (filter is_packet_event b.coming.items)) + length (packets (items_among new)) ≡ total
next_left old new t b n total e h =
    let split = ap (λ es. length (packets (items_among es))) e ∙ (ap length (packets_append (bucket_items t b) (items_among new)) ∙ length-append (packets (bucket_items t b)) (packets (items_among new))) in
    let one = counted t b.coming.items in
    added _ _ _ _ _ _ split one h
  where
    added : (a p q f n total : ℕ) → a ≡ p + q → p ≡ f → n + a ≡ total → (n + f) + q ≡ total
    added a p q f n total e g h = omega arith

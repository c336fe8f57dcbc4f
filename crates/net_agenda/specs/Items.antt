-- The items in the buckets of an agenda, as a list.
use Rattle.std.specs.Prelude.{ℕ, ◌≡◌, ◌≤◌, Bool, ◌&&◌, List, length, map}
use Rattle.std.specs.List.{filter, list_any, flat_map}
use Rattle.std.specs.List.Sorted.{IsPermutation}
use Rattle.radio_packet.specs.declared.arrival.Arrival.{Arrival}
use Rattle.radio_packet.specs.declared.copy.RadioCopy.{RadioCopy}
use Rattle.net_agenda.specs.declared.bucket.Bucket.{Bucket}
use Rattle.window_laws.specs.Agenda.{Item, comes_at, packets}
use Rattle.net_agenda.specs.Buckets.{Buckets, is_wake, item_at}

-- the copy that arrives at this moment at this mote, with the data of this arrival
abbrev pub copy_at : (moment mote : ℕ) → Arrival → RadioCopy
copy_at moment mote a = record { at = moment; to = mote; sender = a.sender; number = a.number; value = a.value }

-- the items of one bucket: wakes and packets, in the order of the bucket
abbrev pub bucket_items : (moment : ℕ) → Bucket → List Item
bucket_items moment bucket = map (item_at moment) bucket.coming.items

-- the items of all buckets, one bucket after another, in the order of the moments
abbrev pub items_of : Buckets → List Item
items_of buckets = flat_map (λ entry. bucket_items entry.0 entry.1) buckets.entries

-- a wake of this mote at this moment
abbrev pub is_wake_at : (moment mote : ℕ) → Item → Bool
is_wake_at moment mote item = comes_at moment mote item && is_wake item

-- no mote has two wakes at one moment
abbrev pub WakesDiffer : List Item → Type 0
WakesDiffer items = (moment mote : ℕ) → length (filter (is_wake_at moment mote) items) ≤ 1

-- The two lists have the same items. Each packet occurs equally often in both lists. If one list has a wake of a mote
-- at a moment, the other list has such a wake, too. If no mote has two wakes at one moment, ys is a permutation of xs.
pub record AreSameItems (xs ys : List Item) : Type 0 where
  pub same_packets : IsPermutation (packets xs) (packets ys)
  pub same_wakes : (moment mote : ℕ) → list_any (is_wake_at moment mote) xs ≡ list_any (is_wake_at moment mote) ys
  pub permuted : WakesDiffer xs → IsPermutation xs ys

-- The pending events of the motes, gathered in one bucket for each moment.
use Rattle.std.specs.Prelude.{ℕ, suc, ◌≡◌, ◌≤◌, ◌-◌, Bool, true, false, not, ◌&&◌, ◌==◌, nat_lt, if◌then◌else◌, List}
use Rattle.std.specs.Prelude.{[], ◌∷◌, ◌++◌, length, map, Option, Some, None, option_map, is_some, slice_get}
use Rattle.std.specs.List.{filter, filter_map, AllByRecursion}
use Rattle.std.specs.Ordering.{nat_cmp}
use Rattle.std.specs.BTreeMap.{BTreeMap, get}
use Rattle.radio_packet.specs.declared.arrival.Arrival.{Arrival}
use Rattle.net_agenda.specs.declared.bucket.Bucket.{Bucket}
use Rattle.net_agenda.specs.declared.bucket.PendingEvent.{PendingEvent}
use Rattle.net_agenda.specs.declared.bucket.PendingEvent.TheVariants as coming
pub use Rattle.net_agenda.specs.NetSystem.{arrival_of}
use Rattle.window_laws.specs.Order.{sorted_by, in_order}
use Rattle.window_laws.specs.Agenda.{Item, Wake, Packet, comes_at, packets}

-- arrivals sorted by sender, then by number; arrivals that agree in both keep their order
abbrev pub arrivals_in_order : List Arrival → List Arrival
arrivals_in_order arrivals = sorted_by (λ arrival. arrival.sender) (λ arrival. arrival.number) arrivals

-- the due events of a mote: the number of its wakes, and the copies for it, in the order in which they were added
pub record Due : Type 0 where
  pub wakes : ℕ
  pub copies : List Arrival

abbrev pub nothing_due : Due
nothing_due = record { wakes = 0; copies = [] }

abbrev pub is_wake : Item → Bool
is_wake (Wake moment mote) = true
is_wake (Packet copy) = false

abbrev pub due_all : List Item → Due
due_all items = record { wakes = length (filter is_wake items); copies = map arrival_of (packets items) }

-- the events of one mote at one moment as one record, if there are any
abbrev pub gathered : List Item → Option Due
gathered [] = None
gathered (item ∷ items) = Some (due_all (item ∷ items))

-- the due events of a mote at a moment
abbrev pub due_of : (moment mote : ℕ) → List Item → Option Due
due_of moment mote items = gathered (filter (comes_at moment mote) items)

-- one bucket: the pending events of a moment

-- the mote that gets the event
abbrev pub goes_to : PendingEvent → ℕ
goes_to (coming.Wake mote) = mote
goes_to (coming.Copy to sender value number) = to

-- the packet as the mote gets it, if the event is a copy
abbrev pub packet_in : PendingEvent → Option Arrival
packet_in (coming.Wake mote) = None
packet_in (coming.Copy to sender value number) = Some (record { sender = sender; number = number; value = value })

abbrev pub is_pending_for : (mote : ℕ) → PendingEvent → Bool
is_pending_for mote one = goes_to one == mote

abbrev pub of_mote : (mote : ℕ) → List PendingEvent → List PendingEvent
of_mote mote all = filter (is_pending_for mote) all

abbrev pub is_packet_event : PendingEvent → Bool
is_packet_event one = is_some (packet_in one)

abbrev pub is_wake_for : (mote : ℕ) → PendingEvent → Bool
is_wake_for mote one = is_pending_for mote one && not (is_packet_event one)

abbrev pub arrivals_of : List PendingEvent → List Arrival
arrivals_of all = filter_map packet_in all

-- the mote numbers are in descending order: none is above an earlier one
abbrev pub AreDescending : List PendingEvent → Type 0
AreDescending [] = Unit {0}
AreDescending (first ∷ rest) = AllByRecursion (λ one. goes_to one ≤ goes_to first) rest × AreDescending rest

-- if the flag `is_sorted` is true, the motes of the bucket are in descending order
abbrev pub DescendIfSorted : Bucket → Type 0
DescendIfSorted bucket = bucket.is_sorted ≡ true → AreDescending bucket.coming.items

abbrev pub is_nothing : List PendingEvent → Bool
is_nothing [] = true
is_nothing (first ∷ rest) = false

abbrev pub lower_mote : Option ℕ → ℕ → Option ℕ
lower_mote None mote = Some mote
lower_mote (Some other) mote = if nat_lt mote other then Some mote else Some other

abbrev pub least_from : Option ℕ → List PendingEvent → Option ℕ
least_from least [] = least
least_from least (first ∷ rest) = least_from (lower_mote least (goes_to first)) rest

abbrev pub least_mote : List PendingEvent → Option ℕ
least_mote all = least_from None all

-- if `is_sorted` is true, the bucket is in descending order, and this is the mote of its last event; otherwise, this is
-- the least mote number in the bucket
abbrev pub first_bucket_mote : Bucket → Option ℕ
first_bucket_mote bucket =
    let all = bucket.coming.items in
    if bucket.is_sorted then option_map goes_to (slice_get all (length all - 1)) else least_mote all

-- all events of this mote were taken out; the events of the other motes are unchanged
pub record IsTaken (mote : ℕ) (old new : Bucket) : Type 0 where
  pub others : (other : ℕ) → of_mote other new.coming.items
      ≡ (if mote == other then [] else of_mote other old.coming.items)
  pub is_sorted : DescendIfSorted new

pub record IsReadyBucket (bucket : Bucket) : Type 0 where
  pub filled : is_nothing bucket.coming.items ≡ false
  pub is_sorted : DescendIfSorted bucket

-- the buckets of all moments

abbrev pub Buckets : Type 0
Buckets = BTreeMap ℕ Bucket

-- the item of an event that is pending at a moment
abbrev pub item_of : (moment mote : ℕ) → Option Arrival → Item
item_of moment mote None = Wake moment mote
item_of moment mote (Some a) =
    Packet (record { at = moment; to = mote; sender = a.sender; number = a.number; value = a.value })

abbrev pub item_at : (moment : ℕ) → PendingEvent → Item
item_at moment one = item_of moment (goes_to one) (packet_in one)

abbrev pub items_in : (moment : ℕ) → Option Bucket → List Item
items_in moment None = []
items_in moment (Some bucket) = map (item_at moment) bucket.coming.items

abbrev pub bucket_items_at : Buckets → (moment : ℕ) → List Item
bucket_items_at buckets moment = items_in moment (get nat_cmp buckets moment)

abbrev pub due_in : Buckets → (moment mote : ℕ) → Option Due
due_in buckets moment mote = due_of moment mote (bucket_items_at buckets moment)

-- `moment` is `t`, and `mote` is `k`
abbrev pub is_here : (moment mote t k : ℕ) → Bool
is_here moment mote t k = (moment == t) && (mote == k)

-- the buckets hold the items of this agenda: each bucket has exactly the events that are due at its moment (the copies
-- for each mote in the order of the agenda), no bucket is empty, and if `is_sorted` is true in a bucket, its motes are
-- in descending order
pub record HoldsItems (buckets : Buckets) (items : List Item) : Type 0 where
  pub due : (moment mote : ℕ) → due_in buckets moment mote ≡ due_of moment mote items
  pub ready : (moment : ℕ) (bucket : Bucket) → get nat_cmp buckets moment ≡ Some bucket → IsReadyBucket bucket

-- one more packet
abbrev pub with_copy : Arrival → Due → Due
with_copy a due = record due { copies = due.copies ++ a ∷ [] }

abbrev pub with_wake : Due → Due
with_wake due = record due { wakes = suc due.wakes }

abbrev pub is_none_left : List Arrival → Bool
is_none_left [] = true
is_none_left (a ∷ rest) = false

-- the due events without the wakes; `None` if no packet is left
abbrev pub without_wake : Option Due → Option Due
without_wake None = None
without_wake (Some due) = if is_none_left due.copies then None else Some (record due { wakes = 0 })

-- the wake, unless it is at this moment
abbrev pub wake_but_at : (moment : ℕ) → Option ℕ → Option ℕ
wake_but_at moment None = None
wake_but_at moment (Some wake) = if wake == moment then None else Some wake

-- the arrivals that a mote gets at a moment
abbrev pub arrivals_at : (moment mote : ℕ) → List Item → List Arrival
arrivals_at moment mote items = map arrival_of (in_order (packets (filter (comes_at moment mote) items)))

abbrev pub first_of : Option (ℕ × Bucket) → Option (ℕ × ℕ)
first_of None = None
first_of (Some entry) = option_map (λ mote. (entry.0, mote)) (first_bucket_mote entry.1)

-- the least moment, and the least mote in the bucket of this moment
abbrev pub first_key : Buckets → Option (ℕ × ℕ)
first_key buckets = first_of (slice_get buckets.entries 0)

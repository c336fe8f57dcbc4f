-- The effect of each call of an agenda on the list of items that the agenda's buckets hold.
use Rattle.std.specs.Prelude.{ℕ, ◌≡◌, not, List, ◌++◌, Option}
use Rattle.std.specs.List.{filter}
use Rattle.radio_packet.specs.declared.arrival.Arrival.{Arrival}
use Rattle.window_laws.specs.Agenda.{Item, comes_at, is_wake_of, wake_items}
use Rattle.net_agenda.specs.Buckets.{Buckets, HoldsItems, arrivals_at}

-- these items were added
abbrev pub AddsItems : (old new : Buckets) → (more : List Item) → Type 0
AddsItems old new more = (items : List Item) → HoldsItems old items → HoldsItems new (items ++ more)

abbrev pub without_wakes : (mote : ℕ) → List Item → List Item
without_wakes mote items = filter (λ item. not (is_wake_of mote item)) items

-- the mote's wake was taken out; `wake` is its only wake, or `None` if it has none
abbrev pub DropsWake : (mote : ℕ) → (wake : Option ℕ) → (old new : Buckets) → Type 0
DropsWake mote wake old new = (items : List Item) → HoldsItems old items → filter (is_wake_of mote) items
    ≡ wake_items mote wake
    → HoldsItems new (without_wakes mote items)

-- the wake of this mote was taken out, and its next wake, if it has one, was added
abbrev pub MovesWake : (mote : ℕ) → (wake next : Option ℕ) → (old new : Buckets) → Type 0
MovesWake mote wake next old new = (items : List Item) → HoldsItems old items → filter (is_wake_of mote) items
    ≡ wake_items mote wake
    → HoldsItems new (without_wakes mote items ++ wake_items mote next)

-- the packets that arrive at this mote at this moment, in order
abbrev pub AreDue : (moment mote : ℕ) → Buckets → List Arrival → Type 0
AreDue moment mote buckets arrivals = (items : List Item) → HoldsItems buckets items → arrivals
    ≡ arrivals_at moment mote items

-- all events for this mote at this moment were taken out
abbrev pub TakesDue : (moment mote : ℕ) → (old new : Buckets) → Type 0
TakesDue moment mote old new = (items : List Item) → HoldsItems old items
    → HoldsItems new (filter (λ item. not (comes_at moment mote item)) items)

-- The events of a window, and the copies that arrive at each mote.
use Rattle.std.specs.Prelude.{ℕ, ◌≡◌, Bool, true, false, not, ◌&&◌, ◌==◌, nat_lt, if◌then◌else◌, IsSome}
use Rattle.std.specs.Prelude.{List, [], ◌∷◌, length, Option, Some, None}
use Rattle.std.specs.List.{filter, list_any, AllByRecursion}
use Rattle.radio_packet.specs.declared.copy.RadioCopy.{RadioCopy}
use Rattle.window_laws.specs.Order.{in_order}
use Rattle.window_laws.specs.Agenda.{Item, moment_of, mote_of, comes_at, packets}
use Rattle.window_laws.specs.Windows.{is_at}
use Rattle.net_agenda.specs.Buckets.{Buckets, HoldsItems}
use Rattle.worker_window.specs.declared.own.OwnWindow.{OwnWindow}
use Rattle.worker_window.specs.MoteWindow.{is_rising}
use Rattle.worker_window.specs.Own.{KeepsMote}
use Rattle.worker_window.specs.Share.{mote_here}

-- the copies for a mote that its window has
abbrev pub held_copies : Option OwnWindow → List RadioCopy
held_copies None = []
held_copies (Some own) = own.copies.items

abbrev pub copies_at : List (Option OwnWindow) → (mote : ℕ) → List RadioCopy
copies_at motes mote = held_copies (mote_here motes mote)

-- the mote has an event in the window
abbrev pub is_called : Option OwnWindow → Bool
is_called None = false
is_called (Some own) = own.called

abbrev pub is_one_of : (number : ℕ) → List ℕ → Bool
is_one_of number numbers = list_any (λ other. other == number) numbers

abbrev pub are_different : List ℕ → Bool
are_different [] = true
are_different (k ∷ ks) = not (is_one_of k ks) && are_different ks

-- the item is an event of this mote before this moment
abbrev pub calls_for : (until mote : ℕ) → Item → Bool
calls_for until mote item = nat_lt (moment_of item) until && (mote_of item == mote)

-- the mote is the same, except for its copies and whether it is called
abbrev pub IsSameMote : (old new : Option OwnWindow) → Type 0
IsSameMote None None = Unit {0}
IsSameMote (Some old) (Some new) = KeepsMote old new
IsSameMote _ _ = ⊥

-- the item isn't before this moment
abbrev pub is_not_before : (until : ℕ) → Item → Bool
is_not_before until item = not (nat_lt (moment_of item) until)

-- the copies for a mote are in order, and are those that the items have for the mote at each moment before a bound
pub record TakesCopiesFor (until : ℕ) (items : List Item) (mote : ℕ) (copies : List RadioCopy) : Type 0 where
  pub rising : is_rising copies ≡ true
  pub all : (moment : ℕ) → filter (is_at moment) copies
      ≡ (if nat_lt moment until then in_order (packets (filter (comes_at moment mote) items)) else [])

-- The motes with an item before a moment are called, each once. A called mote has the copies that these items have for it
-- before the moment, and is otherwise unchanged; so are all other motes.
pub record TakesEventsBefore (until : ℕ) (items : List Item) (old new : List (Option OwnWindow)) (called : List ℕ)
    : Type 0 where
  pub places : length new ≡ length old
  pub same : (mote : ℕ) → IsSameMote (mote_here old mote) (mote_here new mote)
  pub copies : (mote : ℕ) → TakesCopiesFor until items mote (copies_at new mote)
  pub calls : (mote : ℕ) → is_one_of mote called ≡ list_any (calls_for until mote) items
  pub different : are_different called ≡ true
  pub others : (mote : ℕ) → is_one_of mote called ≡ false → mote_here new mote ≡ mote_here old mote

-- these are motes without copies, and each of the agenda's items is for one of them
pub record CanTakeEvents (buckets : Buckets) (motes : List (Option OwnWindow)) : Type 0 where
  pub items : List Item
  pub holds : HoldsItems buckets items
  pub there : AllByRecursion (λ item. IsSome (mote_here motes (mote_of item))) items
  pub none : (mote : ℕ) → copies_at motes mote ≡ []
  pub not_called : (mote : ℕ) → is_called (mote_here motes mote) ≡ false

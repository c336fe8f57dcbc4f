-- The inboxes of all workers and their takers, between windows.
use Rattle.std.specs.Prelude.{◌≡◌, false, List, []}
use Rattle.std.specs.List.{AllZip}
use Rattle.copy_inbox.specs.Views.{make_taker_state}
use Rattle.copy_inbox.specs.Handles.{InboxId, TakerView, AllGathered, PacketsLeft}
use Rattle.copy_exchange.specs.Takers.{IsOrderly}

-- an inbox and its taker that were just made by `Inbox::make` or `Inbox::make_marked`
abbrev pub IsFresh : InboxId → TakerView → Type 0
IsFresh inbox t = (t.inbox ≡ inbox) × (t.state ≡ make_taker_state t.state.marked 0 [] [])

-- the taker's inbox has no marks
abbrev pub HasNoMarks : TakerView → Type 0
HasNoMarks t = t.state.marked ≡ false

-- every sender is gathered, and no mark is left
pub record IsSettled (inbox : InboxId) (t : TakerView) : Type 0 where
  pub its : t.inbox ≡ inbox
  pub orderly : IsOrderly t.state
  pub all : AllGathered t.state
  pub no_mark : PacketsLeft t.state

-- each inbox, with its taker, is settled
abbrev pub Settled : List InboxId → List TakerView → Type 0
Settled inboxes takers = AllZip IsSettled inboxes takers

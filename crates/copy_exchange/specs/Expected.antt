-- The items that a worker takes until a window's marks have arrived.
use Rattle.std.specs.Prelude.{◌≡◌, ℕ, ◌<◌, Bool, not, ◌&&◌, nat_le, List, filter}
use Rattle.std.specs.List.{AllByRecursion as Each}
use Rattle.radio_packet.specs.declared.copy.RadioCopy.{RadioCopy}
use Rattle.copy_exchange.specs.Crossed.{is_own}
use Rattle.copy_inbox.specs.declared.items.Item.{Item}
use Rattle.copy_inbox.specs.Items.{copies_of}
use Rattle.copy_inbox.specs.Handles.{TakerView, after_taking}
use Rattle.copy_exchange.specs.declared.take.WindowPosition.{WindowPosition}

-- a worker's position between two windows (`WindowPosition` in the code): the worker of each mote, the worker's own
-- number, and the moment at which its next window begins
pub record Position : Type 0 where
  pub owners : List ℕ
  pub worker : ℕ
  pub from : ℕ

abbrev pub position : (owners : List ℕ) → (worker from : ℕ) → Position
position owners worker from = record { owners = owners; worker = worker; from = from }

abbrev pub position_of : WindowPosition → Position
position_of s = position s.owners.now s.worker s.from

-- the copy is expected by a worker in this position; `IsExpected`, as a test
abbrev pub is_expected : Position → RadioCopy → Bool
is_expected p copy =
    is_own p.owners p.worker copy.to && (not (is_own p.owners p.worker copy.sender) && nat_le p.from copy.at)

-- the expected copies among these items, in order
abbrev pub expected_in : Position → List Item → List RadioCopy
expected_in p items = filter (is_expected p) (copies_of items)

-- items from senders that the taker made were taken; these are the expected copies among them
pub record TakesExpected (p : Position) (old new : TakerView) (copies : List RadioCopy) : Type 0 where
  pub items : List Item
  pub made : Each (λ (x : Item). x.sender < old.state.made) items
  pub taker : new ≡ after_taking old items
  pub arrived : copies ≡ expected_in p items

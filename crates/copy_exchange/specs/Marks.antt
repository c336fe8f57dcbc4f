-- Marks among the items that were pushed and taken.
use Rattle.std.specs.Prelude.{◌≡◌, ℕ, ◌<◌, List, length, slice_index_or}
use Rattle.copy_inbox.specs.declared.items.Item.{Item}
use Rattle.copy_inbox.specs.declared.rule.TakerState.{TakerState}
use Rattle.copy_inbox.specs.Items.{part}
use Rattle.copy_exchange.specs.Pushes.{marks_in}

-- the number of marks taken from the sender numbered s
abbrev pub marks_of : ℕ → List Item → ℕ
marks_of s taken = marks_in (part s taken)

-- these are the numbers of marks from each sender that the taker made
pub record AreTakersCounts (marks : List ℕ) (d : TakerState) : Type 0 where
  pub all : length marks ≡ d.made
  pub each : (s none : ℕ) → s < d.made → slice_index_or marks s none ≡ marks_of s d.taken

-- each count is 0
abbrev pub AreNone : List ℕ → Type 0
AreNone marks = (s none : ℕ) → s < length marks → slice_index_or marks s none ≡ 0

-- each count is greater than the number of the window
abbrev pub AllPast : (window : ℕ) → List ℕ → Type 0
AllPast window marks = (s none : ℕ) → s < length marks → window < slice_index_or marks s none

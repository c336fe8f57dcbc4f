-- The state of a taker after it took the n oldest items.
use Rattle.std.specs.Prelude.{ℕ}
use Rattle.copy_inbox.specs.declared.rule.TakerState.{TakerState}
use Rattle.copy_inbox.specs.Items.{OfMade}
use Rattle.copy_inbox.specs.Gathered.{TookFronts, Whole, NoOthers}
use Rattle.copy_inbox.specs.Handles.{IsAllKnown}

pub record Drains (old new : TakerState) (n : ℕ) : Type 0 where
  -- for each gathered sender, the items taken are a prefix of those that it pushed; all items are from senders that
  -- were made
  pub begun : TookFronts new.gathered new.taken
  pub made : OfMade new.made new.taken
  -- suppose that exactly n items were known, and that no item of a sender that isn't gathered could be before one of
  -- them; then all items of the gathered senders are now taken, and no item of another sender was taken
  pub whole : IsAllKnown old n → Whole new.gathered new.taken
  pub others : IsAllKnown old n → NoOthers old.gathered old.taken new.taken

-- A protothread's view of its mote.
use Rattle.std.specs.Prelude.{ℕ, List}

-- the moment, the number of the mote, the timers that nobody owns, the processes that are running or called, and the
-- count of each semaphore
pub record Looks : Type 0 where
  pub moment : ℕ
  pub mote : ℕ
  pub expired : List ℕ
  pub running : List ℕ
  pub counts : List ℕ

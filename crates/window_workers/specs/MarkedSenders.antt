-- The senders on one worker's inbox, for all windows of the run.
use Rattle.std.specs.Prelude.{ℕ, ◌≡◌, ◌≢◌, suc, ◌<◌, List, length, map, slice_get, Option, Some}
use Rattle.std.specs.List.{range_with_len}
use Rattle.copy_inbox.specs.Handles.{SenderView}

-- one sender of each other worker, numbered from 0, and no others
pub record AreSenders (workers worker : ℕ) (sender : (other : ℕ) → Option SenderView) (made : ℕ)
    (senders : List SenderView) : Type 0 where
  pub numbered : map (λ (s : SenderView). s.state.number) senders ≡ range_with_len 0 (length senders)
  pub made_is : made ≡ length senders
  pub others : suc (length senders) ≡ workers
  pub of_worker : (v : ℕ) → v < workers → v ≢ worker
      → (s : SenderView) × (sender v ≡ Some s) × (slice_get senders s.state.number ≡ Some s)
  pub worker_of : (j : ℕ) (s : SenderView) → slice_get senders j ≡ Some s
      → (v : ℕ) × (v < workers) × (v ≢ worker) × (sender v ≡ Some s)

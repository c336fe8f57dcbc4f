-- The windows of a run: their first moments and their ends.
use Rattle.std.specs.Prelude.{ℕ, zero, suc, ◌≡◌, ◌+◌, ◌<◌, ◌≤◌, min, List, Option, Some, None}
use Rattle.mote_net.specs.Net.{NetModel}
use Rattle.window_workers.specs.declared.group.WorkerGroup.{WorkerGroup}
use Rattle.window_workers.specs.WindowLength.{end_of_window}
use Rattle.window_workers.specs.JoinedNext.{IsNextOfAll}
use Rattle.window_workers.specs.JoinedLaws.{GroupRunsUntil}

-- a window begins at the first pending event, or after the end, if nothing is pending up to the end
abbrev pub start_of_window : (end : ℕ) → (next : Option ℕ) → ℕ
start_of_window end None = end + 1
start_of_window end (Some moment) = min moment (end + 1)

-- the first moment of the next window of these workers
pub record BeginsAt (end : ℕ) (group : WorkerGroup) (from : ℕ) : Type 0 where
  pub next : Option ℕ
  pub is : IsNextOfAll group.first_out group.shares.items next
  pub start : from ≡ start_of_window end next

-- one window of all workers: from the first pending event for `width` moments, but not past the end
pub record GroupRunsNext (model : NetModel) (owners : List ℕ) (width : ℕ) (old new : WorkerGroup) : Type 0 where
  pub from : ℕ
  pub begins : BeginsAt model.end old from
  pub there : from ≤ model.end
  pub runs : GroupRunsUntil model owners (end_of_window model.end width from) old new

-- this many such windows, one after another
abbrev pub GroupRunsWindows : NetModel → List ℕ → (width windows : ℕ) → (old new : WorkerGroup) → Type 0
GroupRunsWindows model owners width zero old new = new ≡ old
GroupRunsWindows model owners width (suc k) old new =
    (between : WorkerGroup) × GroupRunsWindows model owners width k old between
    × GroupRunsNext model owners width between new

-- all windows: after them, nothing is pending up to the end
pub record GroupRunsToEnd (model : NetModel) (owners : List ℕ) (width : ℕ) (old new : WorkerGroup) : Type 0 where
  pub windows : ℕ
  pub runs : GroupRunsWindows model owners width windows old new
  pub next : ℕ
  pub begins : BeginsAt model.end new next
  pub over : model.end < next

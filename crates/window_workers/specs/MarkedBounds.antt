-- The windows of a run with marks: they have the same length, and follow one another from 0 to the end.
use Rattle.std.specs.Prelude.{ℕ, ◌+◌, ◌*◌, ◌/◌, ◌<◌, ◌≤◌, min}

-- the moment at which a window begins, and before which the previous window ends
abbrev pub bound : (width end window : ℕ) → ℕ
bound width end window = min (window * width) (end + 1)

-- the number of windows
abbrev pub windows_of : (width end : ℕ) → ℕ
windows_of width end = (end + width) / width

-- this many windows lead past the end, and each begins at or before the end
pub record AreWindows (width end windows : ℕ) : Type 0 where
  pub wide : 0 < width
  pub begin : (k : ℕ) → k < windows → k * width ≤ end
  pub reach : end < windows * width

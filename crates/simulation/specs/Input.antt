-- The result of reading a whole input.
use Rattle.std.specs.Prelude.{ℕ, ◌<◌, ◌≤◌, List, length}
use Rattle.std.specs.Str.{IsUtf8}
use Rattle.net_scenario.specs.Limits.{longest_text}

-- the bytes are a text that isn't too long
pub record IsText (bytes : List ℕ) : Type 0 where
  pub short : length bytes ≤ longest_text
  pub utf8 : IsUtf8 bytes

-- there are more bytes than a scenario may have
abbrev pub IsTooLong : List ℕ → Type 0
IsTooLong bytes = longest_text < length bytes

-- there are no more bytes than a scenario may have, but they aren't UTF-8
abbrev pub IsNoText : List ℕ → Type 0
IsNoText bytes = (length bytes ≤ longest_text) × (¬ IsUtf8 bytes)

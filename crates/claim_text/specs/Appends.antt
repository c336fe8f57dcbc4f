-- Texts that grow.
use Rattle.std.specs.Prelude.{◌≡◌, Result, String, List, ℕ, ◌++◌, OnOk, string_bytes}
use Rattle.std.specs.declared.alloc.AllocError.{AllocError}
use Rattle.std.specs.declared.alloc.Global.{Global}

-- on `Ok`, these bytes are appended
abbrev pub Appends : Result Unit AllocError → (old new : String Global) → (bytes : List ℕ) → Type 0
Appends result old new bytes = OnOk result (string_bytes new ≡ string_bytes old ++ bytes)

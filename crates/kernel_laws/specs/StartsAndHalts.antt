-- Two more properties of a trace: no line follows a `halt`, and no process starts while it is on the process list.
use Rattle.std.specs.Prelude.{ℕ, false, ◌≡◌, List, [], ◌∷◌, ◌++◌}
use Rattle.kernel_laws.specs.HandedOn.{Line, Start, Halt, has_incarnation, process_list}

-- no line follows a `halt` line
abbrev pub HaltIsLast : List Line → Type 0
HaltIsLast lines = (before behind : List Line) → lines ≡ before ++ Halt ∷ behind → behind ≡ []

-- Only a process that is not listed starts: between two `start` lines of a process there is a `leave` line of this
-- process.
abbrev pub StartsTheUnlisted : List Line → Type 0
StartsTheUnlisted lines = (before behind : List Line) (p : ℕ) → lines ≡ before ++ Start p ∷ behind
    → has_incarnation (process_list before) p ≡ false

-- The promise of a function that writes a text to a writer.
use Rattle.std.specs.Prelude.{ℕ, List, Option, Result, Ok, Err}
use Rattle.std.specs.Io.KnownBytes.{Appends}
use Rattle.trace_printer.specs.Output.{AppendsFront}

-- the writer's bytes, if they are known, grow: after `Ok` by the whole text, after an error by a proper prefix of it
abbrev pub Writes : {E : Type 0} → Option (List ℕ) → Option (List ℕ) → Result (Unit {0}) E → List ℕ → Type 0
Writes old new (Ok u) text = Appends old new text
Writes old new (Err e) text = AppendsFront old new text

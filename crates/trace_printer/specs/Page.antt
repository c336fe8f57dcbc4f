-- A text that is printed to a writer through a buffer, the page.
use Rattle.std.specs.Prelude.{◌≡◌, ℕ, ◌++◌, List, Option, Result, Ok, Err}
use Rattle.std.specs.Io.KnownBytes.{Appends}

-- all of the text except this rest is written
pub record Written (old new : Option (List ℕ)) (text rest : List ℕ) : Type 0 where
  pub done : List ℕ
  pub whole : text ≡ done ++ rest
  pub appended : Appends old new done

-- a text is appended to the text that waits in the page: after `Ok`, a prefix of the two texts together is written, and
-- the rest waits; after an error, a prefix of them is written
abbrev pub Prints : {E : Type 0} → Option (List ℕ) → Option (List ℕ) → (waiting waits : List ℕ)
    → Result (Unit {0}) E → List ℕ → Type 0
Prints old new waiting waits (Ok u) text = Written old new (waiting ++ text) waits
Prints old new waiting waits (Err e) text = (rest : List ℕ) × Written old new (waiting ++ text) rest

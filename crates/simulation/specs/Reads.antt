-- The promises of functions that read an input.
use Rattle.std.specs.Prelude.{◌≡◌, ℕ, ◌≤◌, List, length, Result, Ok, Err, Vec, String, string_bytes}
use Rattle.std.specs.declared.alloc.Global.{Global}
use Rattle.simulation.specs.declared.input.InputError.{InputError}
use Rattle.simulation.specs.declared.input.InputError.TheVariants as fault
use Rattle.net_scenario.specs.Limits.{longest_text}
use Rattle.simulation.specs.Input.{IsText, IsTooLong, IsNoText}

-- the cause of each error: the reader or an allocation may fail for any input
abbrev pub IsInputFault : (input : List ℕ) → InputError → Type 0
IsInputFault input fault.Read = Unit {0}
IsInputFault input fault.TooLong = IsTooLong input
IsInputFault input fault.NotText = IsNoText input
IsInputFault input fault.Memory = Unit {0}

-- the result of reading all bytes of an input, whether they are a text or not
abbrev pub ReadsBytes : (input : List ℕ) → Result (Vec ℕ Global) InputError → Type 0
ReadsBytes input (Ok bytes) = (bytes.items ≡ input) × (length input ≤ longest_text)
ReadsBytes input (Err fault.NotText) = ⊥
ReadsBytes input (Err e) = IsInputFault input e

-- the result of reading an input as a text
abbrev pub ReadsText : (input : List ℕ) → Result (String Global) InputError → Type 0
ReadsText input (Ok text) = (string_bytes text ≡ input) × IsText input
ReadsText input (Err e) = IsInputFault input e

-- Laws of the text of faults.
use Rattle.std.specs.Prelude.{◌≡◌, ℕ, List}
use Rattle.radio_faults.specs.declared.fault.Fault.{Fault}
use Rattle.radio_faults.specs.FaultText.{fault_text}
use Rattle.radio_faults.specs.FaultLines.{FitsFault, IsRead}

-- Two faults don't share a text.
abbrev pub OneFault : Type 0
OneFault = (f g : Fault) → FitsFault f → FitsFault g → fault_text f ≡ fault_text g → f ≡ g

-- A text is read as one list of faults.
abbrev pub TextsAreRead : Type 0
TextsAreRead = (text : List ℕ) (fs gs : List Fault) → IsRead text fs → IsRead text gs → fs ≡ gs

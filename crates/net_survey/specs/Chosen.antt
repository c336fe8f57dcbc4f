-- The faults of a set of keys.
use Rattle.std.specs.Prelude.{ℕ, List, map}
use Rattle.radio_faults.specs.declared.fault.Fault.{Fault}
use Rattle.fault_keys.specs.Keys.{fault_of}
use Rattle.fault_keys.specs.declared.keys.Candidates.{Candidates}

-- the faults with these keys
abbrev pub faults_at : Candidates → (set : List ℕ) → List Fault
faults_at candidates set = map (fault_of candidates.fixed.items candidates.copies.items) set

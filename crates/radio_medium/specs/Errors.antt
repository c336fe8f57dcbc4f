-- The numbers of a medium's faults, as they are printed.
use Rattle.std.specs.Prelude.{ℕ}
use Rattle.radio_medium.specs.declared.error.MediumError.{MediumError}
use Rattle.radio_medium.specs.declared.error.MediumError.TheVariants.{Memory, ZeroBase, ZeroPer, BadLoss}

abbrev pub medium_fault_number : MediumError → ℕ
medium_fault_number Memory = 1
medium_fault_number ZeroBase = 2
medium_fault_number ZeroPer = 3
medium_fault_number BadLoss = 4

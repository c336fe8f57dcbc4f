-- The numbers of the errors of a scenario.
use Rattle.std.specs.Prelude.{ℕ}
use Rattle.radio_medium.specs.declared.error.MediumError.{MediumError}
use Rattle.radio_medium.specs.declared.error.MediumError.TheVariants as medium
use Rattle.net_scenario.specs.declared.error.ScenarioError.{ScenarioError}
use Rattle.net_scenario.specs.declared.error.ScenarioError.TheVariants.{Toml, MissingKey, UnknownKey, WrongKind}
use Rattle.net_scenario.specs.declared.error.ScenarioError.TheVariants.{OutOfRange, UnknownProgram, Program, Medium}
use Rattle.net_scenario.specs.declared.error.ScenarioError.TheVariants.{Memory}

abbrev pub scenario_fault_number : ScenarioError → ℕ
scenario_fault_number Toml = 1
scenario_fault_number MissingKey = 2
scenario_fault_number UnknownKey = 3
scenario_fault_number WrongKind = 4
scenario_fault_number OutOfRange = 5
scenario_fault_number UnknownProgram = 6
scenario_fault_number (Program name e) = 7
scenario_fault_number (Medium e) = 8
scenario_fault_number Memory = 9

-- the fault of the scenario for a fault of the medium; out of memory is `Memory` for both
abbrev pub of_medium : MediumError → ScenarioError
of_medium medium.Memory = Memory
of_medium e = Medium e

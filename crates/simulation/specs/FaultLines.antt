-- The text of the line that reports an error, without `motesim: ` at its beginning.
use Rattle.std.specs.Prelude.{◌≡◌, ℕ, List, [], ◌∷◌, ◌++◌, Option, Result, Ok, Err, codes, decimal}
use Rattle.std.specs.Io.KnownBytes.{Appends}
use Rattle.program_tree.specs.Kinds.{kind_number}
use Rattle.program_tree.specs.declared.error.ReadError.{ReadError}
use Rattle.radio_medium.specs.Errors.{medium_fault_number}
use Rattle.radio_medium.specs.declared.error.MediumError.TheVariants as medium
use Rattle.net_scenario.specs.FaultNumbers.{scenario_fault_number}
use Rattle.net_scenario.specs.declared.error.ScenarioError.{ScenarioError}
use Rattle.net_scenario.specs.declared.error.ScenarioError.TheVariants as scenario
use Rattle.serial_run.specs.RunErrors.{text_of_run_error}
use Rattle.trace_printer.specs.declared.error.PrintError.TheVariants as print
use Rattle.simulation.specs.declared.error.SimError.{SimError}
use Rattle.simulation.specs.declared.error.SimError.TheVariants as fault

abbrev pub memory_line : List ℕ
memory_line = codes "out of memory"

-- the number of an error in a program, and its line
abbrev pub fault_part : ReadError → List ℕ
fault_part e = codes " fault " ++ decimal (kind_number e.kind)

abbrev pub line_part : ReadError → List ℕ
line_part e = codes " line " ++ decimal e.line

abbrev pub scenario_line : ScenarioError → List ℕ
scenario_line scenario.Memory = memory_line
scenario_line (scenario.Program name e) = codes "program " ++ name ++ fault_part e ++ line_part e
scenario_line (scenario.Medium medium.Memory) = memory_line
scenario_line (scenario.Medium e) = codes "medium fault " ++ decimal (medium_fault_number e)
scenario_line e = codes "scenario fault " ++ decimal (scenario_fault_number e)

abbrev pub fault_line : SimError → List ℕ
fault_line fault.Read = codes "read fault"
fault_line fault.TooLong = codes "scenario too long"
fault_line fault.NotText = codes "scenario is not UTF-8"
fault_line (fault.Scenario e) = scenario_line e
fault_line (fault.Run e) = text_of_run_error e
fault_line (fault.Print print.Write) = codes "write fault"
fault_line (fault.Print print.Memory) = memory_line
fault_line fault.Memory = memory_line

-- the whole line that the program writes
abbrev pub written_line : SimError → List ℕ
written_line e = codes "motesim: " ++ fault_line e ++ 10 ∷ []

-- the known bytes grow by a text up to some place in it, perhaps its beginning or its end
abbrev pub AppendsPrefix : Option (List ℕ) → Option (List ℕ) → List ℕ → Type 0
AppendsPrefix old new text = (front : List ℕ) × (rest : List ℕ) × (text ≡ front ++ rest) × Appends old new front

-- the known bytes grow: after `Ok` by the whole text, after an error by a prefix of it
abbrev pub WritesLine : {E : Type 0} → Option (List ℕ) → Option (List ℕ) → Result (Unit {0}) E → List ℕ → Type 0
WritesLine old new (Ok u) text = Appends old new text
WritesLine old new (Err e) text = AppendsPrefix old new text

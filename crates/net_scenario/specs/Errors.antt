-- Each fault of a table, as an error of the scenario.
use Rattle.net_scenario.specs.declared.error.TableFault.{TableFault}
use Rattle.net_scenario.specs.declared.error.TableFault.TheVariants as table
use Rattle.net_scenario.specs.declared.error.ScenarioError.{ScenarioError}
use Rattle.net_scenario.specs.declared.error.ScenarioError.TheVariants.{MissingKey, UnknownKey, WrongKind, OutOfRange}
use Rattle.net_scenario.specs.declared.error.ScenarioError.TheVariants.{UnknownProgram}

-- the error has the name of the fault
abbrev pub of_table : TableFault → ScenarioError
of_table table.MissingKey = MissingKey
of_table table.UnknownKey = UnknownKey
of_table table.WrongKind = WrongKind
of_table table.OutOfRange = OutOfRange
of_table table.UnknownProgram = UnknownProgram

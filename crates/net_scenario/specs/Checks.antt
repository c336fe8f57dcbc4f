-- The check of a table by its rules.
use Rattle.std.specs.Prelude.{◌≡◌, Option, Some, None, Result, Ok, Err}
use Rattle.net_scenario.specs.declared.rules.Key.{Key}
use Rattle.net_scenario.specs.declared.error.TableFault.{TableFault}
use Rattle.net_scenario.specs.Rules.{Rule}

abbrev pub rule_of : Key → Rule
rule_of k = record { since = k.since; name = k.name.now; kind = k.kind; is_needed = k.is_needed }

-- `Ok` if there is no fault, and otherwise the fault
abbrev pub AnswersFault : Result (Unit {0}) TableFault → Option TableFault → Type 0
AnswersFault (Ok u) fault = fault ≡ None
AnswersFault (Err e) fault = fault ≡ Some e

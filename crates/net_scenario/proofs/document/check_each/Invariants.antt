use Rattle.std.proofs.Common.{◌≡◌, drop, map}
use Rattle.toml.specs.View.{items_view}
use Rattle.net_scenario.specs.Document.{first_some, tables_in}
use Rattle.net_scenario.specs.Rules.{keys_fault, known_in}
use Rattle.net_scenario.specs.Checks.{rule_of}
use Rattle.net_scenario.proofs.document.check_each.Given as goal

-- the first fault is the first fault of the items that are still to be checked
abbrev pub invariant-loop-item : goal.invariant-loop-item
invariant-loop-item l = first_some (keys_fault (known_in l.version (map rule_of l.keys)))
    (tables_in (items_view l.items)) ≡ first_some (keys_fault (known_in l.version (map rule_of l.keys)))
    (tables_in (items_view (drop l.item-index l.items)))

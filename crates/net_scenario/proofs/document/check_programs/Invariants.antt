use Rattle.std.proofs.Common.{◌≡◌, drop}
use Rattle.toml.specs.View.{items_view, table_view}
use Rattle.net_scenario.specs.Document.{first_some, tables_in, program_fault}
use Rattle.net_scenario.proofs.document.check_programs.Given as goal

-- the first fault is the first fault of the items that are still to be checked
abbrev pub invariant-loop-item : goal.invariant-loop-item
invariant-loop-item l = first_some (program_fault (table_view l.programs)) (tables_in (items_view l.motes))
    ≡ first_some (program_fault (table_view l.programs)) (tables_in (items_view (drop l.item-index l.motes)))

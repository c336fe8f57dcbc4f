use Rattle.std.proofs.Common.{◌≡◌, ◌++◌, None, drop, map}
use Rattle.toml.specs.View.{items_view}
use Rattle.net_scenario.specs.Document.{first_some, tables_in}
use Rattle.net_scenario.specs.Rules.{keys_fault, loss_rules}
use Rattle.net_scenario.specs.Net.{loss_of}
use Rattle.net_scenario.proofs.places.losses_of.Given as goal

-- the items that are still to be read have no fault; the losses so far and the losses of these items are all losses
abbrev pub invariant-loop-item : goal.invariant-loop-item
invariant-loop-item l = record {
  ruled : first_some (keys_fault loss_rules) (tables_in (items_view (drop l.item-index l.items))) ≡ None;
  value : map loss_of (tables_in (items_view l.items)) ≡ l.losses.items
      ++ map loss_of (tables_in (items_view (drop l.item-index l.items)));
}

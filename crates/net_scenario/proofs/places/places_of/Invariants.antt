use Rattle.std.proofs.Common.{◌≡◌, ◌++◌, None, drop, map}
use Rattle.toml.specs.View.{items_view}
use Rattle.net_scenario.specs.Document.{first_some, tables_in}
use Rattle.net_scenario.specs.Rules.{keys_fault, mote_rules}
use Rattle.net_scenario.specs.Net.{place_in}
use Rattle.net_scenario.proofs.places.places_of.Given as goal

-- the items that are still to be read have no fault; the places so far and the places of these items are all places
abbrev pub invariant-loop-item : goal.invariant-loop-item
invariant-loop-item l = record {
  ruled : first_some (keys_fault mote_rules) (tables_in (items_view (drop l.item-index l.items))) ≡ None;
  value : map place_in (tables_in (items_view l.items)) ≡ l.places.items
      ++ map place_in (tables_in (items_view (drop l.item-index l.items)));
}

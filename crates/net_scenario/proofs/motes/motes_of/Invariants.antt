use Rattle.std.proofs.Common.{◌≡◌, ◌++◌, None, drop, length, map, IsTrue}
use Rattle.std.specs.List.{list_all}
use Rattle.toml.specs.View.{items_view}
use Rattle.net_scenario.specs.Document.{first_some, members_of, tables_in}
use Rattle.mote_net.specs.Motes.{is_mote_of}
use Rattle.mote_net.specs.Meaning.{named_tree}
use Rattle.mote_net.specs.Meaning.{setup_of}
use Rattle.net_scenario.specs.Net.{mote_of_table, unread_fault}
use Rattle.net_scenario.proofs.motes.motes_of.Given as goal

-- the items that are still to be read have no fault; the motes so far and the motes of these items are all motes
abbrev pub invariant-loop-item : goal.invariant-loop-item
invariant-loop-item l = record {
  read : first_some (unread_fault (map named_tree l.programs)) (tables_in (items_view (drop l.item-index l.items)))
      ≡ None;
  value : map (mote_of_table (members_of l.queue) (map named_tree l.programs)) (tables_in (items_view l.items))
      ≡ map (setup_of l.programs) l.motes.items ++ map
      (mote_of_table (members_of l.queue) (map named_tree l.programs))
      (tables_in (items_view (drop l.item-index l.items)));
  fits : IsTrue (list_all (is_mote_of (length l.programs)) l.motes.items);
}

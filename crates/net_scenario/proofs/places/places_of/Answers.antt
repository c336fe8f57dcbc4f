use Rattle.std.proofs.Common.{List, map, ◌++◌, Vec, Global, ap, sym, ◌∙◌}
use Rattle.radio_medium.specs.declared.place.Place.{Place}
use Rattle.toml.specs.View.{items_view}
use Rattle.net_scenario.specs.Document.{tables_in}
use Rattle.net_scenario.specs.Rules.{keys_fault, mote_rules}
use Rattle.net_scenario.specs.Net.{place_in}
use Rattle.net_scenario.proofs.Each.{none_at, none_from, map_table, map_no_table, map_all}
use Rattle.net_scenario.proofs.places.places_of.Goals as goal
use Rattle.net_scenario.proofs.places.places_of.Goals.{in-Some+in_ok-push, in_default}

pub place_in-requires : goal.place_in-requires
place_in-requires c = record {
  no_fault =
      none_at (keys_fault mote_rules) _ _ _ _ c.loop-item-test.true c.item-item.is
      c.loop-item.invariant.ruled c.in-Some.ensures;
}

pub loop-item-init : goal.loop-item-init
loop-item-init c = record {
  ruled = c.requires.no_fault;
  value = ap (λ (ps : List Place). ps ++ map place_in (tables_in (items_view c.args.items.now)))
      (sym c.new-places.ensures.items);
}

pub loop-item-preserved : goal.loop-item-preserved
loop-item-preserved c = record {
  ruled = (none_from (keys_fault mote_rules) _ _ _ c.loop-item-test.true c.item-item.is
      c.loop-item.invariant.ruled).1;
  value = elim c.match-as_table.branch [
    | in-Some+in_ok-push w ↦ map_table place_in _ _ _ _ _ _ _ _ c.loop-item-test.true c.item-item.is
        w.in-Some.ensures w.place_in.ensures.value
        (ap (λ (v : Vec Place Global). v.items) w.places-is ∙ w.in_ok-push.ensures.items)
        c.loop-item.invariant.value
    | in_default w ↦ map_no_table place_in _ _ _ _ _ _ c.loop-item-test.true c.item-item.is
        w.in_default.ensures (ap (λ (v : Vec Place Global). v.items) w.places-is) c.loop-item.invariant.value
  ];
}

pub returns : goal.returns
returns c = record { places = map_all place_in _ _ _ _ c.loop-item-test.false c.loop-item.invariant.value }

use Rattle.std.proofs.Common.{List, map, ◌++◌, length, Vec, Global, ap, sym, ◌∙◌}
use Rattle.std.specs.List.{list_all}
use Rattle.std.proofs.lemmas.List.{map_push}
use Rattle.toml.specs.View.{items_view}
use Rattle.mote_net.specs.declared.net.MoteSetup.{MoteSetup}
use Rattle.mote_net.specs.Motes.{is_mote_of}
use Rattle.mote_net.specs.Meaning.{named_tree}
use Rattle.mote_net.specs.Meaning.{setup_of}
use Rattle.net_scenario.specs.Document.{members_of, tables_in}
use Rattle.net_scenario.specs.Net.{mote_of_table, unread_fault}
use Rattle.net_scenario.proofs.Each.{none_at, none_from, map_table, map_no_table, map_all}
use Rattle.net_scenario.proofs.NetMotes.{all_push}
use Rattle.net_scenario.proofs.motes.motes_of.Goals as goal
use Rattle.net_scenario.proofs.motes.motes_of.Goals.{in-Some+in_ok-push, in_default}

pub mote_of_table-requires-clause-read : goal.mote_of_table-requires-clause-read
mote_of_table-requires-clause-read c = none_at (unread_fault (map named_tree c.args.programs.now)) _ _ _ _
    c.loop-item-test.true c.item-item.is c.loop-item.invariant.read c.in-Some.ensures

pub loop-item-init : goal.loop-item-init
loop-item-init c =
    let mote = mote_of_table (members_of c.args.queue) (map named_tree c.args.programs.now) in
    record {
      read = c.requires.read;
      value = ap (λ (ms : List MoteSetup). map (setup_of c.args.programs.now) ms
          ++ map mote (tables_in (items_view c.args.items.now))) (sym c.new-motes.ensures.items);
      fits = ap (list_all (is_mote_of (length c.args.programs.now))) c.new-motes.ensures.items;
    }

pub loop-item-preserved : goal.loop-item-preserved
loop-item-preserved c =
    let setup = setup_of c.args.programs.now in
    let mote = mote_of_table (members_of c.args.queue) (map named_tree c.args.programs.now) in
    let fits = list_all (is_mote_of (length c.args.programs.now)) in
    record {
      read = (none_from (unread_fault (map named_tree c.args.programs.now)) _ _ _ c.loop-item-test.true
          c.item-item.is c.loop-item.invariant.read).1;
      value = elim c.match-as_table.branch [
        | in-Some+in_ok-push w ↦ map_table mote _ _ _ _ _ _ _ _ c.loop-item-test.true c.item-item.is
            w.in-Some.ensures w.mote_of_table.ensures.value
            (ap (λ (v : Vec MoteSetup Global). map setup v.items) w.motes-is
            ∙ ap (map setup) w.in_ok-push.ensures.items ∙ map_push setup _ _)
            c.loop-item.invariant.value
        | in_default w ↦ map_no_table mote _ _ _ _ _ _ c.loop-item-test.true c.item-item.is w.in_default.ensures
            (ap (λ (v : Vec MoteSetup Global). map setup v.items) w.motes-is) c.loop-item.invariant.value
      ];
      fits = elim c.match-as_table.branch [
        | in-Some+in_ok-push w ↦ ap (λ (v : Vec MoteSetup Global). fits v.items) w.motes-is
            ∙ ap fits w.in_ok-push.ensures.items
            ∙ all_push (is_mote_of (length c.args.programs.now)) _ _ c.loop-item.invariant.fits
            w.mote_of_table.ensures.fits
        | in_default w ↦ ap (λ (v : Vec MoteSetup Global). fits v.items) w.motes-is ∙ c.loop-item.invariant.fits
      ];
    }

pub returns : goal.returns
returns c = record {
  value = map_all (mote_of_table (members_of c.args.queue) (map named_tree c.args.programs.now)) _ _ _ _
      c.loop-item-test.false c.loop-item.invariant.value;
  fits = c.loop-item.invariant.fits;
}

use Rattle.std.proofs.Common.{lit<, lit≤, refl, sym, ◌∙◌}
use Rattle.toml.specs.View.{table_view}
use Rattle.net_scenario.specs.Rules.{top_rules}
use Rattle.net_scenario.proofs.Each.{faultless}
use Rattle.net_scenario.proofs.Keeps.{keeps_all, table_kept, natural_kept}
use Rattle.net_scenario.proofs.Members.{all_read}
use Rattle.net_scenario.proofs.Reading.{made, mote_count, few_motes, some_motes, place_count}
use Rattle.net_scenario.proofs.WithinLimits.{early_end}
use Rattle.net_scenario.proofs.read.net_from.Goals as goal

pub table_at-requires : goal.table_at-requires
table_at-requires c = record { holds_table = table_kept _ _ (keeps_all _ top_rules _ (faultless _ c.requires.no_fault).top 3 (lit< tt) refl) }

pub motes_of-requires-clause-in_order : goal.motes_of-requires-clause-in_order
motes_of-requires-clause-in_order c = rw c.deref.ensures.value c.in_ok-programs.ensures.in_order

pub motes_of-requires-clause-queue : goal.motes_of-requires-clause-queue
motes_of-requires-clause-queue c = rw c.table_if_any-queue.ensures.members (faultless _ c.requires.no_fault).lengths

pub motes_of-requires-clause-read : goal.motes_of-requires-clause-read
motes_of-requires-clause-read c =
    rw (c.deref.ensures.value, c.items_at.ensures.items)
    (all_read _ _ _ (rw c.table_at.ensures.table at c.in_ok-programs.ensures.read) (faultless _ c.requires.no_fault).programs)

pub natural_at-end-requires : goal.natural_at-end-requires
natural_at-end-requires c = record {
  holds_number =
      natural_kept 1000000 _ _ (lit≤ tt)
      (keeps_all _ top_rules _ (faultless _ c.requires.no_fault).top 1 (lit< tt) refl);
}

pub table_at-requires-2 : goal.table_at-requires-2
table_at-requires-2 c = record { holds_table = table_kept _ _ (keeps_all _ top_rules _ (faultless _ c.requires.no_fault).top 2 (lit< tt) refl) }

pub new-requires-clause-end_bounded : goal.new-requires-clause-end_bounded
new-requires-clause-end_bounded c = early_end (table_view c.args.top.now) (faultless _ c.requires.no_fault) _ c.natural_at-end.ensures.value

pub new-requires-clause-enough_motes : goal.new-requires-clause-enough_motes
new-requires-clause-enough_motes c =
    let motes = rw (c.deref.ensures.value, c.table_if_any-queue.ensures.members, c.items_at.ensures.items)
    at c.in_ok-motes.ensures.value in
    rw (mote_count (table_view c.args.top.now) c.in_ok-programs.programs.items _ _ motes)
    (some_motes _ (faultless _ c.requires.no_fault))

pub new-requires-clause-motes_bounded : goal.new-requires-clause-motes_bounded
new-requires-clause-motes_bounded c =
    let motes = rw (c.deref.ensures.value, c.table_if_any-queue.ensures.members, c.items_at.ensures.items)
    at c.in_ok-motes.ensures.value in
    rw (mote_count (table_view c.args.top.now) c.in_ok-programs.programs.items _ _ motes)
    (few_motes _ (faultless _ c.requires.no_fault))

pub new-requires-clause-placed : goal.new-requires-clause-placed
new-requires-clause-placed c =
    let motes = rw (c.deref.ensures.value, c.table_if_any-queue.ensures.members, c.items_at.ensures.items)
    at c.in_ok-motes.ensures.value in
    place_count (table_view c.args.top.now) _ c.in_ok-medium.ensures.makes_radio
    ∙ sym (mote_count (table_view c.args.top.now) c.in_ok-programs.programs.items _ _ motes)

pub returns : goal.returns
returns c = record {
  makes_net =
      let motes = rw (c.deref.ensures.value, c.table_if_any-queue.ensures.members, c.items_at.ensures.items)
      at c.in_ok-motes.ensures.value in
      rw c.new.ensures.net
      (made (table_view c.args.top.now) _ _ _ c.in_ok-programs.programs.items _
      (rw c.table_at.ensures.table at c.in_ok-programs.ensures.read)
      c.natural_at-end.ensures.value
      (rw c.table_at-2.ensures.table at c.boolean_at-collide.ensures.value)
      c.in_ok-medium.ensures.makes_radio
      motes);
}

use Rattle.std.proofs.Common.{lit<, lit≤, refl}
use Rattle.toml.specs.View.{table_view}
use Rattle.net_scenario.specs.Document.{version_of}
use Rattle.net_scenario.specs.Rules.{top_rules, medium_rules}
use Rattle.net_scenario.proofs.Each.{faultless}
use Rattle.net_scenario.proofs.Keeps.{keeps_all, table_kept, natural_kept}
use Rattle.net_scenario.proofs.WithinLimits.{within_limits}
use Rattle.net_scenario.proofs.read.medium_of.Goals as goal

pub places_of-requires : goal.places_of-requires
places_of-requires c = record { no_fault = rw c.items_at.ensures.items (faultless _ c.requires.no_fault).motes }

pub losses_of-requires : goal.losses_of-requires
losses_of-requires c = record { no_fault = rw c.items_at-2.ensures.items (faultless _ c.requires.no_fault).losses }

pub table_at-table-requires : goal.table_at-table-requires
table_at-table-requires c = record { holds_table = table_kept _ _ (keeps_all _ top_rules _ (faultless _ c.requires.no_fault).top 2 (lit< tt) refl) }

pub natural_at-range-requires : goal.natural_at-range-requires
natural_at-range-requires c = record {
  holds_number =
      natural_kept 100000 _ _ (lit≤ tt)
      (keeps_all (version_of (table_view c.args.top.now)) medium_rules (table_view c.table_at-table.result.now)
      (rw c.table_at-table.ensures.table (faultless _ c.requires.no_fault).medium) 0 (lit< tt) refl);
}

pub natural_at-base-requires : goal.natural_at-base-requires
natural_at-base-requires c = record {
  holds_number =
      natural_kept 1000000 _ _ (lit≤ tt)
      (keeps_all (version_of (table_view c.args.top.now)) medium_rules (table_view c.table_at-table.result.now)
      (rw c.table_at-table.ensures.table (faultless _ c.requires.no_fault).medium) 1 (lit< tt) refl);
}

pub natural_at-per-requires : goal.natural_at-per-requires
natural_at-per-requires c = record {
  holds_number =
      natural_kept 1000000 _ _ (lit≤ tt)
      (keeps_all (version_of (table_view c.args.top.now)) medium_rules (table_view c.table_at-table.result.now)
      (rw c.table_at-table.ensures.table (faultless _ c.requires.no_fault).medium) 2 (lit< tt) refl);
}

pub new-requires : goal.new-requires
new-requires c = record {
  is_within_limits =
      rw (
        c.deref.ensures.value,
        c.deref-2.ensures.value,
        c.in_ok-places.ensures.places,
        c.in_ok-losses.ensures.losses,
        c.items_at.ensures.items,
        c.items_at-2.ensures.items,
      )
      (within_limits (table_view c.args.top.now) (faultless _ c.requires.no_fault) _ _ _
      (rw c.table_at-table.ensures.table at c.natural_at-range.ensures.value)
      (rw c.table_at-table.ensures.table at c.natural_at-base.ensures.value)
      (rw c.table_at-table.ensures.table at c.natural_at-per.ensures.value));
}

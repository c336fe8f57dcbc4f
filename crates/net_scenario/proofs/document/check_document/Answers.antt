use Rattle.std.proofs.Common.{lit<, refl}
use Rattle.net_scenario.proofs.Keeps.{keeps_all, table_kept}
use Rattle.net_scenario.specs.Rules.{top_rules}
use Rattle.net_scenario.proofs.document.check_document.Goals as goal

pub table_at-requires : goal.table_at-requires
table_at-requires c = record {
  holds_table =
      table_kept _ _ (keeps_all _ top_rules _ (rw c.top_keys.ensures.rules at c.in_ok-check_keys.ensures.checks) 2
      (lit< tt) refl);
}

pub table_at-programs-requires : goal.table_at-programs-requires
table_at-programs-requires c = record {
  holds_table =
      table_kept _ _
      (keeps_all _ top_rules _ (rw c.top_keys.ensures.rules at c.in_ok-check_keys.ensures.checks) 3 (lit< tt) refl);
}

use Rattle.std.proofs.Common.{lit<, lit≤, refl}
use Rattle.net_scenario.specs.declared.version.Version.TheVariants.{First}
use Rattle.net_scenario.specs.Rules.{loss_rules}
use Rattle.net_scenario.proofs.Keeps.{keeps_all, natural_kept}
use Rattle.net_scenario.proofs.places.loss_of.Goals as goal

pub natural_at-requires : goal.natural_at-requires
natural_at-requires c = record { holds_number = natural_kept 1000000 _ _ (lit≤ tt) (keeps_all First loss_rules _ c.requires.no_fault 0 (lit< tt) refl) }

pub natural_at-requires-2 : goal.natural_at-requires-2
natural_at-requires-2 c = record { holds_number = natural_kept 1000000 _ _ (lit≤ tt) (keeps_all First loss_rules _ c.requires.no_fault 1 (lit< tt) refl) }

pub natural_at-requires-3 : goal.natural_at-requires-3
natural_at-requires-3 c = record { holds_number = natural_kept 1000000 _ _ (lit≤ tt) (keeps_all First loss_rules _ c.requires.no_fault 2 (lit< tt) refl) }

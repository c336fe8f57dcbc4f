use Rattle.std.proofs.Common.{pos, negsuc, lit<, refl, arith}
use Rattle.std.proofs.lemmas.Int.{ints}
use Rattle.net_scenario.specs.declared.version.Version.TheVariants.{First}
use Rattle.net_scenario.specs.Rules.{mote_rules}
use Rattle.net_scenario.proofs.Keeps.{keeps_all, signed_kept}
use Rattle.net_scenario.proofs.places.place_in.Goals as goal

pub integer_at-requires : goal.integer_at-requires
integer_at-requires c = record {
  holds_number =
      signed_kept (negsuc 29999) (pos 30000) _ _ (omega (arith, ints)) (omega (arith, ints))
      (keeps_all First mote_rules _ c.requires.no_fault 0 (lit< tt) refl);
}

pub integer_at-requires-2 : goal.integer_at-requires-2
integer_at-requires-2 c = record {
  holds_number =
      signed_kept (negsuc 29999) (pos 30000) _ _ (omega (arith, ints)) (omega (arith, ints))
      (keeps_all First mote_rules _ c.requires.no_fault 1 (lit< tt) refl);
}

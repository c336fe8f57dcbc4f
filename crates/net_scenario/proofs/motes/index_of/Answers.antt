use Rattle.std.proofs.Common.{rules, nat_cmp}
use Rattle.std.proofs.lemmas.Fn.{always_returns_same}
use Rattle.std.specs.Cmp.Lexicographic.{slice_cmp}
use Rattle.net_scenario.proofs.ByName.{found_place, no_place}
use Rattle.net_scenario.proofs.motes.index_of.Goals as goal

pub returns-in-Ok : goal.returns-in-Ok
returns-in-Ok c = record {
  position =
      found_place _ _ _ c.requires.are_in_order c.in-Ok.ensures.bound
      (c.in-Ok.ensures.position (λ p. slice_cmp nat_cmp p.name c.args.name.now)
      (always_returns_same _ _ _ (λ a r q k. search rules)));
}

pub returns-in-Err : goal.returns-in-Err
returns-in-Err c = record {
  position =
      no_place _ _ _ c.requires.are_in_order (c.in-Err.ensures.position (λ p. slice_cmp nat_cmp p.name c.args.name.now)
      (always_returns_same _ _ _ (λ a r q k. search rules)));
}

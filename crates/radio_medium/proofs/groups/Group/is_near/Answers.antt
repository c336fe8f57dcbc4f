use Rattle.std.proofs.Common.{FitsSigned, w32, sym, ◌∙◌, rules}
use Rattle.std.proofs.lemmas.Int.{to_z-of_z}
use Rattle.radio_medium.proofs.Beyond.{beyond_x, beyond_y}
use Rattle.radio_medium.proofs.groups.Group.is_near.Goals as goal

pub returns-then-reaches : goal.returns-then-reaches
returns-then-reaches c = record {
  is_beyond =
      let from : FitsSigned w32 c.args.from.y = search rules in
      let centre : FitsSigned w32 c.args.self.centre.y = search rules in
      let by_y = simp to_z-of_z at c.reaches-then-reaches.ensures.value in
      λ none. beyond_y c.args.self c.args.range c.args.from (sym by_y ∙ none);
}

pub returns-else-reaches : goal.returns-else-reaches
returns-else-reaches c = record {
  is_beyond =
      let from : FitsSigned w32 c.args.from.x = search rules in
      let centre : FitsSigned w32 c.args.self.centre.x = search rules in
      let by_x = simp to_z-of_z at c.reaches.ensures.value in
      λ _. beyond_x c.args.self c.args.range c.args.from (sym by_x ∙ c.if-reaches.false);
}

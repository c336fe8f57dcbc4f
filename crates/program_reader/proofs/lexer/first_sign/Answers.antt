use Rattle.std.proofs.Common.{◌≡◌, rules, tests, nat_eq, option_map, ◌∙◌, ap}
use Rattle.std.specs.Prelude.{find}
use Rattle.std.specs.List.{starts_with}
use Rattle.std.proofs.lemmas.Iterator.{YieldsList-from_slice}
use Rattle.std.proofs.lemmas.Iterator.Search.{find_from_yields_List}
use Rattle.program_reader.specs.Front.{token_entry}
use Rattle.program_reader.proofs.FindLaws.{sign_found}
use Rattle.program_reader.proofs.lexer.first_sign.Goals as goal

pub returns : goal.returns
returns c = record {
  value =
      let found : option_map (λ e. e.now) c.find.result ≡ find (λ s. starts_with nat_eq c.args.rest.now s.0.now)
      c.args.signs.now =
      find_from_yields_List (λ s. starts_with nat_eq c.args.rest.now s.0.now) _ _ c.find.result c.find.ensures.ran
      (YieldsList-from_slice c.args.signs.now cc) (λ x b q k. search (rules, tests)) in
      ap (option_map token_entry) (c.copied.ensures ∙ found) ∙ sign_found c.args.signs.now c.args.rest.now;
}

use Rattle.std.proofs.Common.{◌≡◌, rules, tests, bytes_eq, option_map, ap, ◌∙◌}
use Rattle.std.specs.Prelude.{find}
use Rattle.std.proofs.lemmas.Iterator.{YieldsList-from_slice}
use Rattle.std.proofs.lemmas.Iterator.Search.{find_from_yields_List}
use Rattle.program_tree.specs.TokenMeaning.{token_of}
use Rattle.program_reader.proofs.FindLaws.{lookup_found, mapped_twice}
use Rattle.program_reader.proofs.words.lookup.Goals as goal

pub returns : goal.returns
returns c = record {
  value =
      let found : option_map (λ e. e.now) c.find.result ≡ find (λ e. bytes_eq e.0.now c.args.word.now) c.args.table.now =
      find_from_yields_List (λ e. bytes_eq e.0.now c.args.word.now) _ _ c.find.result c.find.ensures.ran
      (YieldsList-from_slice c.args.table.now cc) (λ x b q k. search (rules, tests)) in
      let mapped : c.map.result ≡ option_map (λ e. e.now.1) c.find.result = search (rules, tests) in
      ap (option_map token_of) mapped ∙ mapped_twice c.find.result ∙ ap (option_map (λ e. token_of e.1)) found
      ∙ lookup_found c.args.table.now c.args.word.now;
}

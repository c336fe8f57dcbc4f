use Rattle.std.proofs.Common.{◌≡◌, rules, tests, ◌∙◌}
use Rattle.std.proofs.lemmas.Iterator.{YieldsList-from_slice}
use Rattle.std.proofs.lemmas.Iterator.Search.{position_from_yields_List}
use Rattle.std.specs.List.{position}
use Rattle.program_tree.specs.Text.{is_feed}
use Rattle.program_reader.proofs.FindLaws.{front_len}
use Rattle.program_reader.proofs.lexer.line_len.Goals as goal

pub returns-clause-len : goal.returns-clause-len
returns-clause-len c =
    let found : c.position.result ≡ position is_feed c.args.rest.now =
    position_from_yields_List is_feed _ _ c.position.result c.position.ensures.ran
    (YieldsList-from_slice c.args.rest.now cc) (λ x b q k. search (rules, tests)) in
    c.unwrap_or.ensures ∙ front_len is_feed c.args.rest.now c.position.result found

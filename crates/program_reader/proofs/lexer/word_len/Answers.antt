use Rattle.std.proofs.Common.{◌≡◌, not, rules, tests, ◌∙◌}
use Rattle.std.proofs.lemmas.Iterator.{YieldsList-from_slice}
use Rattle.std.proofs.lemmas.Iterator.Search.{position_from_yields_List}
use Rattle.std.specs.List.{position}
use Rattle.program_tree.specs.Words.{is_word_byte}
use Rattle.program_reader.proofs.FindLaws.{front_len, same_front_len}
use Rattle.program_reader.proofs.lexer.word_len.Goals as goal

pub returns-clause-len : goal.returns-clause-len
returns-clause-len c =
    let found : c.position.result ≡ position (λ b. not (is_word_byte b)) c.args.rest.now =
    position_from_yields_List (λ b. not (is_word_byte b)) _ _ c.position.result c.position.ensures.ran
    (YieldsList-from_slice c.args.rest.now cc) (λ x b q k. search (rules, tests)) in
    c.unwrap_or.ensures ∙ front_len (λ b. not (is_word_byte b)) c.args.rest.now c.position.result found
    ∙ same_front_len is_word_byte c.args.rest.now

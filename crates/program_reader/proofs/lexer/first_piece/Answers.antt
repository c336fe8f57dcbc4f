use Rattle.std.proofs.Common.{sym, ◌∙◌, ap, refl, not}
use Rattle.std.specs.List.{prefix_len}
use Rattle.program_tree.specs.Text.{is_feed}
use Rattle.std.proofs.lemmas.List.{take_rest}
use Rattle.program_tree.specs.Words.{is_word_byte}
use Rattle.program_reader.proofs.PieceLaws.{blank_front, word_front, comment_front, front_passes}
use Rattle.program_reader.proofs.lexer.first_piece.Goals as goal

pub word_token-requires : goal.word_token-requires
word_token-requires c = record { word_bytes = rw c.word_len-len.ensures.len (front_passes is_word_byte c.args.rest.now) }

pub returns-then-is_blank-clause-piece : goal.returns-then-is_blank-clause-piece
returns-then-is_blank-clause-piece c = blank_front c.args.rest.now c.requires.not_empty (sym c.if-is_blank.ensures.value)

pub returns-then-is_word_byte-clause-piece : goal.returns-then-is_word_byte-clause-piece
returns-then-is_word_byte-clause-piece c =
    rw c.word_token.ensures.value (word_front c.args.rest.now c.word_len-len.result (sym c.if-is_word_byte.ensures.value)
    c.word_len-len.ensures.len)

pub returns-then-starts_with-clause-piece : goal.returns-then-starts_with-clause-piece
returns-then-starts_with-clause-piece c =
    comment_front c.args.rest.now c.line_len.result _ (sym c.if-starts_with.ensures.value)
    (c.line_len.ensures.len ∙ ap (prefix_len (λ b. not (is_feed b))) (take_rest c.args.rest.now 2)) refl

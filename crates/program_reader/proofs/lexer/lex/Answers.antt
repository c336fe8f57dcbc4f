use Rattle.std.proofs.Common.{◌≡◌, ◌+◌, ◌∙◌, arith, cond, get_or, length}
use Rattle.std.proofs.lemmas.List.{take_rest}
use Rattle.program_tree.specs.Text.{is_feed}
use Rattle.program_reader.proofs.LexLaws.{all_read, turn, shorter, feed_here, no_feed_here}
use Rattle.program_reader.proofs.lexer.lex.Goals as goal
use Rattle.program_reader.proofs.lexer.lex.Goals.{then-first-eq10, else-first-eq10}

pub loop-rest-preserved : goal.loop-rest-preserved
loop-rest-preserved c =
    let next : c.if-first-eq10.line ≡ c.loop-rest.line + cond (is_feed (get_or c.loop-rest.rest.now 0 0)) 1 0 =
    elim c.if-first-eq10.branch [
      | then-first-eq10 w ↦ w.line-is ∙ feed_here _ _ w.if-first-eq10.true
      | else-first-eq10 w ↦ w.line-is ∙ no_feed_here _ _ w.if-first-eq10.false
    ] in
    let after = take_rest c.loop-rest.rest.now c.first_piece-front.result.len in (
      turn _ _ _ _ _ _ _ _ _ _ _ c.loop-rest.invariant.0 c.first_piece-front.ensures.piece c.in_ok-add.ensures.tokens
          c.in_ok-add.ensures.lines next after,
      shorter c.loop-rest.line c.if-first-eq10.line (length c.args.text.now) c.first_piece-front.result.len
          c.loop-rest.rest.now _ c.loop-rest.invariant.1 next c.first_piece-front.ensures.moves
          c.first_piece-front.ensures.within after,
    )

pub returns : goal.returns
returns c = record {
  is_lexed =
      rw c.in_ok-push.ensures.items (all_read _ _ _ _ _ c.loop-rest.invariant.0
      (omega (arith, c.in_default.len_below)));
}

use Rattle.std.proofs.Common.{◌≡◌, ◌∙◌, map, ap, sym, subst}
use Rattle.program_tree.specs.Canonical.{canonical_text}
use Rattle.program_tree.specs.Program.{tree_of}
use Rattle.program_tree.specs.Reading.{IsTreeOf}
use Rattle.mote_program.specs.Spelled.{spelled_tokens}
use Rattle.program_tree.specs.TokenMeaning.{token_of}
use Rattle.std.proofs.lemmas.Result.{IfOk-weaker}
use Rattle.mote_program.proofs.ReadAgain.{read_again}
use Rattle.mote_program.proofs.SpelledLaws.{text_spelled}
use Rattle.mote_program.proofs.printer.print_program.Goals as goal

pub returns-clause-text : goal.returns-clause-text
returns-clause-text c =
    let spelled : map token_of c.deref.result.now ≡ spelled_tokens (tree_of c.args.program.now) =
    ap (map token_of) c.deref.ensures.value ∙ c.in_ok-tokens.ensures.tokens in
    IfOk-weaker c.print.result _ _ (λ t e. e ∙ ap canonical_text spelled ∙ text_spelled (tree_of c.args.program.now)
    c.args.program.now.was_read) c.print.ensures.text

pub returns-clause-reads : goal.returns-clause-reads
returns-clause-reads c =
    let tree = tree_of c.args.program.now in
    let spelled : map token_of c.deref.result.now ≡ spelled_tokens tree = ap (map token_of) c.deref.ensures.value
    ∙ c.in_ok-tokens.ensures.tokens in
    IfOk-weaker c.print.result _ _ (λ t e. subst (λ s. IsTreeOf s tree)
    (sym (e ∙ ap canonical_text spelled ∙ text_spelled tree c.args.program.now.was_read))
    (read_again tree c.args.program.now.was_read)) c.print.ensures.text

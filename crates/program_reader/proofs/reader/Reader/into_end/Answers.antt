use Rattle.std.proofs.Common.{◌≡◌, ◌∙◌, ap, sym, Some, option_map}
use Rattle.program_reader.specs.Machine.{first}
use Rattle.program_tree.specs.Tokens as token
use Rattle.program_tree.specs.TokenMeaning.{token_of}
use Rattle.program_tree.specs.declared.keyword.Keyword.TheVariants as word
use Rattle.program_reader.proofs.StatementSteps.{into_reads}
use Rattle.program_reader.proofs.reader.Reader.into_end.Goals as goal

pub returns-in_ok-sign-in-Some-Keyword-Into-clause-ok : goal.returns-in_ok-sign-in-Some-Keyword-Into-clause-ok
returns-in_ok-sign-in-Some-Keyword-Into-clause-ok c =
    let here : first c.args.self.now.cursor ≡ Some (token.Keyword word.Into) =
    sym c.peek.ensures.first_token ∙ ap (option_map token_of)
    (c.in-Some-Keyword-Into.is ∙ ap Some (c.in-Some-Keyword-Into.field-0-is)) ∙ ap (λ k. Some (token.Keyword k))
    c.in-Some-Keyword-Into.field-0-0-is in
    into_reads _ _ _ _ _ _ _ here c.advance-in-Some-Keyword-Into.ensures.after
    c.in_ok-variable-in-Some-Keyword-Into.ensures.ok c.in_ok-sign-in-Some-Keyword-Into.ensures.ok

use Rattle.std.proofs.Common.{◌≡◌, sym, ◌∙◌, ap, Some, option_map}
use denote.Enum.Bare.{same_true}
use Rattle.program_tree.specs.contracts.keyword.Keyword.{the_type}
use Rattle.program_tree.specs.Tokens as token
use Rattle.program_tree.specs.TokenMeaning.{token_of}
use Rattle.program_reader.proofs.NameSteps.{token_then}
use Rattle.program_reader.proofs.cursor.Cursor.accept.Goals as goal

pub returns-in-Some-Keyword-clause-read : goal.returns-in-Some-Keyword-clause-read
returns-in-Some-Keyword-clause-read c =
    let same : c.in-Some-Keyword.found ≡ c.args.keyword = same_true the_type tt _ _ (sym c.eq.ensures ∙ c.if-eq.true) in
    token_then _ _ _ (sym c.peek.ensures.first_token ∙ ap (option_map token_of) c.in-Some-Keyword.is ∙ ap (λ z. Some (token_of z))
    c.in-Some-Keyword.field-0-is ∙ ap (λ k. Some (token.Keyword k)) same) c.advance.ensures.after

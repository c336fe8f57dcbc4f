use Rattle.std.proofs.Common.{◌≡◌, ◌∙◌, ap, sym, Some, option_map}
use Rattle.program_reader.specs.Machine.{first}
use Rattle.program_tree.specs.Tokens as token
use Rattle.program_tree.specs.TokenMeaning.{token_of}
use Rattle.program_reader.proofs.NameSteps.{is_named}
use Rattle.program_reader.proofs.reader.Reader.number.Goals as goal

pub returns-in-Here-clause-ok : goal.returns-in-Here-clause-ok
returns-in-Here-clause-ok c =
    let is : first c.args.self.now.cursor ≡ Some (token.Name c.in-Some-Name.name.now) =
    sym c.peek.ensures.first_token ∙ ap (option_map token_of) (c.in-Some-Name.is ∙ ap Some c.in-Some-Name.field-0-is) in
    is_named _ _ _ c.in-Some-Name.name.now _ _ is c.in-Here.ensures.value

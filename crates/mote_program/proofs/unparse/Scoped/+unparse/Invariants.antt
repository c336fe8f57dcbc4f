use Rattle.std.proofs.Common.{◌≡◌, ◌++◌, ◌∷◌, map, drop}
use Rattle.std.specs.List.{flat_map}
use Rattle.program_tree.specs.InScope.{name_in}
use Rattle.mote_program.specs.Spelled.{names_in, statement_tokens}
use Rattle.program_tree.specs.Tokens.{OpenBrace}
use Rattle.program_tree.specs.TokenMeaning.{token_of}
use Rattle.program_tree.specs.Meaning.{statement_of}
use Rattle.program_tree.specs.Tree.{statement_map}
use Rattle.mote_program.proofs.unparse.Scoped.+unparse.Given as goal

abbrev pub invariant-block-statements : goal.invariant-block-statements
invariant-block-statements l =
    map token_of l.out.items ++ flat_map (λ s. statement_tokens
    (statement_map (name_in (names_in l.self)) (statement_of s))) (drop l.statement-index l.block.statements.items)
    ≡ map token_of l.fn.out.items ++ (OpenBrace ∷ flat_map
    (λ s. statement_tokens (statement_map (name_in (names_in l.self)) (statement_of s))) l.block.statements.items)

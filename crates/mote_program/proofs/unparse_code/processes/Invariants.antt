use Rattle.std.proofs.Common.{◌≡◌, ◌++◌, ◌∷◌, [], map, drop, get_or}
use Rattle.std.specs.List.{flat_map}
use Rattle.mote_program.specs.Spelled.{comma_tokens}
use Rattle.program_tree.specs.declared.keyword.Keyword.TheVariants as word
use Rattle.program_tree.specs.Tokens as token
use Rattle.program_tree.specs.TokenMeaning.{token_of}
use Rattle.mote_program.proofs.unparse_code.processes.Given as goal

abbrev pub invariant-loop-place : goal.invariant-loop-place
invariant-loop-place l =
    map token_of l.out.items ++ flat_map comma_tokens (drop l.place l.names) ≡ map token_of l.fn.out.items
    ++ (token.Keyword word.Process ∷ token.Name (get_or l.names 0 []) ∷ flat_map comma_tokens (drop 1 l.names))

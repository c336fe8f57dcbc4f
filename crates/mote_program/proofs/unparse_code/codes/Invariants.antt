use Rattle.std.proofs.Common.{◌≡◌, ◌++◌, map, drop}
use Rattle.std.specs.List.{flat_map}
use Rattle.mote_program.specs.Spelled.{code_tokens}
use Rattle.program_tree.specs.Program.{tree_of}
use Rattle.program_tree.specs.ShapeOf.{codes_of_tree}
use Rattle.program_tree.specs.TokenMeaning.{token_of}
use Rattle.mote_program.proofs.unparse_code.codes.Given as goal

abbrev pub invariant-loop-place : goal.invariant-loop-place
invariant-loop-place l =
    map token_of l.out.items ++ flat_map code_tokens (drop l.place (codes_of_tree (tree_of l.program)))
    ≡ map token_of l.fn.out.items ++ flat_map code_tokens (codes_of_tree (tree_of l.program))

use Rattle.std.proofs.Common.{◌≡◌, ◌++◌, map, drop}
use Rattle.std.specs.List.{flat_map, zip}
use Rattle.mote_program.specs.Spelled.{valued_tokens}
use Rattle.program_tree.specs.TokenMeaning.{token_of}
use Rattle.mote_program.proofs.unparse_code.valued.Given as goal

abbrev pub invariant-loop-place : goal.invariant-loop-place
invariant-loop-place l =
    map token_of l.out.items ++ flat_map (valued_tokens l.keyword) (drop l.place (zip l.names l.values))
    ≡ map token_of l.fn.out.items ++ flat_map (valued_tokens l.keyword) (zip l.names l.values)

use Rattle.std.proofs.Common.{◌≡◌, ◌++◌, map, drop}
use Rattle.std.specs.List.{flat_map}
use Rattle.mote_program.specs.Spelled.{listed_tokens}
use Rattle.program_tree.specs.TokenMeaning.{token_of}
use Rattle.mote_program.proofs.unparse_code.listed.Given as goal

abbrev pub invariant-loop-place : goal.invariant-loop-place
invariant-loop-place l =
    map token_of l.out.items ++ flat_map (listed_tokens l.keyword) (drop l.place l.names) ≡ map token_of l.fn.out.items
    ++ flat_map (listed_tokens l.keyword) l.names

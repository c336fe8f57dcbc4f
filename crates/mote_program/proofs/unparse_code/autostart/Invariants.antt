use Rattle.std.proofs.Common.{◌≡◌, ◌++◌, [], map, drop, get_or}
use Rattle.std.specs.List.{flat_map}
use Rattle.mote_program.specs.Spelled.{comma_tokens}
use Rattle.program_tree.specs.TokenMeaning.{token_of}
use Rattle.mote_program.proofs.unparse_code.autostart.Given as goal

abbrev pub invariant-loop-number : goal.invariant-loop-number
invariant-loop-number l =
    map token_of l.out.items ++ flat_map comma_tokens (drop l.number-index (map (λ i. get_or l.names i []) l.others))
    ≡ map token_of l.initial.out.items ++ flat_map comma_tokens (map (λ i. get_or l.names i []) l.others)

use Rattle.std.proofs.Common.{◌≡◌, ◌++◌, map, drop}
use Rattle.std.specs.List.{flat_map, zip}
use Rattle.mote_program.specs.Spelled.{names_in, named_tokens}
use Rattle.program_tree.specs.ShapeOf.{block_with}
use Rattle.program_tree.specs.FlatBlock.{tree_in}
use Rattle.program_tree.specs.TokenMeaning.{token_of}
use Rattle.mote_program.proofs.unparse.Scoped.blocks.Given as goal

abbrev pub invariant-loop-place : goal.invariant-loop-place
invariant-loop-place l =
    let items = zip l.names (map (block_with (names_in l.self)) (map tree_in l.blocks)) in
    map token_of l.out.items ++ flat_map (named_tokens l.keyword) (drop l.place items) ≡ map token_of l.fn.out.items
    ++ flat_map (named_tokens l.keyword) items

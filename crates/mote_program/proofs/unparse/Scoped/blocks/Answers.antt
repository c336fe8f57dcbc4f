use Rattle.std.proofs.lemmas.Slice.Zip.{length-zip}
use Rattle.std.proofs.Common.{◌≡◌, ◌<◌, ◌∙◌, length, map, sym, arith}
use Rattle.std.proofs.lemmas.List.{length-map}
use Rattle.std.specs.List.{zip}
use Rattle.program_tree.specs.ShapeOf.{block_with}
use Rattle.mote_program.specs.Spelled.{names_in, named_tokens}
use Rattle.program_tree.specs.FlatBlock.{tree_in}
use Rattle.mote_program.proofs.Adding.{one_item, mapped_at, no_more, two_added}
use Rattle.mote_program.proofs.unparse.Scoped.blocks.Goals as goal

pub loop-place-preserved : goal.loop-place-preserved
loop-place-preserved c =
    let low : c.loop-place.place < length c.args.names.now =
    omega (arith, c.len-place-end.ensures.length, c.loop-place-test.true) in
    let low' : c.loop-place.place < length c.args.blocks.now = omega (arith, low, c.requires.same_length) in
    one_item (named_tokens c.args.keyword) c.args.names.now (block_with (names_in c.args.self.now))
    (map tree_in c.args.blocks.now) c.loop-place.place c.get.result.now (tree_in c.index-blocks-place.result) _ _ _
    (length-map c.args.blocks.now tree_in ∙ c.requires.same_length) low (sym c.get.ensures.name)
    (mapped_at tree_in c.args.blocks.now c.loop-place.place c.index-blocks-place.result low'
    c.index-blocks-place.is)
    c.loop-place.invariant (two_added _ _ _ _ _ c.in_ok-add_all.ensures.appended c.in_ok-flat_block.ensures.appended)

pub returns : goal.returns
returns c = record {
  appended =
      let bodies = map (block_with (names_in c.args.self.now)) (map tree_in c.args.blocks.now) in
      let len : length bodies ≡ length c.args.names.now =
      length-map (map tree_in c.args.blocks.now) (block_with (names_in c.args.self.now))
      ∙ length-map c.args.blocks.now tree_in ∙ c.requires.same_length in
      no_more (named_tokens c.args.keyword) (zip c.args.names.now bodies) c.loop-place.place _ _
      (omega (arith, length-zip c.args.names.now bodies, len, c.len-place-end.ensures.length, c.loop-place-test.false))
      c.loop-place.invariant;
}

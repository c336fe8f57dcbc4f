use Rattle.std.proofs.lemmas.Slice.Zip.{length-zip}
use Rattle.std.proofs.Common.{◌≡◌, ◌<◌, ◌++◌, [], length, map, get_or, arith}
use Rattle.std.specs.List.{zip}
use Rattle.mote_program.specs.Spelled.{valued_tokens}
use Rattle.program_tree.specs.TokenMeaning.{token_of}
use Rattle.mote_program.proofs.Adding.{one_pair, no_more}
use Rattle.mote_program.proofs.unparse_code.valued.Goals as goal

pub loop-place-preserved : goal.loop-place-preserved
loop-place-preserved c =
    let low : c.loop-place.place < length c.args.names.now =
    omega (arith, c.len-place-end.ensures.length, c.loop-place-test.true) in
    let more : map token_of c.add_all.new.out.items ≡ map token_of c.loop-place.out.items
    ++ valued_tokens c.args.keyword (
      get_or c.args.names.now c.loop-place.place [],
      get_or c.args.values.now
          c.loop-place.place 0,
    ) =
    cc (c.in_ok-add_all.ensures.appended, c.get.ensures.name, c.from.ensures) in
    one_pair (valued_tokens c.args.keyword) c.args.names.now c.args.values.now c.loop-place.place [] 0 _ _ _ c.requires.same_length
    low c.loop-place.invariant more

pub returns : goal.returns
returns c = record {
  appended =
      no_more (valued_tokens c.args.keyword) (zip c.args.names.now c.args.values.now) c.loop-place.place _ _
      (omega (arith, length-zip c.args.names.now c.args.values.now, c.requires.same_length)) c.loop-place.invariant;
}

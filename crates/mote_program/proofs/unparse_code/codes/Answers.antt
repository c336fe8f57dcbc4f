use Rattle.std.proofs.lemmas.Slice.Zip.{length-zip}
use Rattle.std.proofs.Common.{◌≡◌, ◌<◌, ◌∙◌, length, map, sym, arith}
use Rattle.std.proofs.lemmas.List.{length-map}
use Rattle.program_tree.specs.Program.{code_of, tree_of}
use Rattle.program_tree.specs.ShapeOf.{names_of_tree, code_shape, codes_of_tree}
use Rattle.mote_program.specs.Spelled.{code_tokens}
use Rattle.mote_program.proofs.Adding.{one_item, mapped_at, no_more}
use Rattle.mote_program.proofs.unparse_code.codes.Goals as goal

pub loop-place-preserved : goal.loop-place-preserved
loop-place-preserved c =
    let program = c.args.program.now in
    let each : length program.codes.items ≡ length program.processes = program.each_code in
    let low' : c.loop-place.place < length program.codes.items =
    omega (arith, c.len-place-end.ensures, c.loop-place-test.true) in
    let low : c.loop-place.place < length program.processes = omega (arith, low', each) in
    one_item code_tokens program.processes (code_shape (names_of_tree (tree_of program)))
    (map code_of program.codes.items) c.loop-place.place c.get.result.now (code_of c.index.result.now) _ _ _
    (length-map program.codes.items code_of ∙ each) low (sym c.get.ensures.name)
    (mapped_at code_of program.codes.items c.loop-place.place c.index.result.now low' c.index.ensures)
    c.loop-place.invariant c.in_ok-code.ensures.appended

pub returns : goal.returns
returns c = record {
  appended =
      let program = c.args.program.now in
      let codes = map (code_shape (names_of_tree (tree_of program))) (map code_of program.codes.items) in
      let each : length program.codes.items ≡ length program.processes = program.each_code in
      let len : length codes ≡ length program.processes =
      length-map (map code_of program.codes.items) (code_shape (names_of_tree (tree_of program)))
      ∙ length-map program.codes.items code_of ∙ each in
      no_more code_tokens (codes_of_tree (tree_of program)) c.loop-place.place _ _
      (omega (arith, length-zip program.processes codes, len, each, c.len-place-end.ensures, c.loop-place-test.false))
      c.loop-place.invariant;
}

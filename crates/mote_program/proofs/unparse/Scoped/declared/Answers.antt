use Rattle.std.proofs.Common.{◌++◌, ◌∙◌, map, ap}
use Rattle.std.specs.List.{flat_map, zip}
use Rattle.program_tree.specs.ShapeOf.{block_with}
use Rattle.std.proofs.lemmas.Result.{on_ok_weaker}
use Rattle.mote_program.specs.Spelled.{names_in, valued_tokens, named_tokens}
use Rattle.program_tree.specs.TokenMeaning.{token_of}
use Rattle.program_tree.specs.FlatBlock.{tree_in}
use Rattle.program_tree.specs.declared.keyword.Keyword.TheVariants as word
use Rattle.mote_program.proofs.Adding.{four_added}
use Rattle.mote_program.proofs.unparse.Scoped.declared.Goals as goal

pub returns : goal.returns
returns c = record {
  appended =
      let code = c.args.self.now.code.now in
      let names = names_in c.args.self.now in
      on_ok_weaker c.blocks-3.result
      (λ m. four_added _ _ _ _ _ _ _ _ _
      (c.in_ok-valued.ensures.appended ∙ ap (λ vs. map token_of c.args.out.now.items ++ flat_map (valued_tokens word.Var)
      (zip code.variables vs)) c.deref.ensures.value)
      c.in_ok-listed.ensures.appended
      (c.in_ok-blocks.ensures.appended ∙ ap (λ bs. map token_of c.listed.new.out.items ++ flat_map (named_tokens word.Ctimer)
      (zip code.ctimers (map (block_with names) (map tree_in bs)))) c.deref-2.ensures.value)
      (m ∙ ap (λ bs. map token_of c.blocks-2.new.out.items ++ flat_map (named_tokens word.Thread)
      (zip code.threads (map (block_with names) (map tree_in bs)))) c.deref-3.ensures.value))
      c.blocks-3.ensures.appended;
}

use Rattle.std.proofs.Common.{◌++◌, ◌∙◌, [], map, ap, get_or}
use Rattle.std.specs.List.{flat_map, zip}
use Rattle.std.proofs.lemmas.Result.{on_ok_weaker}
use Rattle.mote_program.specs.Spelled.{valued_tokens, autostart_tokens}
use Rattle.program_tree.specs.TokenMeaning.{token_of}
use Rattle.program_tree.specs.declared.keyword.Keyword.TheVariants as word
use Rattle.mote_program.proofs.Adding.{five_added}
use Rattle.mote_program.proofs.unparse_code.head.Goals as goal

pub returns : goal.returns
returns c = record {
  appended =
      let program = c.args.program.now in
      on_ok_weaker c.receiver.result
      (λ m. five_added _ _ _ _ _ _ _ _ _ _ _ c.in_ok-listed.ensures.appended
      (c.in_ok-valued.ensures.appended ∙ ap (λ vs. map token_of c.listed.new.out.items ++ flat_map (valued_tokens word.Semaphore)
      (zip program.semaphores vs)) c.deref.ensures.value)
      c.in_ok-processes.ensures.appended
      (c.in_ok-autostart.ensures.appended ∙ ap (λ ns. map token_of c.processes.new.out.items
      ++ autostart_tokens (map (λ i. get_or program.processes i []) ns)) c.deref-2.ensures.value)
      m) c.receiver.ensures.appended;
}

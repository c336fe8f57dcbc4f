use Rattle.std.proofs.Common.{ℕ, ap, sym, ◌∙◌, subst}
use Rattle.program_tree.specs.Flat.{IsFlat}
use Rattle.program_tree.specs.Program.{code_of}
use Rattle.program_tree.specs.Tree.{Body}
use Rattle.protothread.specs.Places.{body_or_end, part_body}
use Rattle.protothread.proofs.part.Part.code_of_any.Goals as goal

pub returns-in-Body : goal.returns-in-Body
returns-in-Body c = record {
  is_flat =
      let P : Body ℕ → Type 0 = λ b. IsFlat b c.code.result.now in
      subst P (c.body.ensures.value ∙ ap (λ p. part_body (code_of c.args.text.now) p) (sym c.in-Body.is)) c.code.ensures.is_flat;
}

pub returns-in-OnPoll : goal.returns-in-OnPoll
returns-in-OnPoll c = record {
  is_flat =
      let P : Body ℕ → Type 0 = λ b. IsFlat b c.code_of_block.result.now in
      subst P (ap body_or_end c.on_poll.ensures.value ∙ ap (λ p. part_body (code_of c.args.text.now) p) (sym c.in-OnPoll.is)) c.code_of_block.ensures.is_flat;
}

pub returns-in-OnExit : goal.returns-in-OnExit
returns-in-OnExit c = record {
  is_flat =
      let P : Body ℕ → Type 0 = λ b. IsFlat b c.code_of_block-in-OnExit.result.now in
      subst P (ap body_or_end c.on_exit.ensures.value ∙ ap (λ p. part_body (code_of c.args.text.now) p) (sym c.in-OnExit.is)) c.code_of_block-in-OnExit.ensures.is_flat;
}

pub returns-in-Callback : goal.returns-in-Callback
returns-in-Callback c = record {
  is_flat =
      let P : Body ℕ → Type 0 = λ b. IsFlat b c.code_of_block-in-Callback.result.now in
      subst P (ap body_or_end c.callback.ensures.value ∙ ap (λ p. part_body (code_of c.args.text.now) p) (sym c.in-Callback.is)) c.code_of_block-in-Callback.ensures.is_flat;
}

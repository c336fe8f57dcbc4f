use Rattle.std.proofs.Common.{◌∙◌, ap₂}
use Rattle.std.proofs.lemmas.Result.{IfOk-weaker}
use Rattle.clap.specs.Words.{with_rule}
use Rattle.claim_check.proofs.command_line.command.Goals as goal

pub returns : goal.returns
returns c = record {
  is_motecheck =
      let one = c.in_ok-arg.ensures.shape c.value.ensures.not_global ∙ ap₂ with_rule c.in_ok-options_command.ensures.has_options c.value.ensures.rule in
      let two = c.in_ok-arg-2.ensures.shape c.file.ensures.not_global ∙ ap₂ with_rule one c.file.ensures.rule in
      IfOk-weaker c.arg-3.result _ _ (λ made h. h.shape c.file-2.ensures.not_global ∙ ap₂ with_rule two c.file-2.ensures.rule)
      c.arg-3.ensures;
}

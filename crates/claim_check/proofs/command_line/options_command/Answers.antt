use Rattle.std.proofs.Common.{◌∙◌, ap, ap₂, codes}
use Rattle.std.proofs.lemmas.Result.{IfOk-weaker}
use Rattle.clap.specs.Words.{with_rule}
use Rattle.claim_check.specs.Words.{number_rule}
use Rattle.claim_check.proofs.command_line.options_command.Goals as goal

pub returns : goal.returns
returns c = record {
  has_options =
      let at_most = c.number.ensures.rule ∙ ap (number_rule (codes "at-most")) c.value_parser.ensures in
      let runs = c.number-2.ensures.rule ∙ ap (number_rule (codes "runs")) c.value_parser-2.ensures in
      let one = c.in_ok-arg.ensures.shape c.number.ensures.not_global ∙ ap₂ with_rule c.in_ok-kinds_options.ensures.has_options at_most in
      IfOk-weaker c.arg-2.result _ _ (λ made h. h.shape c.number-2.ensures.not_global ∙ ap₂ with_rule one runs)
      c.arg-2.ensures;
}

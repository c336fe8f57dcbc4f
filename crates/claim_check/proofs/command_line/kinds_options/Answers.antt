use Rattle.std.proofs.Common.{◌∙◌, ap₂}
use Rattle.std.proofs.lemmas.Result.{IfOk-weaker}
use Rattle.clap.specs.Words.{with_rule}
use Rattle.claim_check.proofs.command_line.kinds_options.Goals as goal

pub returns : goal.returns
returns c = record {
  has_options =
      let one = c.in_ok-arg.ensures.shape c.flag.ensures.not_global ∙ ap₂ with_rule c.in_ok-run_options.ensures.has_options c.flag.ensures.rule in
      let two = c.in_ok-arg-2.ensures.shape c.flag-2.ensures.not_global ∙ ap₂ with_rule one c.flag-2.ensures.rule in
      let three = c.in_ok-arg-3.ensures.shape c.flag-3.ensures.not_global ∙ ap₂ with_rule two c.flag-3.ensures.rule in
      let four = c.in_ok-arg-4.ensures.shape c.value.ensures.not_global ∙ ap₂ with_rule three c.value.ensures.rule in
      let five = c.in_ok-arg-5.ensures.shape c.value-2.ensures.not_global ∙ ap₂ with_rule four c.value-2.ensures.rule in
      let six = c.in_ok-arg-6.ensures.shape c.value-3.ensures.not_global ∙ ap₂ with_rule five c.value-3.ensures.rule in
      IfOk-weaker c.arg-7.result _ _ (λ made h. h.shape c.value-4.ensures.not_global ∙ ap₂ with_rule six c.value-4.ensures.rule)
      c.arg-7.ensures;
}

use Rattle.std.proofs.Common.{◌≡◌, ◌∙◌, ap₂, rules, codes, true}
use Rattle.std.proofs.lemmas.Result.{IfOk-weaker}
use Rattle.clap.specs.Words.{app_of, new_app, with_rule}
use Rattle.clap.specs.Simple.{on_top}
use Rattle.claim_check.proofs.command_line.run_options.Goals as goal

pub returns : goal.returns
returns c = record {
  has_options =
      let start : app_of c.about.result ≡ on_top (λ s. record s { has_version = true }) (new_app (codes "motecheck")) = search rules in
      let one = c.in_ok-arg.ensures.shape c.fault_arg.ensures.not_global ∙ ap₂ with_rule start c.fault_arg.ensures.rule in
      let two = c.in_ok-arg-2.ensures.shape c.flag.ensures.not_global ∙ ap₂ with_rule one c.flag.ensures.rule in
      IfOk-weaker c.arg-3.result _ _ (λ made h. h.shape c.workers_arg.ensures.not_global ∙ ap₂ with_rule two c.workers_arg.ensures.rule)
      c.arg-3.ensures;
}

use Rattle.std.proofs.Common.{◌≡◌, ◌∙◌, ap₂, rules, codes}
use Rattle.std.proofs.lemmas.Result.{IfOk-weaker}
use Rattle.clap.specs.Words.{app_of, new_app, with_rule}
use Rattle.simulation.proofs.command_line.command.Goals as goal

pub returns : goal.returns
returns c = record {
  is_motesim =
      let start : app_of c.about.result ≡ new_app (codes "motesim") = search rules in
      let cuts = c.cut_arg.ensures.rule in
      let syncs = c.sync_arg.ensures.rule in
      let one = c.in_ok-arg.ensures.shape c.workers_arg.ensures.not_global ∙ ap₂ with_rule start c.workers_arg.ensures.rule in
      let two = c.in_ok-arg-2.ensures.shape c.cut_arg.ensures.not_global ∙ ap₂ with_rule one cuts.1 in
      let three = c.in_ok-arg-3.ensures.shape c.sync_arg.ensures.not_global ∙ ap₂ with_rule two syncs.1 in
      IfOk-weaker c.arg-4.result _ _ (λ made h. (
        cuts.0,
        syncs.0,
        h.shape c.file_arg.ensures.not_global ∙ ap₂ with_rule three c.file_arg.ensures.rule,
        cuts.2,
        syncs.2,
      )) c.arg-4.ensures;
}

use Rattle.std.proofs.Common.{◌∙◌, ap, subst}
use Rattle.simulation.specs.Words.{texts_of}
use Rattle.claim_check.specs.Command.{Commands, ends}
use Rattle.claim_check.proofs.process.run_words.Goals as goal

pub returns : goal.returns
returns g c =
    let old = ends (g.W.Write.contents c.args.output.now) (g.E.Write.contents c.args.errors.now) in
    let new = ends (g.W.Write.contents c.run_command.new.output) (g.E.Write.contents c.run_command.new.errors) in
    record {
      runs = subst (λ words. Commands words old new c.run_command.result) (ap texts_of c.deref.ensures.value ∙ c.in_ok-words.ensures.texts) c.run_command.ensures.commands;
    }

use Rattle.std.proofs.Common.{rules}
use Rattle.claim_check.specs.Asked.{are_in_conflict}
use Rattle.claim_check.specs.Command.{ChecksSome, ends}
use Rattle.claim_check.proofs.AskedAnswers.{by_refusal, by_result}
use Rattle.claim_check.proofs.command.run_asked.Goals as goal

pub returns-in-Some : goal.returns-in-Some
returns-in-Some g c =
    let a = c.args in
    let written = g.W.Write.contents a.output.now in
    record {
      serves =
          by_refusal (are_in_conflict a.asked.now) (ChecksSome a.asked.now written written) (ends written (g.E.Write.contents a.errors.now))
          (ends written (g.E.Write.contents c.refuse_options.new.errors)) c.refuse_options.result c.in-Some.ensures.value c.refuse_options.ensures.status (search rules);
    }

pub returns-in-None : goal.returns-in-None
returns-in-None g c =
    let a = c.args in
    let old = ends (g.W.Write.contents a.output.now) (g.E.Write.contents a.errors.now) in
    let new = ends (g.W.Write.contents c.check_asked-answer.new.output) (g.E.Write.contents c.status_of.new.errors) in
    record {
      serves =
          by_result (are_in_conflict a.asked.now) (ChecksSome a.asked.now old.output new.output) old new c.status_of.result c.in-None.ensures.value c.check_asked-answer.result
          c.check_asked-answer.ensures.checks_some c.status_of.ensures.status c.status_of.ensures.quiet c.status_of.ensures.line;
    }

use Rattle.std.proofs.Common.{None, rules, string_bytes, subst}
use Rattle.claim_check.specs.Asked.{is_in_conflict}
use Rattle.claim_check.specs.Command.{Responds, ends}
use Rattle.claim_check.proofs.AskedAnswers.{by_refusal, by_result}
use Rattle.claim_check.proofs.command.serve_options.Goals as goal

pub returns-in-Some : goal.returns-in-Some
returns-in-Some g c =
    let a = c.args in
    let written = g.W.Write.contents a.output.now in
    record {
      serves =
          by_refusal (is_in_conflict a.options.now) (Responds None a.options.now a.scenario.now a.claims.now (string_bytes a.options.now.faults) written written)
          (ends written (g.E.Write.contents a.errors.now)) (ends written (g.E.Write.contents c.refuse_options.new.errors)) c.refuse_options.result c.in-Some.ensures.value
          c.refuse_options.ensures.status (search rules);
    }

pub returns-in-None : goal.returns-in-None
returns-in-None g c =
    let a = c.args in
    let old = ends (g.W.Write.contents a.output.now) (g.E.Write.contents a.errors.now) in
    let new = ends (g.W.Write.contents c.answer_serial-answer.new.output) (g.E.Write.contents c.status_of.new.errors) in
    let responds = subst (λ f. Responds None a.options.now a.scenario.now a.claims.now f old.output new.output c.answer_serial-answer.result) c.as_str-faults.ensures.value c.answer_serial-answer.ensures.responds in
    record {
      serves =
          by_result (is_in_conflict a.options.now) (Responds None a.options.now a.scenario.now a.claims.now (string_bytes a.options.now.faults) old.output new.output) old new c.status_of.result
          c.in-None.ensures.value c.answer_serial-answer.result responds c.status_of.ensures.status c.status_of.ensures.quiet c.status_of.ensures.line;
    }

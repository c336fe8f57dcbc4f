use Rattle.std.proofs.Common.{◌∙◌, Ok, inl, rules, subst}
use Rattle.simulation.specs.Reads.{IsInputFault, ReadsText}
use Rattle.simulation.proofs.Lines.{for_some}
use Rattle.claim_check.specs.Command.{ends}
use Rattle.claim_check.specs.Input.{ServesInput, ServesText}
use Rattle.claim_check.proofs.Served.{by_input}
use Rattle.claim_check.proofs.input.run_input.Goals as goal

pub returns-in-Ok : goal.returns-in-Ok
returns-in-Ok g c =
    let old = ends (g.W.Write.contents c.args.output.now) (g.E.Write.contents c.args.errors.now) in
    let new = ends (g.W.Write.contents c.run_text.new.output) (g.E.Write.contents c.run_text.new.errors) in
    record {
      serves =
          for_some (g.R.Read.remaining c.args.input.now) (λ bytes. ReadsText bytes (Ok c.in-Ok.text)) (λ bytes. ServesInput bytes old new c.run_text.result) c.in-Ok.ensures.matches
          (λ bytes reads. inl (subst (λ text. ServesText text old new c.run_text.result) (c.as_str.ensures.value ∙ reads.0) c.run_text.ensures.serves));
    }

pub returns-in-Err : goal.returns-in-Err
returns-in-Err g c =
    let old = ends (g.W.Write.contents c.args.output.now) (g.E.Write.contents c.args.errors.now) in
    let new = ends (g.W.Write.contents c.args.output.now) (g.E.Write.contents c.status_of.new.errors) in
    record {
      serves =
          for_some (g.R.Read.remaining c.args.input.now) (λ bytes. IsInputFault bytes c.in-Err.error) (λ bytes. ServesInput bytes old new c.status_of.result) c.in-Err.ensures.matches
          (λ bytes refused. by_input bytes old new c.status_of.result c.in-Err.error refused (search rules) c.status_of.ensures.status c.status_of.ensures.line);
    }

use Rattle.std.proofs.Common.{◌≡◌, rules, string_bytes}
use Rattle.std.proofs.lemmas.Result.{err_from_is_err_and}
use Rattle.std.specs.Io.KnownBytes.{Appends}
use Rattle.trace_printer.specs.Output.{AppendsFront}
use Rattle.claim_check.specs.Asked.{way_for}
use Rattle.claim_check.proofs.AskedAnswers.{answered, failed}
use Rattle.claim_check.proofs.command.write_answers.Goals as goal

pub returns-in_err-answers : goal.returns-in_err-answers
returns-in_err-answers g c =
    let a = c.args in
    let p = err_from_is_err_and c.from_residual.result c.from_residual.ensures.1 in
    record { writes = rw (p.1, p.2) (failed (way_for a.options.now) a.options.now a.scenario.now a.claims.now a.faults.now _ _ c.in_err-answers.field-0.0 c.in_err-answers.ensures.answers (search rules)) }

pub returns-in_err-write_bytes : goal.returns-in_err-write_bytes
returns-in_err-write_bytes g c =
    let a = c.args in
    let p = err_from_is_err_and c.from_residual-in_err-write_bytes.result c.from_residual-in_err-write_bytes.ensures.1 in
    let same : c.as_bytes.result.now ≡ string_bytes c.in_ok-answers.answers.text = search rules in
    record {
      writes = rw (p.1, p.2) (
        c.in_ok-answers.answers.all_hold,
        answered (way_for a.options.now) a.options.now a.scenario.now a.claims.now a.faults.now (AppendsFront (g.W.Write.contents c.args.output.now) (g.W.Write.contents c.write_bytes.new.writer)) c.as_bytes.result.now _
            c.in_ok-answers.ensures.answers same c.in_err-write_bytes.ensures.writes,
      );
    }

pub returns : goal.returns
returns g c = record {
  writes =
      let a = c.args in
      let same : c.as_bytes.result.now ≡ string_bytes c.in_ok-answers.answers.text = search rules in
      answered (way_for a.options.now) a.options.now a.scenario.now a.claims.now a.faults.now (Appends (g.W.Write.contents c.args.output.now) (g.W.Write.contents c.write_bytes.new.writer)) c.as_bytes.result.now _
      c.in_ok-answers.ensures.answers same c.in_ok-write_bytes.ensures.writes;
}

use Rattle.std.proofs.lemmas.Result.{err_from_is_err_and}
use Rattle.std.specs.Io.KnownBytes.{Appends}
use Rattle.mote_net.specs.Meaning.{net_of}
use Rattle.mote_net.specs.Report.{report_of}
use Rattle.trace_printer.specs.Output.{AppendsFront}
use Rattle.simulation.proofs.Printed.{scenario_of, reported, refused}
use Rattle.simulation.proofs.end_to_end.simulate_text_by.Goals as goal

pub returns-in_err-net-clause-answer : goal.returns-in_err-net-clause-answer
returns-in_err-net-clause-answer g c =
    let p = err_from_is_err_and c.from_residual.result c.from_residual.ensures.1 in
    rw (p.1, p.2) (c.requires.is_text, refused c.args.text.now c.in_err-net.field-0.0 c.in_err-net.ensures.answers)

pub returns-in_err-report-clause-answer : goal.returns-in_err-report-clause-answer
returns-in_err-report-clause-answer g c =
    let p = err_from_is_err_and c.from_residual-in_err-report.result c.from_residual-in_err-report.ensures.1 in
    rw (p.1, p.2) (scenario_of c.args.text.now (net_of c.in_ok-net.net) c.requires.is_text c.in_ok-net.ensures.answers, c.in_err-report.ensures.ran)

pub returns-in_err-write_report_by-clause-answer : goal.returns-in_err-write_report_by-clause-answer
returns-in_err-write_report_by-clause-answer g c =
    let p = err_from_is_err_and c.from_residual-in_err-write_report_by.result c.from_residual-in_err-write_report_by.ensures.1 in
    let ran = c.in_ok-report.ensures.ran in
    rw (p.1, p.2) (
      ran.0,
      reported (AppendsFront (g.W.Write.contents c.args.writer.now) (g.W.Write.contents c.write_report_by.new.writer)) c.args.text.now (net_of c.in_ok-net.net) (report_of c.in_ok-report.report)
          c.requires.is_text c.in_ok-net.ensures.answers ran.1 c.in_err-write_report_by.ensures.writes,
    )

pub returns-clause-answer : goal.returns-clause-answer
returns-clause-answer g c =
    let ran = c.in_ok-report.ensures.ran in (
      ran.0,
      reported (Appends (g.W.Write.contents c.args.writer.now) (g.W.Write.contents c.write_report_by.new.writer)) c.args.text.now (net_of c.in_ok-net.net) (report_of c.in_ok-report.report)
          c.requires.is_text c.in_ok-net.ensures.answers ran.1 c.in_ok-write_report_by.ensures.writes,
    )

pub write_report_by-requires-clause-positive : goal.write_report_by-requires-clause-positive
write_report_by-requires-clause-positive g c κs within = c.in_ok-report.ensures.ran.0.0

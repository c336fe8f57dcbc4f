use Rattle.std.proofs.Common.{◌≡◌, refl, rules, subst}
use Rattle.std.proofs.lemmas.Result.{err_from_is_err_and}
use Rattle.std.specs.Io.KnownBytes.{Appends}
use Rattle.mote_net.specs.Meaning.{net_of}
use Rattle.mote_net.specs.Report.{report_of}
use Rattle.serial_run.specs.FaultRun.{IsReportWith}
use Rattle.simulation.proofs.Printed.{refused}
use Rattle.trace_printer.specs.Output.{AppendsFront}
use Rattle.claim_check.proofs.Answered.{reported, reports_no_faults}
use Rattle.std.proofs.Common.{None}
use Rattle.claim_check.proofs.checking.report_serial.Goals as goal

pub returns-in_err-net : goal.returns-in_err-net
returns-in_err-net g c =
    let p = err_from_is_err_and c.from_residual.result c.from_residual.ensures.1 in
    record { reports = rw (p.1, p.2) (refused c.args.scenario.now c.in_err-net.field-0.0 c.in_err-net.ensures.answers, search rules) }

pub returns-in_err-listed : goal.returns-in_err-listed
returns-in_err-listed g c =
    let p = err_from_is_err_and c.from_residual-in_err-listed.result c.from_residual-in_err-listed.ensures.1 in
    let a = c.args in
    let written = g.W.Write.contents a.output.now in
    record {
      reports = rw (p.1, p.2) (
          reports_no_faults None a.scenario.now a.faults.now (net_of c.in_ok-net.net) c.requires.is_text c.in_ok-net.ensures.answers written written c.in_err-listed.field-0.0
          c.in_err-listed.ensures.refused (search rules)
          );
    }

pub returns-in_err-write_report : goal.returns-in_err-write_report
returns-in_err-write_report g c =
    let p = err_from_is_err_and c.from_residual-in_err-write_report.result c.from_residual-in_err-write_report.ensures.1 in
    let a = c.args in
    let net = net_of c.in_ok-net.net in
    let r = report_of c.in_ok-found.found in
    let chosen : c.as_slice-chosen.result.now ≡ c.in_ok-listed.listed.items = search rules in
    let ran = subst (λ fs. IsReportWith fs net r) chosen c.in_ok-found.ensures.report in
    record {
      reports = rw (p.1, p.2) (
        tt,
        reported None a.scenario.now a.faults.now net c.requires.is_text c.in_ok-net.ensures.answers (AppendsFront (g.W.Write.contents a.output.now) (g.W.Write.contents c.write_report.new.writer))
            c.in_ok-listed.listed.items r c.in_ok-listed.ensures.are_faults ran c.in_err-write_report.ensures.writes,
      );
    }

pub returns : goal.returns
returns g c = record {
  reports =
      let a = c.args in
      let net = net_of c.in_ok-net.net in
      let r = report_of c.in_ok-found.found in
      let chosen : c.as_slice-chosen.result.now ≡ c.in_ok-listed.listed.items = search rules in
      let ran = subst (λ fs. IsReportWith fs net r) chosen c.in_ok-found.ensures.report in (
        refl,
        tt,
        reported None a.scenario.now a.faults.now net c.requires.is_text c.in_ok-net.ensures.answers (Appends (g.W.Write.contents a.output.now) (g.W.Write.contents c.write_report.new.writer))
            c.in_ok-listed.listed.items r c.in_ok-listed.ensures.are_faults ran c.in_ok-write_report.ensures.writes,
      );
}

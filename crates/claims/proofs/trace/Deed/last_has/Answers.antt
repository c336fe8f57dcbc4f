use Rattle.std.proofs.Common.{◌∙◌, sym}
use Rattle.mote_net.specs.Report.{report_of}
use Rattle.claims.specs.Traces.{lines_of}
use Rattle.claims.specs.Values.{ends_in}
use Rattle.claims.proofs.DeedLaws.{list_any-lines_of}
use Rattle.claims.proofs.trace.Deed.last_has.Goals as goal

pub returns : goal.returns
returns c = record {
  value =
      c.last_has_somewhere.ensures.value
      ∙ sym (list_any-lines_of (ends_in c.args.set.now (lines_of (report_of c.args.report.now) c.args.self.now)) (report_of c.args.report.now) c.args.self.now);
}

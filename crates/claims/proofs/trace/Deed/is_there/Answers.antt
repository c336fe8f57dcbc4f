use Rattle.std.proofs.Common.{◌∙◌, sym}
use Rattle.mote_net.specs.Report.{report_of}
use Rattle.claims.specs.Traces.{lines_of}
use Rattle.claims.specs.Values.{is_such}
use Rattle.claims.proofs.DeedLaws.{list_any-lines_of}
use Rattle.claims.proofs.trace.Deed.is_there.Goals as goal

pub returns : goal.returns
returns c = record {
  value =
      c.is_there_somewhere.ensures.value
      ∙ sym (list_any-lines_of (is_such (lines_of (report_of c.args.report.now) c.args.self.now) c.args.index c.args.set.now) (report_of c.args.report.now) c.args.self.now);
}

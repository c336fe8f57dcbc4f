use Rattle.std.proofs.Common.{◌∙◌, sym, true}
use Rattle.mote_net.specs.Report.{report_of}
use Rattle.claims.specs.PerMote.{meets_so}
use Rattle.claims.proofs.DeedLaws.{list_any-lines_of}
use Rattle.claims.proofs.compared.Comparison.some_meets.Goals as goal

pub returns : goal.returns
returns c = record {
  value =
      c.has_somewhere.ensures.value
      ∙ sym (list_any-lines_of (meets_so c.args.self.now (report_of c.args.report.now) true) (report_of c.args.report.now) c.args.self.now.deed);
}

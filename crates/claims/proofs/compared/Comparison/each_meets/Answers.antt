use Rattle.std.proofs.Common.{◌∙◌, sym, ap, not, false}
use Rattle.mote_net.specs.Report.{report_of}
use Rattle.claims.specs.Traces.{lines_of}
use Rattle.claims.specs.Compared.{meets}
use Rattle.claims.specs.PerMote.{meets_so}
use Rattle.claims.proofs.DeedLaws.{list_any-lines_of}
use Rattle.claims.proofs.AnyLaws.{all_by_any}
use Rattle.claims.proofs.compared.Comparison.each_meets.Goals as goal

pub returns : goal.returns
returns c =
    let r = report_of c.args.report.now in
    let self = c.args.self.now in
    record {
      value =
          ap not
          (c.has_somewhere.ensures.value ∙ sym (list_any-lines_of (meets_so self r false) r self.deed))
          ∙ sym (all_by_any (meets self.way (lines_of r self.deed) (lines_of r self.other)) (lines_of r self.deed));
    }

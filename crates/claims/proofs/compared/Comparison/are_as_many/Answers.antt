use Rattle.std.proofs.Common.{◌∙◌, ap₂}
use Rattle.std.specs.Prelude.{◌==◌}
use Rattle.mote_net.specs.Report.{report_of}
use Rattle.claims.specs.Traces.{lines_of}
use Rattle.claims.proofs.ValueLaws.{count_by-any}
use Rattle.claims.proofs.compared.Comparison.are_as_many.Goals as goal

pub returns : goal.returns
returns c =
    let r = report_of c.args.report.now in
    record {
      value =
          ap₂ (λ n m. n == m)
          (c.count_marked.ensures.value ∙ count_by-any (lines_of r c.args.self.now.deed))
          (c.count_marked-2.ensures.value ∙ count_by-any (lines_of r c.args.self.now.other));
    }

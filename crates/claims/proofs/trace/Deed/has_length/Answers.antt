use Rattle.std.proofs.Common.{◌∙◌, ap}
use Rattle.std.specs.Prelude.{◌==◌}
use Rattle.mote_net.specs.Report.{report_of}
use Rattle.claims.specs.Traces.{lines_of}
use Rattle.claims.proofs.ValueLaws.{count_by-any}
use Rattle.claims.proofs.trace.Deed.has_length.Goals as goal

pub returns : goal.returns
returns c = record {
  value =
      ap (λ n. c.args.wanted == n)
      (c.count_marked.ensures.value ∙ count_by-any (lines_of (report_of c.args.report.now) c.args.self.now));
}

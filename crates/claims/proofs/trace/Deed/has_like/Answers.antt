use Rattle.std.proofs.Common.{◌∙◌, sym}
use Rattle.mote_net.specs.Report.{report_of}
use Rattle.claims.specs.Traces.{lines_of}
use Rattle.claims.specs.PerMote.{is_like}
use Rattle.claims.proofs.DeedLaws.{list_any-lines_of}
use Rattle.claims.proofs.trace.Deed.has_like.Goals as goal

pub returns : goal.returns
returns c = record {
  value =
      c.has_like_somewhere.ensures.value
      ∙ sym (list_any-lines_of (is_like (lines_of (report_of c.args.report.now) c.args.self.now) c.args.place c.args.model.now) (report_of c.args.report.now) c.args.self.now);
}

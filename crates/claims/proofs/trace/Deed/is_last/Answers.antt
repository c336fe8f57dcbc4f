use Rattle.std.proofs.Common.{◌∙◌, sym, ap}
use Rattle.std.specs.Prelude.{not}
use Rattle.mote_net.specs.Report.{report_of}
use Rattle.claims.specs.Values.{is_earlier}
use Rattle.claims.proofs.DeedLaws.{list_any-lines_of}
use Rattle.claims.proofs.trace.Deed.is_last.Goals as goal

pub returns : goal.returns
returns c = record {
  value =
      ap not
      (c.has_later_somewhere.ensures.value
      ∙ sym (list_any-lines_of (is_earlier c.args.line.now) (report_of c.args.report.now) c.args.self.now));
}

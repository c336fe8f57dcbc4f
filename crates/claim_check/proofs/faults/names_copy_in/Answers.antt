use Rattle.std.proofs.Common.{◌∙◌, List, ap}
use Rattle.std.specs.List.{list_any}
use Rattle.mote_net.specs.Report.{line_model}
use Rattle.mote_net.specs.declared.report.LogLine.{LogLine}
use Rattle.claim_check.specs.Faults.{names_copy_of}
use Rattle.fault_keys.proofs.Lists.{any_map}
use Rattle.claim_check.proofs.faults.names_copy_in.Goals as goal

pub returns : goal.returns
returns c = record {
  value = c.names_copy_among.ensures.value
      ∙ (ap (λ (lines : List LogLine). list_any (λ line. names_copy_of c.args.fault (line_model line)) lines) c.deref.ensures.value
      ∙ any_map (names_copy_of c.args.fault) line_model c.args.report.now.medium.items);
}

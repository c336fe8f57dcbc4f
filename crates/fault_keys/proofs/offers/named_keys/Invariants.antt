use Rattle.std.proofs.Common.{◌≡◌, ◌++◌, map, take}
use Rattle.std.specs.List.{flat_map}
use Rattle.mote_net.specs.Report.{line_model, report_of}
use Rattle.fault_keys.specs.Keys.{fixed_keys, keys_of_packet}
use Rattle.fault_keys.proofs.offers.named_keys.Given as goal

abbrev pub invariant-loop-line : goal.invariant-loop-line
invariant-loop-line l = l.keys.items ≡ fixed_keys l.candidates.fixed.items (report_of l.report) ++ flat_map (keys_of_packet l.candidates.fixed.items l.candidates.copies.items) (map line_model (take l.line-index l.report.medium.items))

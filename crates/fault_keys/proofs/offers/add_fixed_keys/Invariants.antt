use Rattle.std.proofs.Common.{◌≡◌, ◌++◌, slice_index_or}
use Rattle.std.specs.List.{filter, range_with_len}
use Rattle.radio_faults.specs.declared.fault.Fault.TheVariants.{Silent}
use Rattle.mote_net.specs.Report.{report_of}
use Rattle.serial_run.specs.FaultLaws.{may_change}
use Rattle.fault_keys.proofs.offers.add_fixed_keys.Given as goal

abbrev pub invariant-loop-key : goal.invariant-loop-key
invariant-loop-key l = l.keys.items ≡ l.fn.keys.items ++ filter (λ k. may_change (slice_index_or l.candidates.fixed.items k (Silent 0)) (report_of l.report)) (range_with_len 0 l.key)

use Rattle.std.proofs.Common.{◌≡◌, ◌++◌, drop, string_bytes}
use Rattle.std.specs.List.{flat_map}
use Rattle.mote_net.specs.Report.{report_of}
use Rattle.claim_check.specs.Faults.{unused_line, unused_text}
use Rattle.claim_check.proofs.faults.unused_in.Given as goal

-- the text, followed by the lines of what is left, is the final text
abbrev pub invariant-loop-fault : goal.invariant-loop-fault
invariant-loop-fault l =
    string_bytes l.text ++ flat_map (unused_line (report_of l.report)) (drop l.fault-index l.faults) ≡ unused_text l.faults (report_of l.report)

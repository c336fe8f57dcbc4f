use Rattle.std.proofs.Common.{◌≡◌, ◌+◌, drop}
use Rattle.mote_net.specs.Meaning.{net_of}
use Rattle.claim_check.specs.Faults.{first_missing, missing_from}
use Rattle.claim_check.proofs.faults.first_missing.Given as goal

abbrev pub invariant-loop-place : goal.invariant-loop-place
invariant-loop-place l = first_missing (net_of l.net) l.faults ≡ missing_from (net_of l.net) (l.place + 1) (drop l.place l.faults)

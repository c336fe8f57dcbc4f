use Rattle.std.proofs.Common.{◌≡◌, true, take}
use Rattle.std.specs.List.{list_all}
use Rattle.mote_net.specs.Report.{report_of}
use Rattle.claims.specs.Claims.{test_holds}
use Rattle.claims.proofs.witness.broken_test.Given as goal

-- all tests so far hold
abbrev pub invariant-loop-place : goal.invariant-loop-place
invariant-loop-place l = list_all (λ t. test_holds t (report_of l.report)) (take l.place l.test-items) ≡ true

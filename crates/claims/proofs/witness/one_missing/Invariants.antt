use Rattle.std.proofs.Common.{◌≡◌, true, take}
use Rattle.std.specs.List.{list_all}
use Rattle.mote_net.specs.Report.{report_of}
use Rattle.claims.specs.Claims.{case_holds}
use Rattle.claims.proofs.witness.one_missing.Given as goal

-- all cases so far hold
abbrev pub invariant-loop-place : goal.invariant-loop-place
invariant-loop-place l = list_all (λ k. case_holds k (report_of l.report)) (take l.place l.case-items) ≡ true

use Rattle.std.proofs.Common.{◌≡◌, ◌+◌, take, count_by}
use Rattle.mote_net.specs.Report.{report_of}
use Rattle.claims.specs.Claims.{case_holds}
use Rattle.claims.proofs.witness.spare_case.Given as goal

-- so many of the cases so far hold, and so many more may
abbrev pub invariant-loop-place : goal.invariant-loop-place
invariant-loop-place l = count_by (λ k. case_holds k (report_of l.report)) (take l.place l.case-items) + l.left ≡ l.most

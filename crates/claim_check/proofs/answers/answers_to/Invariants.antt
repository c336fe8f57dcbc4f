use Rattle.std.proofs.Common.{◌≡◌, take, string_bytes}
use Rattle.std.specs.List.{list_all}
use Rattle.mote_net.specs.Report.{report_of}
use Rattle.claims.specs.Claims.{holds_in}
use Rattle.claim_check.specs.Check.{AreAnswers}
use Rattle.claim_check.proofs.answers.answers_to.Given as goal

abbrev pub invariant-loop-claim : goal.invariant-loop-claim
invariant-loop-claim l =
    let seen = take l.claim-index l.claims in
    AreAnswers l.names (report_of l.report) seen (string_bytes l.text) × (l.all_hold ≡ list_all (λ c. holds_in c (report_of l.report)) seen)

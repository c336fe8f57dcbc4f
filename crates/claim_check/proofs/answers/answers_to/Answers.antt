use Rattle.std.proofs.Common.{◌≡◌, ◌+◌, ◌++◌, ◌∷◌, [], ◌&&◌, rules, take, string_bytes, ap, sym, subst, ◌∙◌}
use Rattle.std.specs.List.{list_all}
use Rattle.std.proofs.lemmas.List.{take_more}
use Rattle.mote_net.specs.Report.{report_of}
use Rattle.claims.specs.Claims.{holds_in}
use Rattle.claim_check.specs.Check.{AreAnswers}
use Rattle.claim_check.proofs.Answered.{one_more, verdict_more}
use Rattle.claim_check.proofs.answers.answers_to.Goals as goal
use Rattle.claim_check.proofs.answers.answers_to.Goals.{then-all_hold, else-all_hold}

pub loop-claim-preserved : goal.loop-claim-preserved
loop-claim-preserved c =
    let names = c.args.names.now in
    let r = report_of c.args.report.now in
    let claims = c.args.claims.now in
    let claim = c.claim-item.result in
    let i = c.loop-claim.claim-index in
    let one = c.in_ok-one.ensures.answers_one in
    let more : take (i + 1) claims ≡ take i claims ++ claim ∷ [] = take_more claims i claim c.loop-claim-test.true ∙ ap (λ k. take i claims ++ k ∷ []) (sym c.claim-item.is) in
    let written : string_bytes c.push_str.new.self ≡ string_bytes c.loop-claim.text ++ string_bytes c.in_ok-one.one.text = search rules in
    let held : c.if-all_hold.all_hold ≡ (c.loop-claim.all_hold && c.in_ok-one.one.all_hold) =
    elim c.if-all_hold.branch [
      | then-all_hold w ↦ w.all_hold-is ∙ sym (ap (λ b. b && c.in_ok-one.one.all_hold) w.if-all_hold.true)
      | else-all_hold w ↦ w.all_hold-is ∙ (w.if-all_hold.false ∙ sym (ap (λ b. b && c.in_ok-one.one.all_hold) w.if-all_hold.false))
    ] in (
      subst (λ cs. AreAnswers names r cs (string_bytes c.push_str.new.self)) (sym more)
          (subst (AreAnswers names r (take i claims ++ claim ∷ [])) (sym written) (one_more names r (take i claims) _ claim _ c.loop-claim.invariant.0 one.0)),
      held ∙ (verdict_more r (take i claims) claim _ _ c.loop-claim.invariant.1 one.1 ∙ ap (list_all (λ k. holds_in k r)) (sym more)),
    )

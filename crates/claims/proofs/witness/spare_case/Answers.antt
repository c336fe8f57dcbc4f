use Rattle.std.proofs.Common.{◌≡◌, ◌∙◌, ap, sym, arith, Some, take, count_by}
use Rattle.mote_net.specs.Report.{report_of}
use Rattle.claims.specs.Claims.{case_holds}
use Rattle.claims.proofs.WitnessLaws.{item_there}
use Rattle.claims.proofs.witness.spare_case.Goals as goal

pub returns-then-left-eq0-clause-shows : goal.returns-then-left-eq0-clause-shows
returns-then-left-eq0-clause-shows c =
    let r = report_of c.args.report.now in
    let us = c.deref-case-items.result.now in
    let place = c.loop-place.place in
    let case = c.case-item.result in
    let before : c.args.most ≡ count_by (λ k. case_holds k r) (take place us) = omega (arith, c.loop-place.invariant) in (
      c.requires.enough,
      record {
        case = case;
        there = item_there c.args.claim.now.cases.items us place case c.deref-case-items.ensures.value c.loop-place-test.true c.case-item.is;
        before = c.requires.most ∙ ap Some (before ∙ ap (λ l. count_by (λ k. case_holds k r) (take place l)) c.deref-case-items.ensures.value);
        holds = sym c.holds.ensures.value ∙ c.if-holds.true;
        line = c.shown_in.ensures.value;
      },
    )

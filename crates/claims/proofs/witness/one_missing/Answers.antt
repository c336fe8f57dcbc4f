use Rattle.std.proofs.Common.{◌≡◌, ◌∙◌, subst, arith, true, List, take}
use Rattle.std.specs.Prelude.{IfSome}
use Rattle.std.specs.List.{list_all}
use Rattle.std.proofs.lemmas.List.{take_all}
use Rattle.mote_net.specs.Report.{report_of}
use Rattle.claims.specs.declared.claim.Case.{Case}
use Rattle.claims.specs.Claims.{case_holds}
use Rattle.claims.specs.Shows.{ShowsTest}
use Rattle.claims.proofs.WitnessLaws.{item_there, count_all}
use Rattle.claims.proofs.witness.one_missing.Goals as goal

pub returns-in-Some : goal.returns-in-Some
returns-in-Some c =
    let r = report_of c.args.report.now in
    let case = c.case-item.result in
    record {
      shows = (
        c.requires.too_few,
        record {
          case = case;
          there = item_there c.args.claim.now.cases.items c.deref-case-items.result.now c.loop-place.place case c.deref-case-items.ensures.value c.loop-place-test.true c.case-item.is;
          before = subst (λ (l : List Case). list_all (λ k. case_holds k r) (take c.loop-place.place l) ≡ true) c.deref-case-items.ensures.value c.loop-place.invariant;
          shown = subst (λ o. IfSome o (ShowsTest case r)) c.in-Some.is c.in_ok-found.ensures.shows;
        },
      );
    }

pub returns : goal.returns
returns c =
    let r = report_of c.args.report.now in
    let cases = c.args.claim.now.cases.items in
    let all : list_all (λ k. case_holds k r) cases ≡ true =
    subst (λ (l : List Case). list_all (λ k. case_holds k r) l ≡ true)
    (take_all c.loop-place.place c.deref-case-items.result.now c.loop-place-test.false ∙ c.deref-case-items.ensures.value) c.loop-place.invariant in
    record { shows = (all, omega (arith, count_all (λ k. case_holds k r) cases all, c.requires.too_few)) }

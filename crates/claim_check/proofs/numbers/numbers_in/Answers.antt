use Rattle.std.proofs.Common.{◌∙◌, ◌++◌, ◌∷◌, [], ap, inr}
use Rattle.std.proofs.lemmas.List.{take_more}
use Rattle.claim_check.proofs.WordFacts.{are_more, not_numbers, numbers_more}
use Rattle.claim_check.proofs.numbers.numbers_in.Goals as goal

pub returns-in-Err : goal.returns-in-Err
returns-in-Err c =
    let xs = c.args.texts.now in
    let i = c.loop-text.text-index in
    record { numbers = inr (not_numbers xs i _ (take_more xs i _ c.loop-text-test.true) c.in-Err.ensures.value.0, c.new.ensures.items) }

pub loop-text-preserved : goal.loop-text-preserved
loop-text-preserved c =
    let xs = c.args.texts.now in
    let i = c.loop-text.text-index in
    let more = take_more xs i _ c.loop-text-test.true in
    let parsed = c.in-Ok.ensures.value.0 in (
      are_more xs i _ more c.loop-text.invariant.0 parsed.0,
      c.in_ok-push-in-Ok.ensures.items ∙ (ap (λ d. c.loop-text.numbers.items ++ d ∷ []) parsed.1 ∙ numbers_more xs i _ more c.loop-text.numbers.items c.loop-text.invariant.1),
    )

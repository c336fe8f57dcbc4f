use Rattle.std.proofs.Common.{◌≡◌, List, take, true, refl, subst, arith}
use Rattle.std.proofs.lemmas.List.{take_all}
use Rattle.survey.specs.declared.broken.Broken.{Broken}
use Rattle.survey.specs.Breaks.{breaks_of}
use Rattle.survey.specs.Turns.{HasSmallerBreak}
use Rattle.survey.proofs.Kept.{no_smaller_more, smaller_at}
use Rattle.survey.proofs.record.has_smaller_break.Goals as goal

pub returns-then-breaks_smaller : goal.returns-then-breaks_smaller
returns-then-breaks_smaller c = record {
  has_smaller =
      (λ _. smaller_at c.args.found.now c.loop-known.known-index c.known-item.result c.args.set.now c.args.claim (omega arith) c.known-item.is (c.breaks_smaller.ensures.covers.0 c.if-breaks_smaller.true), λ _. refl);
}

pub loop-known-preserved : goal.loop-known-preserved
loop-known-preserved c =
    no_smaller_more c.args.found.now c.loop-known.known-index c.known-item.result c.args.set.now c.args.claim (omega arith) c.known-item.is c.loop-known.invariant
    (λ at. let holds : c.breaks_smaller.result ≡ true = c.breaks_smaller.ensures.covers.1 at in let fails = c.if-breaks_smaller.false in cc)

pub returns : goal.returns
returns c = record {
  has_smaller =
      let whole : take c.loop-known.known-index c.args.found.now ≡ c.args.found.now = take_all c.loop-known.known-index c.args.found.now (omega arith) in
      let P : List Broken → Type 0 = λ t. HasSmallerBreak (breaks_of t) c.args.set.now c.args.claim → ⊥ in
      let none = subst P whole c.loop-known.invariant in
      (λ e. cc, λ has. absurd (none has));
}

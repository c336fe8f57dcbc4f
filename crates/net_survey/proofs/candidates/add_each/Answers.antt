use Rattle.std.proofs.Common.{◌≡◌, ◌∙◌, ◌++◌, ◌∷◌, [], map, subst, ap, length, arith}
use Rattle.std.specs.List.{range_with_len}
use Rattle.net_survey.specs.Candidates.{fault_of_mote}
use Rattle.net_survey.proofs.OneMore.{mote_more}
use Rattle.net_survey.proofs.candidates.add_each.Goals as goal

pub loop-mote-preserved : goal.loop-mote-preserved
loop-mote-preserved c =
    mote_more c.args.all.now.items c.loop-mote.all.items _ c.loop-mote.mote (fault_of_mote c.args.fault) c.loop-mote.invariant
    (c.in_ok-push.ensures.items ∙ ap (λ f. c.loop-mote.all.items ++ f ∷ []) c.of.ensures.value)

pub returns : goal.returns
returns c =
    let all : c.loop-mote.mote ≡ length c.args.medium.now.places = omega (arith, c.requires.motes, c.loop-mote-test.false, c.loop-mote.auto.mote-end) in
    record { appended = subst (λ k. c.loop-mote.all.items ≡ c.args.all.now.items ++ map (fault_of_mote c.args.fault) (range_with_len 0 k)) all c.loop-mote.invariant }

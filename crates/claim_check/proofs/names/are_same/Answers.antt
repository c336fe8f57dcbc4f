use Rattle.std.proofs.Common.{◌≡◌, rules, sym, ◌∙◌}
use Rattle.claim_check.proofs.SharedNames.{same_more}
use Rattle.claim_check.proofs.names.are_same.Goals as goal

pub loop-place-preserved : goal.loop-place-preserved
loop-place-preserved c =
    let same : c.get.result.now ≡ c.get-in-loop-place.result.now = search rules in
    same_more c.args.one.now c.args.other.now c.loop-place.place (search rules) (search rules) c.loop-place.invariant
    (sym c.get.ensures.name ∙ (same ∙ c.get-in-loop-place.ensures.name))

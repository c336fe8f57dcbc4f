use Rattle.std.proofs.Common.{◌≡◌, ◌++◌, ◌∷◌, [], ◌∙◌, ap, if◌then◌else◌, map, subst, length, arith}
use Rattle.std.specs.List.{filter, range_with_len}
use Rattle.radio_faults.specs.declared.fault.Fault.TheVariants.{Link}
use Rattle.radio_medium.specs.Medium.{hears}
use Rattle.net_survey.proofs.OneMore.{one_more}
use Rattle.net_survey.proofs.candidates.add_links_from.Goals as goal

pub loop-to-preserved : goal.loop-to-preserved
loop-to-preserved c =
    let fault = Link c.args.sender c.loop-to.to in
    let added = ap (λ b. c.loop-to.all.items ++ (if b then fault ∷ [] else [])) c.hears-is_there.ensures.value in
    one_more c.args.all.now.items c.loop-to.all.items c.add_if.new.all.items c.loop-to.to (Link c.args.sender) (λ r. hears c.args.medium.now r c.args.sender) c.loop-to.invariant
    (c.in_ok-add_if.ensures.appended ∙ added)

pub returns : goal.returns
returns c =
    let all : c.loop-to.to ≡ length c.args.medium.now.places = omega (arith, c.requires.motes, c.loop-to-test.false, c.loop-to.auto.to-end) in
    record { appended = subst (λ k. c.loop-to.all.items ≡ c.args.all.now.items ++ map (Link c.args.sender) (filter (λ r. hears c.args.medium.now r c.args.sender) (range_with_len 0 k))) all c.loop-to.invariant }

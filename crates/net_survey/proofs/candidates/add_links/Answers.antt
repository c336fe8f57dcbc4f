use Rattle.std.proofs.Common.{◌≡◌, ◌++◌, subst, length, arith}
use Rattle.std.specs.List.{flat_map, range_with_len}
use Rattle.net_survey.specs.Candidates.{links_from}
use Rattle.net_survey.proofs.OneMore.{more_from}
use Rattle.net_survey.proofs.candidates.add_links.Goals as goal

pub loop-sender-preserved : goal.loop-sender-preserved
loop-sender-preserved c =
    more_from c.args.all.now.items c.loop-sender.all.items c.add_links_from.new.all.items c.loop-sender.sender (links_from c.args.medium.now) c.loop-sender.invariant c.in_ok-add_links_from.ensures.appended

pub returns : goal.returns
returns c =
    let all : c.loop-sender.sender ≡ length c.args.medium.now.places = omega (arith, c.requires.motes, c.loop-sender-test.false, c.loop-sender.auto.sender-end) in
    record { appended = subst (λ k. c.loop-sender.all.items ≡ c.args.all.now.items ++ flat_map (links_from c.args.medium.now) (range_with_len 0 k)) all c.loop-sender.invariant }

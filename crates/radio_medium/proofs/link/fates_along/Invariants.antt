use Rattle.std.proofs.Common.{◌≡◌, map, take}
use Rattle.radio_medium.specs.Links.{fate_by}
use Rattle.radio_medium.proofs.link.fates_along.Given as goal

abbrev pub invariant-loop-link : goal.invariant-loop-link
invariant-loop-link l = l.fates.items ≡ map (fate_by l.sent) (take l.link-index l.links)

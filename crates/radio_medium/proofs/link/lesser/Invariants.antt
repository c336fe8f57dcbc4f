use Rattle.std.proofs.Common.{◌≡◌, map, take}
use Rattle.std.specs.List.{fold}
use Rattle.radio_medium.specs.declared.link.Link.{Link}
use Rattle.radio_medium.specs.Links.{with_least}
use Rattle.radio_medium.proofs.link.lesser.Given as goal

-- the least delay so far
abbrev pub invariant-loop-link : goal.invariant-loop-link
invariant-loop-link l = l.least ≡ fold with_least l.fn.least (map (λ (link : Link). link.delay) (take l.link-index l.links))

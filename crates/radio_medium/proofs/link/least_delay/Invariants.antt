use Rattle.std.proofs.Common.{◌≡◌, map, take, None}
use Rattle.std.specs.List.{fold, flat_map}
use Rattle.radio_medium.specs.declared.link.Link.{Link}
use Rattle.radio_medium.specs.Links.{with_least}
use Rattle.radio_medium.proofs.link.least_delay.Given as goal

-- the least delay so far
abbrev pub invariant-loop-links : goal.invariant-loop-links
invariant-loop-links l = l.least ≡ fold with_least None (flat_map (λ links. map (λ (link : Link). link.delay) links) (map (λ links. links.items) (take l.links-index l.all)))

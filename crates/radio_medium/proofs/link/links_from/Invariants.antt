use Rattle.std.proofs.Common.{◌≡◌, ◌*◌, [], length, min}
use Rattle.radio_medium.specs.Links.{radio_from, every_at, links_below}
use Rattle.radio_medium.proofs.link.links_from.Given as goal

-- the links to those of the groups so far that hear the sender
abbrev pub invariant-loop-index : goal.invariant-loop-index
invariant-loop-index l =
    l.links.items ≡ links_below (radio_from l.places l.reach []) (every_at l.every) l.sender (min (length l.places) (l.index * 32))

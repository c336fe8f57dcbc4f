use Rattle.std.proofs.Common.{◌≡◌, []}
use Rattle.radio_medium.specs.Links.{radio_from, every_at, links_below}
use Rattle.radio_medium.proofs.link.put_links.Given as goal

-- the links to those of the motes so far that hear the sender
abbrev pub invariant-loop-to : goal.invariant-loop-to
invariant-loop-to l =
    l.links.items ≡ links_below (radio_from l.places l.reach []) (every_at l.every) l.sender l.to

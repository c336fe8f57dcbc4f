use Rattle.std.proofs.Common.{◌≡◌, map, []}
use Rattle.std.specs.List.{range_with_len}
use Rattle.radio_medium.specs.Links.{radio_from, every_at, links_of}
use Rattle.radio_medium.proofs.link.all_links.Given as goal

abbrev pub invariant-loop-sender : goal.invariant-loop-sender
invariant-loop-sender l = map (λ links. links.items) l.all.items ≡ map (links_of (radio_from l.places l.reach []) (every_at l.every)) (range_with_len 0 l.sender)

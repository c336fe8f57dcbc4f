use Rattle.std.proofs.Common.{◌≡◌, map, take}
use Rattle.std.specs.List.{filter_map}
use Rattle.radio_medium.specs.Medium.{copy_of}
use Rattle.radio_medium.specs.Links.{fate_by}
use Rattle.radio_medium.proofs.link.copies_along.Given as goal

abbrev pub invariant-loop-link : goal.invariant-loop-link
invariant-loop-link l = l.copies.items ≡ filter_map (copy_of l.sent) (map (fate_by l.sent) (take l.link-index l.links))

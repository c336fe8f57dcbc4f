use Rattle.std.proofs.Common.{◌≡◌, ◌++◌}
use Rattle.std.specs.List.{flat_map, range_with_len}
use Rattle.net_survey.specs.Candidates.{links_from}
use Rattle.net_survey.proofs.candidates.add_links.Given as goal

abbrev pub invariant-loop-sender : goal.invariant-loop-sender
invariant-loop-sender l = l.all.items ≡ l.fn.all.items ++ flat_map (links_from l.medium) (range_with_len 0 l.sender)

use Rattle.std.proofs.Common.{◌≡◌, ◌++◌, map}
use Rattle.std.specs.List.{filter, range_with_len}
use Rattle.radio_faults.specs.declared.fault.Fault.TheVariants.{Link}
use Rattle.radio_medium.specs.Medium.{hears}
use Rattle.net_survey.proofs.candidates.add_links_from.Given as goal

abbrev pub invariant-loop-to : goal.invariant-loop-to
invariant-loop-to l = l.all.items ≡ l.fn.all.items ++ map (Link l.sender) (filter (λ r. hears l.medium r l.sender) (range_with_len 0 l.to))

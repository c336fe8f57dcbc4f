use Rattle.std.proofs.Common.{◌≡◌, ◌++◌, drop, map}
use Rattle.claim_text.specs.EntryView.{view_of}
use Rattle.claim_text.specs.ClaimText.{entry_of}
use Rattle.claim_text.proofs.claim.entries_of.Given as goal

abbrev pub invariant-loop-case : goal.invariant-loop-case
invariant-loop-case l =
    map view_of l.entries.items ++ map (entry_of l.names) (drop l.case-index l.cases) ≡ map (entry_of l.names) l.cases

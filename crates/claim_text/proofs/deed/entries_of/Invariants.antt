use Rattle.std.proofs.Common.{◌≡◌, ◌++◌, drop, map}
use Rattle.claim_text.specs.EntryView.{view_of}
use Rattle.claim_text.specs.DeedText.{entry_of}
use Rattle.claim_text.proofs.deed.entries_of.Given as goal

abbrev pub invariant-loop-watch : goal.invariant-loop-watch
invariant-loop-watch l =
    map view_of l.entries.items ++ map entry_of (drop l.watch-index l.watches) ≡ map entry_of l.watches

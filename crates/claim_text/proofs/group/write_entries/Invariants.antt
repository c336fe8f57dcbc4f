use Rattle.std.proofs.Common.{◌≡◌, ◌++◌, None, length, map, string_bytes}
use Rattle.claim_text.specs.EntryView.{view_of}
use Rattle.claim_text.specs.Groups.{entries_text}
use Rattle.claim_text.proofs.group.write_entries.Given as goal

-- the text, followed by the text of what is left, is the final text
abbrev pub invariant-loop-entries : goal.invariant-loop-entries
invariant-loop-entries l =
    string_bytes l.text ++ entries_text l.frame.between.now l.frame.together.now l.before (map view_of l.entries)
    ≡ entries_text l.frame.between.now l.frame.together.now None (map view_of l.initial.entries)

abbrev pub decreases-loop-entries : goal.decreases-loop-entries
decreases-loop-entries l = length l.entries

use Rattle.std.proofs.Common.{◌≡◌, ◌+◌, ◌≤◌, None, length, map}
use Rattle.claim_text.specs.EntryView.{view_of}
use Rattle.claim_text.specs.Groups.{groups_in}
use Rattle.claim_text.proofs.group.groups_in.Given as goal

abbrev pub invariant-loop-entries : goal.invariant-loop-entries
invariant-loop-entries l = record {
  counted : l.count + groups_in l.before (map view_of l.entries) ≡ groups_in None (map view_of l.initial.entries);
  within : l.count + length l.entries ≤ length l.initial.entries;
}

abbrev pub decreases-loop-entries : goal.decreases-loop-entries
decreases-loop-entries l = length l.entries

use Rattle.std.proofs.Common.{◌≡◌, ℕ, ◌+◌, ◌*◌, ◌<◌, min, length, slice_index_or}
use Rattle.radio_medium.specs.declared.groups.Group.{Group}
use Rattle.radio_medium.specs.Groups.{HoldsMotes}
use Rattle.radio_medium.proofs.groups.groups_of.Given as goal

-- the groups of the motes so far
abbrev pub invariant-loop-index : goal.invariant-loop-index
invariant-loop-index l = record {
  count : length l.groups.items ≡ l.index;
  hold : (i : ℕ) (none : Group) → i < l.index
      → HoldsMotes l.places (i * 32) (min (length l.places) (i * 32 + 32)) (slice_index_or l.groups.items i none);
}

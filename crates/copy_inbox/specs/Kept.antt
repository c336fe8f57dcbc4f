-- The counts that a taker keeps for its senders. The senders before `first` were gathered, and have no count any more.
use Rattle.std.specs.Prelude.{◌≡◌, ℕ, ◌+◌, ◌-◌, ◌^◌, ◌<◌, ◌≤◌, ◌⊎◌, Bool, true, List, length, drop, slice_index_or}
use Rattle.std.specs.Prelude.{slice_set}
use Rattle.copy_inbox.specs.declared.count.Count.{Count}
use Rattle.copy_inbox.specs.declared.rule.View.{View}
use Rattle.copy_inbox.specs.Gathered.{is_gathered}
use Rattle.copy_inbox.specs.Handles.{taker_state_in, IsTaker}

-- the counts of the senders from `first` on are kept; the senders before `first` were gathered
pub record KeepsSenderCounts (v : View) (first : ℕ) (kept : List Count) (known : ℕ) : Type 0 where
  pub counts : List Count
  pub taker : IsTaker v counts known
  pub rest : kept ≡ drop first counts
  pub made : first + length kept ≡ length counts
  pub few : first ≤ 2 ^ 62
  pub gathered : (s : ℕ) → s < first → is_gathered (taker_state_in v).gathered s ≡ true

-- one more item from the sender can be counted, unless the sender's count was dropped
abbrev pub CanCount : (first sender : ℕ) → List Count → Type 0
CanCount first sender counts = first ≤ sender → (c : Count)
    → (slice_index_or counts (sender - first) c).taken + 1 < 2 ^ 64

-- one more item from the sender was taken; it is counted unless the sender's count was dropped; `gathered` says
-- whether the sender was gathered
pub record CountsTaken (first sender : ℕ) (old new : List Count) (gathered : Bool) : Type 0 where
  pub forgotten : sender < first → (new ≡ old) × (gathered ≡ true)
  pub counted : first ≤ sender → (c : Count) × (c ≡ slice_index_or old (sender - first) c)
      × (new ≡ slice_set old (sender - first) (record { taken = c.taken + 1; gathered = c.gathered }))
      × (gathered ≡ c.gathered)

-- the first count, if its sender was gathered, is dropped; or nothing changes
abbrev pub Forgets : (first : ℕ) → List Count → (first_new : ℕ) → List Count → Type 0
Forgets first old first_new new = ((first_new ≡ first) × (new ≡ old))
    ⊎ ((first_new ≡ first + 1) × (first < 2 ^ 62) × (0 < length old) × (new ≡ drop 1 old)
    × ((c : Count) → (slice_index_or old 0 c).gathered ≡ true))

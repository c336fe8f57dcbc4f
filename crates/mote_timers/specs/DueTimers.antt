-- The due timers on a timer list, and the properties of every `Timers`.
use Rattle.std.specs.Prelude.{◌≡◌, ℕ, ◌≤◌, ◌^◌, ◌==◌, List, All, length, find, Option, Some, None, IsSome}
use Rattle.std.specs.List.{after_first}
use Rattle.mote_timers.specs.declared.timer.Timer.{Timer}
use Rattle.mote_timers.specs.Numbers.{Numbers}
use Rattle.mote_timers.specs.Timer.{is_due}
use Rattle.mote_timers.specs.TimerLists.{TimerLists, timer_at}

-- the properties of every `Timers`: the list has room for each timer, each timer on it has an owner, and no start is
-- above its limit
pub record AreTimers (ts : List Timer) (listed : Numbers) : Type 0 where
  pub room : length ts ≡ listed.limit
  pub owned : All (λ id. IsSome (timer_at ts id).owner) listed.members
  pub bounded : All (λ (t : Timer). t.start ≤ 2 ^ 62) ts

-- the members after the given one, or the whole list if none is given
abbrev pub members_after : Option ℕ → List ℕ → List ℕ
members_after None ids = ids
members_after (Some id) ids = after_first (λ other. other == id) ids

-- the first due timer on the list after the given one, or on the whole list if none is given
unfoldable pub first_due : TimerLists → ℕ → Option ℕ → Option ℕ
first_due s now after = find (λ id. is_due now (timer_at s.timers id)) (members_after after s.listed)

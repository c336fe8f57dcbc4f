-- The timers and the timer list of a mote, and the effect of each call on them.
use Rattle.std.specs.Prelude.{ℕ, ◌^◌, min, not, List, [], ◌∷◌, map, filter, replicate, slice_index_or, slice_set}
use Rattle.std.specs.Prelude.{Option, Some, None}
use Rattle.std.specs.Option.{option_map_or}
use Rattle.program_tree.specs.declared.event.Proc.{Proc}
use Rattle.mote_timers.specs.declared.timer.Timer.{Timer}
use Rattle.mote_timers.specs.Numbers.{with_member, without_member}
use Rattle.mote_timers.specs.Timer.{unset, expiration, is_owned_by}

-- the timers by number, and the numbers of the timers on the timer list, the front first
pub record TimerLists : Type 0 where
  pub timers : List Timer
  pub listed : List ℕ

-- the timer with this number, or a timer that was never set if there is no such timer
abbrev pub timer_at : List Timer → ℕ → Timer
timer_at ts id = slice_index_or ts id unset

-- this many timers that were never set, and an empty list
unfoldable pub new_timers : ℕ → TimerLists
new_timers n = record { timers = replicate n unset; listed = [] }

-- the timer with this number is replaced by the given timer, and is on the list
abbrev pub with_timer : TimerLists → ℕ → Timer → TimerLists
with_timer s id t = record { timers = slice_set s.timers id t; listed = with_member id s.listed }

-- the timer starts now, with this interval and this owner, and is on the list
unfoldable pub set_timer : TimerLists → ℕ → Proc → ℕ → ℕ → TimerLists
set_timer s id owner interval now = with_timer s id (record { start = now; interval = interval; owner = Some owner })

-- the timer starts at its expiration, but at 2 to the power of 62 at the latest; it gets this owner, and is on the list
unfoldable pub reset_timer : TimerLists → ℕ → Proc → TimerLists
reset_timer s id owner = with_timer s id
    (record { start = min (expiration t) (2 ^ 62); interval = t.interval; owner = Some owner })
  where
    t : Timer
    t = timer_at s.timers id

-- the timer starts now, with the interval that it has; it gets this owner, and is on the list
unfoldable pub restart_timer : TimerLists → ℕ → Proc → ℕ → TimerLists
restart_timer s id owner now =
    with_timer s id (record { start = now; interval = (timer_at s.timers id).interval; owner = Some owner })

-- the timer is off the list, and has no owner
unfoldable pub stop_timer : TimerLists → ℕ → TimerLists
stop_timer s id = record {
  timers = slice_set s.timers id (record (timer_at s.timers id) { owner = None });
  listed = without_member id s.listed;
}

-- the timers of the process are off the list, and keep their owner
unfoldable pub purge_timers : TimerLists → Proc → TimerLists
purge_timers s p = record {
  timers = s.timers;
  listed = filter (λ id. not (is_owned_by p (timer_at s.timers id))) s.listed;
}

-- the least number of a list
abbrev pub least : List ℕ → Option ℕ
least [] = None
least (x ∷ xs) = Some (option_map_or (min x) (least xs) x)

-- the earliest expiration of the timers on the list
unfoldable pub next_expiration_of : TimerLists → Option ℕ
next_expiration_of s = least (map (λ id. expiration (timer_at s.timers id)) s.listed)

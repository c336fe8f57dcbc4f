-- Calls of the functions of a `Timers`, one after another.
use Rattle.std.specs.Prelude.{◌≡◌, ℕ, ◌+◌, ◌≤◌, ◌<◌, ◌↔◌, nat_eq, List, [], ◌∷◌, length, Some, None, IsTrue, IsSome}
use Rattle.std.specs.Prelude.{IsSomeAnd}
use Rattle.std.specs.List.{IsDistinct}
use Rattle.program_tree.specs.declared.event.Proc.{Proc}
use Rattle.mote_timers.specs.Numbers.{is_member}
use Rattle.mote_timers.specs.Timer.{expiration}
use Rattle.mote_timers.specs.TimerLists.{TimerLists, timer_at, new_timers, set_timer, reset_timer, restart_timer}
use Rattle.mote_timers.specs.TimerLists.{stop_timer, purge_timers, next_expiration_of}
use Rattle.mote_timers.specs.DueTimers.{first_due}

-- a call that may change the timers, with its arguments
pub data TimerCall : Type 0 where
  Set : (id : ℕ) (owner : Proc) (interval now : ℕ) → TimerCall
  Reset : (id : ℕ) (owner : Proc) → TimerCall
  Restart : (id : ℕ) (owner : Proc) (now : ℕ) → TimerCall
  Stop : (id : ℕ) → TimerCall
  Fire : (id : ℕ) → TimerCall
  Purge : (owner : Proc) → TimerCall

-- the timers after a call; `Fire` has the same effect as `Stop`
unfoldable pub timers_after_call : TimerLists → TimerCall → TimerLists
timers_after_call s (Set id owner interval now) = set_timer s id owner interval now
timers_after_call s (Reset id owner) = reset_timer s id owner
timers_after_call s (Restart id owner now) = restart_timer s id owner now
timers_after_call s (Stop id) = stop_timer s id
timers_after_call s (Fire id) = stop_timer s id
timers_after_call s (Purge owner) = purge_timers s owner

-- the timers after these calls, one after another
abbrev pub timers_after_calls : TimerLists → List TimerCall → TimerLists
timers_after_calls s [] = s
timers_after_calls s (call ∷ calls) = timers_after_calls (timers_after_call s call) calls

-- the call takes this timer off the list: it stops or fires the timer, or purges the timers of its owner
abbrev pub TakesOff : TimerLists → ℕ → TimerCall → Type 0
TakesOff s id (Stop other) = other ≡ id
TakesOff s id (Fire other) = other ≡ id
TakesOff s id (Purge owner) = (timer_at s.timers id).owner ≡ Some owner
TakesOff s id _ = ⊥

-- the call sets this timer, or sets it again
abbrev pub Starts : ℕ → TimerCall → Type 0
Starts id (Set other _ _ _) = other ≡ id
Starts id (Reset other _) = other ≡ id
Starts id (Restart other _ _) = other ≡ id
Starts id _ = ⊥

-- none of the calls takes the timer off the list
abbrev pub NoneTakesOff : TimerLists → ℕ → List TimerCall → Type 0
NoneTakesOff s id [] = Unit {0}
NoneTakesOff s id (call ∷ calls) = (TakesOff s id call → ⊥) × NoneTakesOff (timers_after_call s call) id calls

-- none of the calls sets the timer, or sets it again
abbrev pub NoneStarts : ℕ → List TimerCall → Type 0
NoneStarts id [] = Unit {0}
NoneStarts id (call ∷ calls) = (Starts id call → ⊥) × NoneStarts id calls

-- the timer is on the list, and its expiration is at this moment or earlier
abbrev pub IsDue : TimerLists → ℕ → ℕ → Type 0
IsDue s id moment = IsTrue (is_member id s.listed) × (expiration (timer_at s.timers id) ≤ moment)

-- new timers, after any calls: each timer is on the list at most once
abbrev pub ListedOnce : Type 0
ListedOnce = (n : ℕ) (calls : List TimerCall) → IsDistinct nat_eq (timers_after_calls (new_timers n) calls).listed

-- no call creates or removes a timer
abbrev pub CallsKeepTimers : Type 0
CallsKeepTimers = (s : TimerLists) (calls : List TimerCall)
    → length (timers_after_calls s calls).timers ≡ length s.timers

-- a timer that was set, and that no later call took off the list, is due from its expiration on, and not before
abbrev pub DueFromExpiration : Type 0
DueFromExpiration =
    (s : TimerLists) (id : ℕ) (owner : Proc) (interval now : ℕ) (calls : List TimerCall)
    → NoneTakesOff (set_timer s id owner interval now) id calls
    → let t : TimerLists = timers_after_calls (set_timer s id owner interval now) calls in
    (moment : ℕ) → IsDue t id moment ↔ (expiration (timer_at t.timers id) ≤ moment)

-- Suppose that a timer was set, and that no later call took it off the list or set it again. Add the moment and the
-- interval with which it was set: the timer is due from the resulting moment on, and not before.
abbrev pub DueFromSet : Type 0
DueFromSet =
    (s : TimerLists) (id : ℕ) (owner : Proc) (interval now : ℕ) (calls : List TimerCall)
    → id < length s.timers
    → NoneTakesOff (set_timer s id owner interval now) id calls
    → NoneStarts id calls
    → (moment : ℕ) → IsDue (timers_after_calls (set_timer s id owner interval now) calls) id moment ↔
    (now + interval ≤ moment)

-- the next expiration is the first moment at which a timer on the list is due
abbrev pub DueFromNextExpiration : Type 0
DueFromNextExpiration = (s : TimerLists) (moment : ℕ)
    → IsSome (first_due s moment None) ↔ IsSomeAnd (next_expiration_of s) (λ first. first ≤ moment)

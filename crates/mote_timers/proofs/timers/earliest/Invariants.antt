use Rattle.std.proofs.Common.{◌≡◌, map, take}
use Rattle.mote_timers.specs.Timer.{expiration}
use Rattle.mote_timers.specs.TimerLists.{least, timer_at}
use Rattle.mote_timers.proofs.timers.earliest.Given as goal

-- the least of the expirations seen so far
abbrev pub invariant-loop-id : goal.invariant-loop-id
invariant-loop-id l = l.earliest ≡ least (map (λ id. expiration (timer_at l.timers id)) (take l.id-index l.ids))

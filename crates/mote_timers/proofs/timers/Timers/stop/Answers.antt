use Rattle.std.proofs.Common.{◌≤◌, ◌<◌, ◌^◌, length, sym, subst, arith, ap}
use Rattle.mote_timers.specs.declared.timer.Timer.{Timer}
use Rattle.mote_timers.specs.TimerLists.{TimerLists}
use Rattle.mote_timers.proofs.ListedTimers.{AreTimers-without}
use Rattle.mote_timers.proofs.timers.Timers.stop.Goals as goal

pub invariant_of-self : goal.invariant_of-self
invariant_of-self c =
    let same = ap (λ (s : TimerLists). length s.timers) c.self.view_is in
    let within : c.from.result < length c.self.inside.timers.items = omega (arith, c.from.ensures, c.requires.is_timer) in
    let bounded = c.self.invariant.bounded c.from.result c.index_mut.result.now within in
    rw (c.remove.ensures.after, c.from.ensures) (AreTimers-without _ _ _ _ c.self.invariant (subst (λ (t : Timer). t.start ≤ 2 ^ 62) (sym c.index_mut.ensures.value) bounded))

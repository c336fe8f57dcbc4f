-- Laws of the next wake.
use Rattle.std.proofs.Common.{ℕ, ◌≡◌, ◌+◌, ◌<◌, max, Bool, true, false, Option, Some, None, option_map, refl, arith, if◌then◌else◌}
use Rattle.std.specs.Prelude.{IfSome}
use Rattle.mote_timers.specs.TimerLists.{next_expiration_of}
use Rattle.process_kernel.specs.KernelModel.{KernelModel, is_pending}
use Rattle.mote_node.specs.Turn.{wake_after, turn_of}
use Rattle.mote_node.specs.Laws.{WakesLater, WakesBy, WakesInTime}

later_choice : (pending : Bool) (moment : ℕ) (due : Option ℕ) → IfSome (if pending then Some (moment + 1) else option_map (λ d. max (moment + 1) d) due) (λ wake. moment < wake)
later_choice true moment due = omega arith
later_choice false moment None = tt
later_choice false moment (Some d) = omega arith

later_after : (moment : ℕ) (m : KernelModel) → IfSome (wake_after moment m) (λ wake. moment < wake)
unfolding wake_after
later_after moment m = later_choice (is_pending m) moment (next_expiration_of m.state.timers)

later_unless : (halted : Bool) (moment : ℕ) (wake : Option ℕ) → IfSome wake (λ w. moment < w) → IfSome (if halted then None else wake) (λ w. moment < w)
later_unless true moment wake h = tt
later_unless false moment wake h = h

pub wakes_later : WakesLater
unfolding turn_of
wakes_later moment arrivals n =
    let m = (turn_of moment arrivals n).node.mote in later_unless m.halted moment (wake_after moment m) (later_after moment m)

by_choice : (pending : Bool) (moment due : ℕ) → WakesBy (max (moment + 1) due) (if pending then Some (moment + 1) else Some (max (moment + 1) due))
by_choice true moment due = (moment + 1, refl, omega arith)
by_choice false moment due = (max (moment + 1) due, refl, omega arith)

by_after : (moment due : ℕ) (m : KernelModel) → next_expiration_of m.state.timers ≡ Some due → WakesBy (max (moment + 1) due) (wake_after moment m)
unfolding wake_after
by_after moment due m next = rw next (by_choice (is_pending m) moment due)

by_unless : (halted : Bool) (limit : ℕ) (wake : Option ℕ) → halted ≡ false → WakesBy limit wake → WakesBy limit (if halted then None else wake)
by_unless true limit wake going h = cc
by_unless false limit wake going h = h

pub wakes_in_time : WakesInTime
unfolding turn_of
wakes_in_time moment arrivals n due going next =
    let m = (turn_of moment arrivals n).node.mote in by_unless m.halted (max (moment + 1) due) (wake_after moment m) going (by_after moment due m next)

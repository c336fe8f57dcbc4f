-- A timer: the moments at which it is due, and its owner.
use Rattle.std.specs.Prelude.{ℕ, ◌+◌, nat_le, Bool, false, None}
use Rattle.std.specs.Option.{option_map_or}
use Rattle.program_tree.specs.declared.event.Proc.{Proc}
use Rattle.mote_timers.specs.declared.timer.Timer.{Timer}
use Rattle.mote_timers.specs.Processes.{is_same}

-- a timer that was never set
abbrev pub unset : Timer
unset = record { start = 0; interval = 0; owner = None }

-- the first moment at which the timer is due
abbrev pub expiration : Timer → ℕ
expiration t = t.start + t.interval

-- whether the timer is due at the moment `now`: its expiration is at this moment or earlier
abbrev pub is_due : ℕ → Timer → Bool
is_due now t = nat_le (expiration t) now

-- whether the process owns the timer
abbrev pub is_owned_by : Proc → Timer → Bool
is_owned_by p t = option_map_or (is_same p) t.owner false

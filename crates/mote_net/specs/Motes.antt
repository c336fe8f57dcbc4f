-- The properties of the motes of every net.
use Rattle.std.specs.Prelude.{ℕ, Bool, ◌&&◌, nat_lt, nat_le}
use Rattle.mote_net.specs.declared.net.MoteSetup.{MoteSetup as SetupOfCode}
use Rattle.mote_net.specs.Limits.{shortest_queue, longest_queue}

-- the mote has one of this many programs, and the length of its queue is within the limits
abbrev pub is_mote_of : (programs : ℕ) → SetupOfCode → Bool
is_mote_of programs m = nat_lt m.program programs && (nat_le shortest_queue m.queue && nat_le m.queue longest_queue)

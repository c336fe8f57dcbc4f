-- The limits of a net.
use Rattle.std.specs.Prelude.{ℕ}

abbrev pub fewest_motes : ℕ
fewest_motes = 1

abbrev pub most_motes : ℕ
most_motes = 1000

-- the greatest number that may be the last moment of a net
abbrev pub latest_end : ℕ
latest_end = 1000000

-- the least and the greatest number of events for which a mote's queue may have room
abbrev pub shortest_queue : ℕ
shortest_queue = 1

abbrev pub longest_queue : ℕ
longest_queue = 128

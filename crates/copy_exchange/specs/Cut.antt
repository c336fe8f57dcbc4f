-- Partitions of the motes among the workers.
use Rattle.std.specs.Prelude.{ℕ, ◌*◌, ◌/◌, ◌%◌, List, map}
use Rattle.window_laws.specs.Agenda.{up_to}

-- blocks of consecutive motes
abbrev pub block_cut : (motes workers : ℕ) → List ℕ
block_cut motes workers = map (λ mote. (mote * workers) / motes) (up_to motes)

-- the motes dealt out one by one
abbrev pub stripe_cut : (motes workers : ℕ) → List ℕ
stripe_cut motes workers = map (λ mote. mote % workers) (up_to motes)

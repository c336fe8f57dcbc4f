-- The limits of a scenario.
use Rattle.std.specs.Prelude.{ℕ}

-- the number of bytes of the longest text
abbrev pub longest_text : ℕ
longest_text = 1048576

abbrev pub most_programs : ℕ
most_programs = 100

abbrev pub most_losses : ℕ
most_losses = 10000

-- the number of bytes of the longest name of a program
abbrev pub longest_name : ℕ
longest_name = 32

-- the greatest distance of a coordinate from 0, on either side
abbrev pub farthest : ℕ
farthest = 30000

abbrev pub widest_range : ℕ
widest_range = 100000

-- the largest `base` and `per`
abbrev pub largest_base_or_per : ℕ
largest_base_or_per = 1000000

-- the largest number in a loss
abbrev pub largest_in_loss : ℕ
largest_in_loss = 1000000

-- the length of a queue if the scenario doesn't name one
abbrev pub usual_queue : ℕ
usual_queue = 32

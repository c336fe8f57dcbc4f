-- The copies that cross to one worker: each copy from a mote of another worker to a mote of this worker, once.
use Rattle.std.specs.Prelude.{ℕ, Bool, not, ◌&&◌, List, IsPermutation}
use Rattle.std.specs.List.{filter, flat_map}
use Rattle.radio_packet.specs.declared.sent.Sent.{Sent}
use Rattle.radio_packet.specs.declared.copy.RadioCopy.{RadioCopy}
use Rattle.copy_exchange.specs.Crossed.{is_own}

-- the copy isn't from a mote of this worker, but is for one
abbrev pub crosses_to : (owners : List ℕ) → (worker : ℕ) → RadioCopy → Bool
crosses_to owners worker copy = not (is_own owners worker copy.sender) && is_own owners worker copy.to

-- exactly those copies of these packets that cross to this worker, each once
abbrev pub AreThoseTo : (copies : Sent → List RadioCopy) → (owners : List ℕ) → (worker : ℕ) → (log : List Sent)
    → List RadioCopy → Type 0
AreThoseTo copies owners worker log got = IsPermutation (filter (crosses_to owners worker) (flat_map copies log)) got

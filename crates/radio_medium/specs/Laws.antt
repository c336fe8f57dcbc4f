-- The copies of a packet in any medium, and the lookahead of a medium without an error.
use Rattle.std.specs.Prelude.{◌≡◌, ℕ, ◌+◌, ◌<◌, ◌≤◌, true, length, map, None}
use Rattle.std.specs.List.{AllByRecursion}
use Rattle.std.specs.List.Sorted.{IsStrictlyIncreasing}
use Rattle.radio_packet.specs.declared.sent.Sent.{Sent}
use Rattle.radio_packet.specs.declared.copy.RadioCopy.{RadioCopy}
use Rattle.radio_medium.specs.Medium.{Radio, hears, lookahead, copies, medium_fault}

-- a copy of this packet: it goes to a mote of the net that hears the sender, and needs at least the lookahead to
-- arrive
pub record IsCopyOf (radio : Radio) (sent : Sent) (copy : RadioCopy) : Type 0 where
  pub sender : copy.sender ≡ sent.sender
  pub number : copy.number ≡ sent.number
  pub value : copy.value ≡ sent.value
  pub there : copy.to < length radio.places
  pub heard : hears radio copy.to sent.sender ≡ true
  pub later : (end : ℕ) → sent.at + lookahead radio end ≤ copy.at

-- the lookahead is above 0 for every end
abbrev pub LooksAhead : Type 0
LooksAhead = (radio : Radio) → medium_fault radio ≡ None → (end : ℕ) → 0 < lookahead radio end

-- each copy of a packet goes to a mote that hears the sender, and needs at least the lookahead to arrive
abbrev pub CopiesComeLater : Type 0
CopiesComeLater = (radio : Radio) (sent : Sent) → AllByRecursion (IsCopyOf radio sent) (copies radio sent)

-- the copies of a packet are sorted by receiver, and each receiver has only one
abbrev pub CopiesRise : Type 0
CopiesRise = (radio : Radio) (sent : Sent) → IsStrictlyIncreasing (map (λ copy. copy.to) (copies radio sent))

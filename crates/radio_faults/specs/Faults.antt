-- Faults of a net, and what they make of copies on their way.
use Rattle.std.specs.Prelude.{ℕ, ◌+◌, ◌==◌, ◌&&◌, Bool, false, if◌then◌else◌, List, [], ◌∷◌, map, Option, Some, None}
use Rattle.std.specs.Prelude.{option_map}
use Rattle.std.specs.List.{filter_map}
use Rattle.std.specs.Option.{option_and_then}
use Rattle.radio_packet.specs.declared.copy.RadioCopy.{RadioCopy}
use Rattle.radio_packet.specs.declared.fate.Fate.{Fate}
use Rattle.radio_packet.specs.declared.sent.Sent.{Sent}
use Rattle.radio_faults.specs.declared.fault.Fault.{Fault}
use Rattle.radio_faults.specs.declared.fault.Fault.TheVariants.{Link, Silent, Lost, LostToAll, Late, Off}

-- the fault names the copy of packet n of mote s for mote r
abbrev pub names : Fault → (s n r : ℕ) → Bool
names (Link from to) s n r = (from == s) && (to == r)
names (Silent mote) s n r = mote == s
names (Lost sender number to) s n r = (sender == s) && (number == n) && (to == r)
names (LostToAll sender number) s n r = (sender == s) && (number == n)
names (Late sender number to by) s n r = (sender == s) && (number == n) && (to == r)
names (Off mote from until) s n r = false

-- when a copy arrives that the fault names, if it arrives at this moment without it: a late copy so much later, and each
-- other copy never
abbrev pub named_arrival : Fault → (at : ℕ) → Option ℕ
named_arrival (Late sender number to by) at = Some (at + by)
named_arrival fault at = None

-- when the copy of packet n of mote s arrives at mote r after this fault, if it arrives at this moment without it
abbrev pub arrival_after : Fault → (s n r at : ℕ) → Option ℕ
arrival_after fault s n r at = if names fault s n r then named_arrival fault at else Some at

-- the copy after this fault, if it isn't lost
abbrev pub copy_after : Fault → RadioCopy → Option RadioCopy
copy_after fault copy =
    option_map (λ at. record copy { at = at }) (arrival_after fault copy.sender copy.number copy.to copy.at)

-- the copies that are left of some copies after these faults
abbrev pub copies_with : List Fault → List RadioCopy → List RadioCopy
copies_with [] copies = copies
copies_with (fault ∷ faults) copies = filter_map (copy_after fault) (copies_with faults copies)

-- the fate after this fault of a copy of this packet
abbrev pub fate_after : Fault → Sent → Fate → Fate
fate_after fault sent fate =
    record fate { at = option_and_then (arrival_after fault sent.sender sent.number fate.to) fate.at }

-- the fates after these faults of the copies of this packet
abbrev pub fates_with : List Fault → Sent → List Fate → List Fate
fates_with [] sent fates = fates
fates_with (fault ∷ faults) sent fates = map (fate_after fault sent) (fates_with faults sent fates)

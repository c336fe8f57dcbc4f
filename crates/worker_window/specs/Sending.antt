-- The copies that are sent for a packet, according to the packet's fates.
use Rattle.std.specs.Prelude.{ℕ, List, map}
use Rattle.std.specs.List.{filter, filter_map}
use Rattle.radio_packet.specs.declared.sent.Sent.{Sent}
use Rattle.radio_packet.specs.declared.fate.Fate.{Fate}
use Rattle.radio_packet.specs.declared.copy.RadioCopy.{RadioCopy}
use Rattle.radio_medium.specs.Medium.{copy_of}
use Rattle.window_laws.specs.Agenda.{Item, Packet}
use Rattle.copy_exchange.specs.Crossed.{is_own, is_for_others}

-- the copies for the worker's own motes
abbrev pub own_items : (owners : List ℕ) → (worker : ℕ) → Sent → List Fate → List Item
own_items owners worker sent fates = map Packet
    (filter (λ copy. is_own owners worker copy.to) (filter_map (copy_of sent) fates))

-- the copies for motes of other workers
abbrev pub outgoing_copies : (owners : List ℕ) → (worker : ℕ) → Sent → List Fate → List RadioCopy
outgoing_copies owners worker sent fates = filter (is_for_others (is_own owners worker))
    (filter_map (copy_of sent) fates)

-- The radio. Its process stands for that of a driver, such as `cc2420_process`, which an interrupt polls.
use Rattle.std.specs.Prelude.{ℕ, List, [], ◌∷◌, Option, Some, None, if◌then◌else◌, ◌+◌, ◌^◌, nat_le, ◌++◌}
use Rattle.program_tree.specs.declared.event.Proc.TheVariants.{Own}
use Rattle.program_tree.specs.declared.event.Target.TheVariants.{One}
use Rattle.program_tree.specs.declared.event.Event.{Event}
use Rattle.program_tree.specs.declared.event.SystemEvent.TheVariants.{Poll, Packet}
use Rattle.program_tree.specs.Events.{system_number}
use Rattle.radio_packet.specs.declared.arrival.Arrival.{Arrival}
use Rattle.process_kernel.specs.State.{KernelState, Went, Goes, ◌>>=◌, write_of, Ends, halted_of}
use Rattle.process_kernel.specs.Posts.{process_post, is_system_event}
use Rattle.trace_lines.specs.declared.line.What.TheVariants as what

-- a packet as an event: its value, and the mote that sent it
abbrev pub packet_of : Arrival → Event
packet_of a = record { number = system_number Packet; word = a.value; sender = a.sender }

-- a packet is posted to the program's receiver; if the program has none, nobody hears the packet
unfoldable pub hand_to : (receiver : Option ℕ) → KernelState → Arrival → Went
hand_to (Some p) s a = process_post s (One (Own p)) (packet_of a) >>= λ _ s1. Goes tt s1
hand_to None s a = write_of s (what.Deaf a.sender a.number)

-- the packets leave the ring, the oldest one first
abbrev pub empty_ring : (receiver : Option ℕ) → List Arrival → KernelState → Went
empty_ring receiver [] s = Goes tt s
empty_ring receiver (a ∷ later) s =
    hand_to receiver (record s { ring = later }) a >>= λ _ s1. empty_ring receiver later s1

-- the reaction of the radio process: at POLL, it empties the ring
unfoldable pub radio_process : KernelState → Event → Went
radio_process s e = if is_system_event Poll e then empty_ring s.program.receiver s.ring s else Goes tt s

-- A packet is sent, as by the `send` of a radio driver. A mote that has sent 2 to the power of 62 packets halts.
unfoldable pub send_of : KernelState → ℕ → Went
send_of s value =
    if nat_le (2 ^ 62) s.sent then Ends (halted_of s)
    else write_of (record s {
      sends = s.sends ++ record { at = s.moment; sender = s.mote; number = s.sent; value = value } ∷ [];
      sent = s.sent + 1;
    }) (what.Send s.sent value)

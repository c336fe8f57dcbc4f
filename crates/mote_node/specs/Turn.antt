-- A turn of a node, and its next wake.
use Rattle.std.specs.Prelude.{ℕ, nat_le, Bool, false, Option, Some, None, ◌+◌, max, if◌then◌else◌, option_map, List}
use Rattle.std.specs.Prelude.{◌++◌, nat_lt, not, ◌&&◌, [], ◌∷◌, length, map}
use Rattle.program_tree.specs.Code.{Tree}
use Rattle.process_kernel.specs.KernelModel.{KernelModel, unbooted, is_pending, Underway, has_room, with_packet, with_sent}
use Rattle.process_kernel.specs.KernelModel.{with_poll, boot_given, runs_of, underway_after}
use Rattle.mote_timers.specs.TimerLists.{next_expiration_of}
use Rattle.trace_lines.specs.declared.line.Line.{Line}
use Rattle.program_tree.specs.declared.event.Proc.TheVariants.{Radio, Etimer}
use Rattle.radio_packet.specs.declared.arrival.Arrival.{Arrival}
use Rattle.radio_packet.specs.declared.sent.Sent.{Sent}
use Rattle.trace_lines.specs.declared.line.What.TheVariants as what

-- the mote; the moment of its last turn, if it had one; and whether packets that arrive together are lost
pub record Node : Type 0 where
  pub mote : KernelModel
  pub last : Option ℕ
  pub collides : Bool

-- a node before its first turn
unfoldable pub new_node : Tree → (number queue : ℕ) → Node
new_node t number queue = record { mote = unbooted t number queue; last = None; collides = false }

-- the moment is not later than the last turn
abbrev pub is_past : (moment : ℕ) → (last : Option ℕ) → Bool
is_past moment None = false
is_past moment (Some last) = nat_le moment last

abbrev pub with_collide : Bool → Node → Node
with_collide collides n = record n { collides = collides }

-- the node has sent so many packets
abbrev pub node_with_sent : (sent : ℕ) → Node → Node
node_with_sent sent n = record n { mote = with_sent n.mote sent }

-- The wake after a turn at this moment. If events or polls are left, it is the next moment. Otherwise it is the moment
-- at which the first timer is due, but not before the next moment. Without timers there is no wake.
unfoldable pub wake_after : (moment : ℕ) → KernelModel → Option ℕ
wake_after moment m =
    if is_pending m then Some (moment + 1) else option_map (λ due. max (moment + 1) due)
    (next_expiration_of m.state.timers)

-- the next wake: 0 before the first turn
abbrev pub wake_since : (last : Option ℕ) → KernelModel → Option ℕ
wake_since None m = Some 0
wake_since (Some last) m = wake_after last m

-- the next wake of a mote whose last turn was at this moment; a mote that has halted has none
abbrev pub wake_at : (last : Option ℕ) → KernelModel → Option ℕ
wake_at last m = if m.halted then None else wake_since last m

-- the next wake of a node
abbrev pub wake_of : Node → Option ℕ
wake_of n = wake_at n.last n.mote

-- a mote that has halted does nothing more
abbrev pub turn_goes_on : Underway → Underway → Underway
turn_goes_on u next = if u.mote.halted then u else next

abbrev pub with_mote : Underway → KernelModel → Underway
with_mote u m = record u { mote = m }

abbrev pub with_lines : Underway → List Line → Underway
with_lines u more = record u { lines = u.lines ++ more }

abbrev pub received_line : (moment : ℕ) → Arrival → Line
received_line moment a = record { at = moment; what = what.Recv a.sender a.number a.value }

abbrev pub lost_line : (moment : ℕ) → Arrival → Line
lost_line moment a = record { at = moment; what = what.Lost a.sender a.number }

abbrev pub collision_line : (moment : ℕ) → Arrival → Line
collision_line moment a = record { at = moment; what = what.Collide a.sender a.number }

-- a packet goes into the receive ring, or is lost if the ring is full
unfoldable pub hear : (moment : ℕ) → Arrival → Underway → Underway
hear moment a u =
    if has_room u.mote then with_lines (with_mote u (with_packet u.mote a)) (received_line moment a ∷ [])
    else with_lines u (lost_line moment a ∷ [])

-- the packets are heard one after another
abbrev pub hear_each : (moment : ℕ) → List Arrival → Underway → Underway
hear_each moment [] u = u
hear_each moment (a ∷ later) u = hear_each moment later (hear moment a u)

-- the ring holds more packets than before
abbrev pub took_some : KernelModel → KernelModel → Bool
took_some old new = nat_lt (length old.state.ring) (length new.state.ring)

-- the packets are heard, and the radio process is polled if the ring accepted any of them
unfoldable pub hear_all : (moment : ℕ) → List Arrival → Underway → Underway
hear_all moment arrivals u =
    let heard = hear_each moment arrivals u in
    if took_some u.mote heard.mote then with_mote heard (with_poll heard.mote Radio) else heard

-- two or more packets that arrive together collide, unless the mote has halted
abbrev pub is_collision : KernelModel → List Arrival → Bool
is_collision m arrivals = not m.halted && nat_le 2 (length arrivals)

-- packets that collide are lost, and a line is written for each of them
abbrev pub with_collisions : (moment : ℕ) → List Arrival → Underway → Underway
with_collisions moment arrivals u = with_lines u (map (collision_line moment) arrivals)

-- the first turn boots the mote
unfoldable pub boot_due : (moment : ℕ) → Underway → Underway
boot_due moment u = if u.mote.booted then u else underway_after (boot_given moment u.mote u.lines u.sends)

-- there is an expiration, and it isn't after this moment
abbrev pub is_some_due : (moment : ℕ) → (expiration : Option ℕ) → Bool
is_some_due moment None = false
is_some_due moment (Some expiration) = nat_le expiration moment

-- the etimer process is polled if a timer is due at this moment
unfoldable pub poll_due : (moment : ℕ) → KernelModel → KernelModel
poll_due moment m = if is_some_due moment (next_expiration_of m.state.timers) then with_poll m Etimer else m

-- the greatest number of kernel runs in a turn, without the boot
abbrev pub most_runs : ℕ
most_runs = 64

-- the work of a turn after the boot: the packets that arrive, the timers, and the kernel runs
unfoldable pub work_of : (moment : ℕ) → List Arrival → Underway → Underway
work_of moment arrivals u =
    let heard = hear_all moment arrivals u in runs_of most_runs moment (with_mote heard (poll_due moment heard.mote))

-- the turn of a mote: the boot, if it is due, and then the work, unless the mote has halted before or in the boot
unfoldable pub mote_turn : (moment : ℕ) → List Arrival → Underway → Underway
mote_turn moment arrivals u = let booted = boot_due moment u in turn_goes_on booted (work_of moment arrivals booted)

-- the turn of a mote in a net: if colliding packets are to be lost, and these packets collide, the mote gets none of
-- them
unfoldable pub net_turn : (collides : Bool) → (moment : ℕ) → List Arrival → Underway → Underway
net_turn collides moment arrivals u =
    if collides && is_collision u.mote arrivals then mote_turn moment [] (with_collisions moment arrivals u)
    else mote_turn moment arrivals u

-- the outcome of a turn: the node after it, its lines and packets, and the next wake
pub record TurnGiven : Type 0 where
  pub node : Node
  pub lines : List Line
  pub sends : List Sent
  pub wake : Option ℕ

-- the node after a turn at this moment, with the mote in its new state
abbrev pub node_after : Node → (moment : ℕ) → KernelModel → Node
node_after n moment m = record n { mote = m; last = Some moment }

-- the outcome of a turn of the node that ends in this state
abbrev pub turned_to : Node → (moment : ℕ) → Underway → TurnGiven
turned_to n moment u = record {
  node = node_after n moment u.mote;
  lines = u.lines;
  sends = u.sends;
  wake = wake_of (node_after n moment u.mote);
}

-- the turn of a node at this moment, with the packets that arrive, in order
unfoldable pub turn_of : (moment : ℕ) → List Arrival → Node → TurnGiven
turn_of moment arrivals n =
    turned_to n moment (net_turn n.collides moment arrivals (record { mote = n.mote; lines = []; sends = [] }))

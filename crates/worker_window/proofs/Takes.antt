-- The window after a turn, computed from the values in the code.
use Rattle.std.proofs.Common.{◌≡◌, ℕ, suc, ◌≤◌, true, List, [], ◌∷◌, ◌++◌, map, drop, length, Option, Some, None, option_map, refl, sym, ap, arith}
use Rattle.std.specs.List.{filter, take_while}
use Rattle.std.specs.Prelude.{IfSome}
use Rattle.mote_laws.proofs.Stamps.{turns_stamp}
use Rattle.mote_node.specs.Public.{turn_given, node_in}
use Rattle.mote_node.specs.Turn.{Node, turn_of}
use Rattle.net_agenda.specs.Buckets.{arrival_of}
use Rattle.program_tree.specs.Code.{Tree}
use Rattle.radio_packet.specs.declared.arrival.Arrival.{Arrival}
use Rattle.radio_packet.specs.declared.copy.RadioCopy.{RadioCopy}
use Rattle.radio_packet.specs.declared.sent.Sent.{Sent}
use Rattle.trace_lines.specs.declared.line.Line.{Line}
use Rattle.window_laws.specs.NetStep.{stamped}
use Rattle.window_laws.specs.Order.{in_order}
use Rattle.window_laws.specs.Windows.{is_at}
use Rattle.worker_window.specs.MoteWindow.{HasTurn, IsNextOf, IsOver, window_after_turn, node_number, is_rising}
use Rattle.worker_window.specs.Own.{window_in, window_over}
use Rattle.worker_window.specs.Turns.{TurnsTo}
use Rattle.worker_window.specs.declared.own.OwnWindow.{OwnWindow}
use Rattle.kernel_laws.specs.Stamps.{PacketsBear}
use Rattle.mote_node.specs.declared.mote.TurnOut.{TurnOut}
use Rattle.worker_window.proofs.Orders.{IsTaken, taken, quiet_before}

-- packets that already have the stamp of a turn are unchanged by the stamp
stamped_is : (moment number : ℕ) (sends : List Sent) → PacketsBear moment number sends → map (stamped moment number) sends ≡ sends
stamped_is moment number [] h = refl
stamped_is moment number (x ∷ xs) h =
    let at : x.at ≡ moment = (h 0 x (omega arith)).0 in
    let sender : x.sender ≡ number = (h 0 x (omega arith)).1 in
    let head : stamped moment number x ≡ x = rw (← at, ← sender) refl in
    let ih = stamped_is moment number xs (λ k d low. h (suc k) d (omega arith)) in
    cc

pub turned : (p : Tree) (until m : ℕ) (copies rest : List RadioCopy) (given : List Arrival) (wake : Option ℕ) (lines : List Line) (sends : List Sent) (n n' : Node) (out : TurnOut)
    → IsTaken m copies given → rest ≡ drop (length given) copies → turn_given out n' ≡ turn_of m given n
    → window_over p until rest out.wake (lines ++ out.lines.items) (sends ++ out.sends.items) n' ≡ window_after_turn m (window_over p until copies wake lines sends n)
turned p until m copies rest given wake lines sends n n' out took cut made =
    let stamp = stamped_is m (node_number n) (turn_of m given n).sends ((turns_stamp m given n).packets) in
    let at : turn_of m (map arrival_of (in_order (filter (is_at m) copies))) n ≡ turn_of m given n = sym (ap (λ g. turn_of m g n) took.given_is) in
    let node : n' ≡ (turn_of m given n).node = ap (λ t. t.node) made in
    let wrote : out.lines.items ≡ (turn_of m given n).lines = ap (λ t. t.lines) made in
    let sent : out.sends.items ≡ (turn_of m given n).sends = ap (λ t. t.sends) made in
    let wakes : out.wake ≡ (turn_of m given n).wake = ap (λ t. t.wake) made in
    rw (at, stamp, node, wrote, sent, wakes, cut, took.rest_is) refl

-- the same for a mote that may have failed; a mote that has failed takes no turn
pub turns_to : (p : Tree) (until m : ℕ) (copies rest : List RadioCopy) (given : List Arrival) (wake : Option ℕ) (lines : List Line) (sends : List Sent) (old new : Option Node) (out : TurnOut)
    → (old ≡ None → ⊥) → IfSome (option_map (window_over p until copies wake lines sends) old) (HasTurn m) → is_rising copies ≡ true
    → given ≡ map arrival_of (take_while (is_at m) copies) → rest ≡ drop (length given) copies
    → option_map (turn_given out) new ≡ option_map (turn_of m given) old
    → TurnsTo m (option_map (window_over p until copies wake lines sends) old) (option_map (window_over p until rest out.wake (lines ++ out.lines.items) (sends ++ out.sends.items)) new)
turns_to p until m copies rest given wake lines sends None new out there left rising took cut made = absurd (there refl)
turns_to p until m copies rest given wake lines sends (Some n) None out there left rising took cut made = cc
turns_to p until m copies rest given wake lines sends (Some n) (Some n') out there left rising took cut made =
    let made' : turn_given out n' ≡ turn_of m given n = cc in
    turned p until m copies rest given wake lines sends n n' out (taken m copies given rising left.next.quiet.no_copies took) cut made'

-- no turn is left if the next event is at the bound or after it
pub over_after : (p : Tree) (until : ℕ) (w : OwnWindow) (m : ℕ) → IsNextOf m w.wake (drop w.next w.copies.items) → until ≤ m → IfSome (window_in p until w) IsOver
unfolding window_in
over_after p until w m next late = over (node_in p w.mote)
  where
    over : (o : Option Node) → IfSome (option_map (window_over p until (drop w.next w.copies.items) w.wake w.lines.items w.sends.items) o) IsOver
    over None = tt
    over (Some n) = quiet_before m until w.wake (drop w.next w.copies.items) next late

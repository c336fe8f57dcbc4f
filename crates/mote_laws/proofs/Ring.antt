-- After each step of a turn, the ring still agrees with the mote's lines.
use Rattle.std.proofs.Common.{ℕ, ◌≡◌, ◌≤◌, nat_lt, Bool, true, false, List, [], ◌∷◌, ◌++◌, length, Option, Some, None, refl, sym, ap, ◌∙◌, subst, append_assoc, append-nil, arith}
use Rattle.std.proofs.lemmas.Bool.Decides.{nat_tests}
use Rattle.program_tree.specs.declared.event.Proc.{Proc}
use Rattle.program_tree.specs.Code.{Tree}
use Rattle.radio_packet.specs.declared.arrival.Arrival.{Arrival}
use Rattle.trace_lines.specs.declared.line.Line.{Line}
use Rattle.trace_lines.specs.declared.line.What.{What}
use Rattle.trace_lines.specs.declared.line.What.TheVariants as what
use Rattle.process_kernel.specs.State.{KernelState}
use Rattle.process_kernel.specs.ProcessList.{with_needs_poll}
use Rattle.process_kernel.specs.Posts.{process_poll}
use Rattle.process_kernel.specs.KernelModel.{KernelModel, unbooted, with_packet, with_poll, Given, boot_given, run_given, Underway, underway_after}
use Rattle.kernel_laws.specs.Polled.{Accepted, Refused, TellsPacket, TellEach, NoneLeft, TellsNext}
use Rattle.kernel_laws.specs.Ring.{IsApart, RingRuns, NoneMore, Receives, Loses, Hands, Passes, GivesPackets}
use Rattle.kernel_laws.proofs.Tables.{below_of}
use Rattle.kernel_laws.proofs.Ring.{ring_runs_on, boot_tells_packets, run_tells_packets}
use Rattle.mote_node.specs.Turn.{Node, new_node, with_mote, with_lines, received_line, lost_line, collision_line, turn_of}
use Rattle.mote_node.specs.Laws as turns
use Rattle.mote_node.specs.Laws.{Turns, Rests, Takes}
use Rattle.mote_laws.specs.Laws.{first_node}
use Rattle.mote_laws.specs.Ring.{GoesWithRing, RingGoesWithLines, received_of, received_in, AreAmong, AllPassed, Another, ThisOne}
use Rattle.mote_laws.proofs.EachTurn.{AreTurnSteps, net_turn_holds}
use Rattle.kernel_laws.proofs.EachStep.{polled_or_not}

-- along the lines before the turn and those of the turn so far, the ring changes to the mote's current ring
record Goes (program : Tree) (before : List Line) (u : Underway) : Type 0 where
  ring : GoesWithRing program.receiver (before ++ u.lines) u.mote
  program_is : u.mote.state.program ≡ program

-- boots and runs

given_goes : (program : Tree) (before : List Line) (u : Underway) (g : Given) → u.mote.halted ≡ false → GivesPackets u.mote u.lines g → Goes program before u → Goes program before (underway_after g)
given_goes program before u g running k h =
    let from : u.mote.state.ring ≡ h.ring.left = h.ring.holds running in
    let more : RingRuns program.receiver h.ring.left k.added k.left = subst (λ r. RingRuns program.receiver r k.added k.left) from (subst (λ p. RingRuns p.receiver u.mote.state.ring k.added k.left) h.program_is k.runs) in
    let all = ring_runs_on program.receiver [] h.ring.left k.left (before ++ u.lines) k.added h.ring.runs more in
    record {
      ring = record { left = k.left; runs = subst (λ l. RingRuns program.receiver [] l k.left) (append_assoc before u.lines k.added ∙ ap (λ l. before ++ l) (sym k.wrote)) all; holds = k.holds };
      program_is = k.program ∙ h.program_is;
    }

stays_goes : (program : Tree) (before : List Line) (u : Underway) (g : Given) → underway_after g ≡ u → Goes program before u → Goes program before (underway_after g)
stays_goes program before u g e h = subst (Goes program before) (sym e) h

pub run_stays : (moment : ℕ) (u : Underway) → u.mote.halted ≡ true → underway_after (run_given moment u.mote u.lines u.sends) ≡ u
unfolding run_given
run_stays moment u e = rw e refl

run_by : (program : Tree) (before : List Line) (moment : ℕ) (u : Underway) (b : Bool) → u.mote.halted ≡ b → Goes program before u → Goes program before (underway_after (run_given moment u.mote u.lines u.sends))
run_by program before moment u true e h = stays_goes program before u (run_given moment u.mote u.lines u.sends) (run_stays moment u e) h
run_by program before moment u false e h = given_goes program before u _ e (run_tells_packets moment u.mote u.lines u.sends) h

pub boot_stays : (moment : ℕ) (u : Underway) → u.mote.halted ≡ true → underway_after (boot_given moment u.mote u.lines u.sends) ≡ u
unfolding boot_given
boot_stays moment u e = rw e refl

boot_by : (program : Tree) (before : List Line) (moment : ℕ) (u : Underway) (b : Bool) → u.mote.halted ≡ b → Goes program before u → Goes program before (underway_after (boot_given moment u.mote u.lines u.sends))
boot_by program before moment u true e h = stays_goes program before u (boot_given moment u.mote u.lines u.sends) (boot_stays moment u e) h
boot_by program before moment u false e h = given_goes program before u _ e (boot_tells_packets moment u.mote u.lines u.sends) h

-- packets that arrive

-- more lines, along which the ring changes to the mote's new ring
lines_go : (program : Tree) (before : List Line) (u : Underway) (m : KernelModel) (more : List Line) → (h : Goes program before u) → RingRuns program.receiver h.ring.left more m.state.ring → m.state.program ≡ u.mote.state.program → Goes program before (with_lines (with_mote u m) more)
lines_go program before u m more h r e = record {
  ring = record { left = m.state.ring; runs = subst (λ l. RingRuns program.receiver [] l m.state.ring) (append_assoc before u.lines more) (ring_runs_on program.receiver [] h.ring.left m.state.ring (before ++ u.lines) more h.ring.runs r); holds = λ q. refl };
  program_is = e ∙ h.program_is;
}

-- the ring to which the lines lead is the mote's ring
held : (program : Tree) (u : Underway) (before : List Line) (h : Goes program before u) → u.mote.halted ≡ false → (more : List Line) (left : List Arrival) → RingRuns program.receiver u.mote.state.ring more left → RingRuns program.receiver h.ring.left more left
held program u before h running more left r = subst (λ x. RingRuns program.receiver x more left) (h.ring.holds running) r

above_of : (n : ℕ) → nat_lt n 8 ≡ false → 8 ≤ n
above_of n e = grind (arith, nat_tests)

pub poll_same : (s : KernelState) (p : Proc) → ((process_poll s p).ring ≡ s.ring) × ((process_poll s p).program ≡ s.program)
unfolding with_needs_poll
poll_same s p = polled_or_not (λ t. (t.ring ≡ s.ring) × (t.program ≡ s.program)) s p (refl, refl) (refl, refl)

-- turns

steps : (program : Tree) (before : List Line) (moment : ℕ) → AreTurnSteps moment (λ u. Goes program before u) (λ u. Goes program before u)
unfolding with_packet with_poll
steps program before moment = record {
  collides = λ u a running h. lines_go program before u u.mote (collision_line moment a ∷ []) h (held program u before h running _ _ (Passes tt NoneMore)) refl;
  boots = λ u b h. boot_by program before moment u u.mote.halted refl h;
  booted = λ u b h. h;
  accepts = λ u a running room h. lines_go program before u (with_packet u.mote a) (received_line moment a ∷ []) h (held program u before h running _ _ (Receives a (below_of (length u.mote.state.ring) 8 room) NoneMore)) refl;
  loses = λ u a running full h. lines_go program before u u.mote (lost_line moment a ∷ []) h (held program u before h running _ _ (Loses (above_of (length u.mote.state.ring) full) NoneMore)) refl;
  polls = λ u p h. let same = poll_same u.mote.state p in record {
    ring = record { left = h.ring.left; runs = h.ring.runs; holds = λ q. same.0 ∙ h.ring.holds q };
    program_is = same.1 ∙ h.program_is;
  };
  runs = λ u h. run_by program before moment u u.mote.halted refl h;
}

-- the ring along the lines of a node so far
record NodeGoes (program : Tree) (before : List Line) (n : Node) : Type 0 where
  ring : GoesWithRing program.receiver before n.mote
  program_is : n.mote.state.program ≡ program

turn_goes : (program : Tree) (before : List Line) (moment : ℕ) (packets : List Arrival) (n : Node) → NodeGoes program before n → NodeGoes program (before ++ (turn_of moment packets n).lines) (turn_of moment packets n).node
unfolding turn_of
turn_goes program before moment packets n h =
    let first : Goes program before (record { mote = n.mote; lines = []; sends = [] }) = record { ring = record { left = h.ring.left; runs = rw append-nil h.ring.runs; holds = h.ring.holds }; program_is = h.program_is } in
    let k = net_turn_holds moment (λ u. Goes program before u) (λ u. Goes program before u) (steps program before moment) n.collides packets _ first in
    record { ring = record { left = k.ring.left; runs = k.ring.runs; holds = k.ring.holds }; program_is = k.program_is }

turns_go : (program : Tree) (n last : Node) (given : List turns.TurnInput) (lines : List Line) → Turns n given lines last → (before : List Line) → NodeGoes program before n → NodeGoes program (before ++ lines) last
turns_go program n last given lines Rests before h = rw append-nil h
turns_go program n last given lines (Takes {given = x} {lines = more} past t) before h =
    let k = turns_go program _ last _ more t (before ++ (turn_of x.moment x.arrivals n).lines) (turn_goes program before x.moment x.arrivals n h) in
    subst (λ l. NodeGoes program l last) (append_assoc before (turn_of x.moment x.arrivals n).lines more) k

first_goes : (program : Tree) (number queue : ℕ) (collides : Bool) → NodeGoes program [] (first_node program number queue collides)
unfolding new_node unbooted
first_goes program number queue collides = record { ring = record { left = []; runs = NoneMore; holds = λ q. refl }; program_is = refl }

pub ring_goes_with_lines : RingGoesWithLines
ring_goes_with_lines program number queue collides given lines last t = (turns_go program _ last given lines t [] (first_goes program number queue collides)).ring

-- the packets in order

pub record Accounts (receiver : Option ℕ) (ring : List Arrival) (lines : List Line) (left : List Arrival) : Type 0 where
  pub handed : List Arrival
  pub all : ring ++ received_in lines ≡ handed ++ left
  pub tellings : List What
  pub each : TellEach receiver handed tellings
  pub among : AreAmong tellings lines

-- a line that isn't about a received packet
passes : (receiver : Option ℕ) (ring left : List Arrival) (l : Line) (lines : List Line) → received_of l.what ≡ [] → Accounts receiver ring lines left → Accounts receiver ring (l ∷ lines) left
passes receiver ring left l lines e h = record { handed = h.handed; all = rw e h.all; tellings = h.tellings; each = h.each; among = Another h.among }

none_received : (w : What) → IsApart w → received_of w ≡ []
none_received (what.Recv f n v) h = absurd h
none_received x h = refl

none_reported : (receiver : Option ℕ) (a : Arrival) (w : What) → TellsPacket receiver a w → received_of w ≡ []
none_reported (Some p) a w Accepted = refl
none_reported (Some p) a w Refused = refl
none_reported None a w e = rw e refl

pub accounts : (receiver : Option ℕ) (ring left : List Arrival) (lines : List Line) → RingRuns receiver ring lines left → Accounts receiver ring lines left
accounts receiver ring left lines NoneMore = record { handed = []; all = append-nil ring; tellings = []; each = NoneLeft; among = AllPassed }
accounts receiver ring left lines (Receives {lines = more} a room r) =
    let h = accounts receiver (ring ++ a ∷ []) left more r in
    record { handed = h.handed; all = sym (append_assoc ring (a ∷ []) (received_in more)) ∙ h.all; tellings = h.tellings; each = h.each; among = Another h.among }
accounts receiver ring left lines (Loses {lines = more} full r) = passes receiver ring left _ more refl (accounts receiver ring left more r)
accounts receiver ring left lines (Hands {a} {later} {lines = more} {w} tells r) =
    let h = accounts receiver later left more r in
    let e = none_reported receiver a w tells in
    record { handed = a ∷ h.handed; all = rw e (ap (λ l. a ∷ l) h.all); tellings = w ∷ h.tellings; each = TellsNext tells h.each; among = ThisOne h.among }
accounts receiver ring left lines (Passes {lines = more} {w} apart r) = passes receiver ring left _ more (none_received w apart) (accounts receiver ring left more r)

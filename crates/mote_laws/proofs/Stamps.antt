-- Each step of a turn writes lines and packets that are stamped with its moment.
use Rattle.std.proofs.Common.{ℕ, ◌≡◌, ◌+◌, ◌≤◌, false, List, [], ◌∷◌, length, Option, Some, None, refl, sym, ap, ◌∙◌, subst, append-nil, arith}
use Rattle.std.proofs.lemmas.Bool.Decides.{nat_tests}
use Rattle.std.specs.List.{All}
use Rattle.std.proofs.lemmas.List.Elements.{All-nil, All-cons, All-append, All-weaker}
use Rattle.program_tree.specs.declared.event.Proc.{Proc}
use Rattle.program_tree.specs.Code.{Tree}
use Rattle.radio_packet.specs.declared.arrival.Arrival.{Arrival}
use Rattle.trace_lines.specs.declared.line.Line.{Line}
use Rattle.radio_packet.specs.declared.sent.Sent.{Sent}
use Rattle.process_kernel.specs.State.{KernelState}
use Rattle.process_kernel.specs.KernelModel.{unbooted, with_packet, with_poll, boot_given, run_given, Underway, underway_after, runs_of}
use Rattle.mote_node.specs.Turn.{Node, new_node, is_past, with_mote, with_lines, received_line, lost_line, collision_line, turn_of}
use Rattle.mote_node.specs.Laws.{TurnInput, Turns, Rests, Takes}
use Rattle.kernel_laws.specs.Stamps.{LinesBear, PacketsBear, AreNumberedFrom, Stamped, with_output}
use Rattle.kernel_laws.proofs.Stamps.{numbered_on, stamped_twice, stamped_still, poll_still, boot_stamps, run_stamps}
use Rattle.mote_laws.specs.Laws.{first_node}
use Rattle.mote_laws.specs.Stamps.{TurnsStamp, packets_of_turns, PacketsCountUp, TurnsNeverGoBack}
use Rattle.mote_laws.proofs.EachTurn.{AreTurnSteps, runs_keep, net_turn_holds}
use Rattle.mote_laws.proofs.Rising.{rises_empty, rises_level, rises_joined}

abbrev pub so_far : Underway → KernelState
so_far u = with_output u.mote u.lines u.sends

-- the output from one point of a turn to a later one is stamped with its moment
abbrev pub Goes : (moment : ℕ) → Underway → Underway → Type 0
Goes moment u v = Stamped moment (so_far u) (so_far v)

pub goes_still : (moment : ℕ) (u : Underway) → Goes moment u u
goes_still moment u = stamped_still moment (so_far u) (so_far u) refl refl refl refl refl

goes_twice : (moment : ℕ) (u v w : Underway) → Goes moment u v → Goes moment v w → Goes moment u w
goes_twice moment u v w h i = stamped_twice moment (so_far u) (so_far v) (so_far w) h i

polled_goes : (moment : ℕ) (u : Underway) (p : Proc) → Goes moment u (with_mote u (with_poll u.mote p))
unfolding with_poll
polled_goes moment u p = let q = poll_still u.mote.state p in stamped_still moment (so_far u) (so_far (with_mote u (with_poll u.mote p))) refl refl q.sent q.mote q.program

-- packets that arrive

notes_go : (moment : ℕ) (u : Underway) (more : List Line) → LinesBear moment more → Goes moment u (with_lines u more)
notes_go moment u more h = record {
  lines = more;
  wrote = refl;
  lines_bear = h;
  sends = [];
  sent_on = sym (append-nil u.sends);
  packets_bear = All-nil (λ x. (x.at ≡ moment) × (x.sender ≡ u.mote.state.mote));
  numbered = refl;
  counted = omega arith;
  mote = refl;
  program = refl;
}

note_bears : (moment : ℕ) (l : Line) → l.at ≡ moment → LinesBear moment (l ∷ [])
note_bears moment l e = All-cons (λ x. x.at ≡ moment) l [] e (All-nil (λ x. x.at ≡ moment))

one_note : (moment : ℕ) (u v : Underway) (l : Line) → l.at ≡ moment → Goes moment u v → Goes moment u (with_lines v (l ∷ []))
one_note moment u v l e h = goes_twice moment u v (with_lines v (l ∷ [])) h (notes_go moment v (l ∷ []) (note_bears moment l e))

accepted_goes : (moment : ℕ) (u : Underway) (a : Arrival) → Goes moment u (with_mote u (with_packet u.mote a))
unfolding with_packet
accepted_goes moment u a = stamped_still moment _ _ refl refl refl refl refl

run_goes : (moment : ℕ) (u v : Underway) → Goes moment u v → Goes moment u (underway_after (run_given moment v.mote v.lines v.sends))
run_goes moment u v h = goes_twice moment u v (underway_after (run_given moment v.mote v.lines v.sends)) h (run_stamps moment v.mote v.lines v.sends)

pub runs_go : (most moment : ℕ) (u : Underway) → Goes moment u (runs_of most moment u)
runs_go most moment u = runs_keep moment (λ v. Goes moment u v) (run_goes moment u) most u (goes_still moment u)

-- turns

steps : (moment : ℕ) (u : Underway) → AreTurnSteps moment (λ v. Goes moment u v) (λ v. Goes moment u v)
steps moment u = record {
  collides = λ v a running h. one_note moment u v (collision_line moment a) refl h;
  boots = λ v b h. goes_twice moment u v (underway_after (boot_given moment v.mote v.lines v.sends)) h (boot_stamps moment v.mote v.lines v.sends);
  booted = λ v b h. h;
  accepts = λ v a running room h. let w = with_mote v (with_packet v.mote a) in one_note moment u w (received_line moment a) refl (goes_twice moment u v w h (accepted_goes moment v a));
  loses = λ v a running full h. one_note moment u v (lost_line moment a) refl h;
  polls = λ v p h. goes_twice moment u v (with_mote v (with_poll v.mote p)) h (polled_goes moment v p);
  runs = run_goes moment u;
}

pub turns_stamp : TurnsStamp
unfolding turn_of
turns_stamp moment arrivals n =
    let u : Underway = record { mote = n.mote; lines = []; sends = [] } in
    let h = net_turn_holds moment (λ v. Goes moment u v) (λ v. Goes moment u v) (steps moment u) n.collides arrivals u (goes_still moment u) in
    record {
      lines = subst (LinesBear moment) (sym h.wrote) h.lines_bear;
      packets = subst (PacketsBear moment n.mote.state.mote) (sym h.sent_on) h.packets_bear;
      numbered = subst (AreNumberedFrom n.mote.state.sent) (sym h.sent_on) h.numbered;
      counted = h.counted ∙ ap (λ l. n.mote.state.sent + length l) (sym h.sent_on);
      mote = h.mote;
    }

-- the packets of turns

packets_numbered : (given : List TurnInput) (n : Node) → AreNumberedFrom n.mote.state.sent (packets_of_turns n given)
packets_numbered [] n = refl
packets_numbered (g ∷ later) n =
    let t = turn_of g.moment g.arrivals n in
    let h = turns_stamp g.moment g.arrivals n in
    numbered_on n.mote.state.sent t.sends (packets_of_turns t.node later) h.numbered (subst (λ k. AreNumberedFrom k (packets_of_turns t.node later)) h.counted (packets_numbered later t.node))

packets_named : (mote : ℕ) (given : List TurnInput) (n : Node) → n.mote.state.mote ≡ mote → All (λ x. x.sender ≡ mote) (packets_of_turns n given)
packets_named mote [] n e = All-nil (λ (x : Sent). x.sender ≡ mote)
packets_named mote (g ∷ later) n e =
    let t = turn_of g.moment g.arrivals n in
    let h = turns_stamp g.moment g.arrivals n in
    All-append (λ x. x.sender ≡ mote) t.sends (packets_of_turns t.node later) (All-weaker (λ x. (x.at ≡ g.moment) × (x.sender ≡ n.mote.state.mote)) (λ x. x.sender ≡ mote) (λ x k. k.1 ∙ e) t.sends h.packets) (packets_named mote later t.node (h.mote ∙ e))

new_sent : (n : Node) (given : List TurnInput) → n.mote.state.sent ≡ 0 → AreNumberedFrom 0 (packets_of_turns n given)
new_sent n given e = subst (λ k. AreNumberedFrom k (packets_of_turns n given)) e (packets_numbered given n)

pub new_is : (program : Tree) (number queue : ℕ) → ((new_node program number queue).mote.state.mote ≡ number) × ((new_node program number queue).mote.state.sent ≡ 0)
unfolding new_node unbooted
new_is program number queue = (refl, refl)

pub packets_count_up : PacketsCountUp
packets_count_up program number queue collides given =
    let n = first_node program number queue collides in
    let is : (n.mote.state.mote ≡ number) × (n.mote.state.sent ≡ 0) = new_is program number queue in
    (packets_named number given n is.0, new_sent n given is.1)

-- the lines of turns

above : (moment : ℕ) (last : Option ℕ) (m : ℕ) → last ≡ Some m → is_past moment last ≡ false → m ≤ moment
above moment None m is past = cc
above moment (Some l) m is past = let same : l ≡ m = cc in grind (arith, nat_tests)

pub now_last : (moment : ℕ) (arrivals : List Arrival) (n : Node) → (turn_of moment arrivals n).node.last ≡ Some moment
unfolding turn_of
now_last moment arrivals n = refl

-- the lines of turns after this moment are not earlier than it
lines_above : (n last : Node) (given : List TurnInput) (lines : List Line) (m : ℕ) → n.last ≡ Some m → Turns n given lines last → All (λ l. m ≤ l.at) lines
lines_above n last given lines m is Rests = All-nil (λ (l : Line). m ≤ l.at)
lines_above n last given lines m is (Takes {given = g} {lines = more} past t) =
    let turn = turn_of g.moment g.arrivals n in
    let le = above g.moment n.last m is past in
    All-append (λ l. m ≤ l.at) turn.lines more
    (All-weaker (λ l. l.at ≡ g.moment) (λ l. m ≤ l.at) (λ l e. omega arith) turn.lines (turns_stamp g.moment g.arrivals n).lines)
    (All-weaker (λ l. g.moment ≤ l.at) (λ l. m ≤ l.at) (λ l e. omega arith) more (lines_above turn.node last _ more g.moment (now_last g.moment g.arrivals n) t))

pub turns_never_go_back : TurnsNeverGoBack
turns_never_go_back n last given lines Rests = rises_empty (λ (l : Line). l.at)
turns_never_go_back n last given lines (Takes {given = g} {later} {lines = more} past t) =
    let turn = turn_of g.moment g.arrivals n in
    let bear = (turns_stamp g.moment g.arrivals n).lines in
    rises_joined (λ l. l.at) g.moment turn.lines more (rises_level (λ l. l.at) g.moment turn.lines bear) (All-weaker (λ l. l.at ≡ g.moment) (λ l. l.at ≤ g.moment) (λ l e. omega arith) turn.lines bear)
    (turns_never_go_back turn.node last later more t) (lines_above turn.node last later more g.moment (now_last g.moment g.arrivals n) t)

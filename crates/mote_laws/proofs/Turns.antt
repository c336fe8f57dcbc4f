-- After each step of a turn, the lines still agree with the mote.
use Rattle.std.proofs.Common.{ℕ, ◌≡◌, true, false, List, [], ◌∷◌, ◌++◌, sym, ap, ◌∙◌, subst, append_assoc, append-nil}
use Rattle.trace_lines.specs.declared.line.Line.{Line}
use Rattle.process_kernel.specs.KernelModel.{with_packet, with_poll, Given, Underway, underway_after}
use Rattle.mote_node.specs.Turn.{Node, new_node, with_mote, with_lines, received_line, lost_line, collision_line, turn_of}
use Rattle.mote_node.specs.Laws as turns
use Rattle.mote_node.specs.Laws.{Turns, Rests, Takes}
use Rattle.kernel_laws.specs.Going.{GoesWith, AppendsLines, IsNote}
use Rattle.kernel_laws.proofs.Motes.{run_adds, boot_adds, poll_keeps, packet_keeps, note_keeps, in_order}
use Rattle.kernel_laws.proofs.Traces.{run_booted, boot_booted, no_lines_first}
use Rattle.mote_laws.specs.Laws.{TurnKeeps, NewGoesWithNoLines, MotesHandOn}
use Rattle.mote_laws.proofs.EachTurn.{AreTurnSteps, net_turn_holds}

-- the lines before the turn and those of the turn so far agree with its mote
abbrev Goes : List Line → Underway → Type 0
Goes before u = GoesWith (before ++ u.lines) u.mote

-- the same, and the mote was booted
record IsBooted (before : List Line) (u : Underway) : Type 0 where
  goes : Goes before u
  booted : u.mote.booted ≡ true

after_goes : (before : List Line) (u : Underway) (g : Given) → AppendsLines (before ++ u.lines) u.lines g → Goes before (underway_after g)
after_goes before u g h = subst (λ l. GoesWith l g.mote) (append_assoc before u.lines h.added ∙ ap (λ l. before ++ l) (sym h.wrote)) h.goes

-- packets that arrive

note_goes : (before : List Line) (u : Underway) (l : Line) → u.mote.halted ≡ false → IsNote l.what → Goes before u → Goes before (with_lines u (l ∷ []))
note_goes before u l h n g = subst (λ x. GoesWith x u.mote) (append_assoc before u.lines (l ∷ [])) (note_keeps (before ++ u.lines) u.mote l h n g)

steps : (before : List Line) (moment : ℕ) → AreTurnSteps moment (λ u. Goes before u) (λ u. IsBooted before u)
unfolding with_packet with_poll
steps before moment = record {
  collides = λ u a running g. note_goes before u (collision_line moment a) running tt g;
  boots = λ u b g. record {
    goes = after_goes before u _ (boot_adds (before ++ u.lines) u.mote moment u.lines u.sends b g);
    booted = boot_booted (before ++ u.lines) u.mote moment u.lines u.sends b g;
  };
  booted = λ u b g. record { goes = g; booted = b };
  accepts = λ u a running room i. record {
    goes = note_goes before (with_mote u (with_packet u.mote a)) (received_line moment a) running tt (packet_keeps (before ++ u.lines) u.mote a i.goes);
    booted = i.booted;
  };
  loses = λ u a running full i. record { goes = note_goes before u (lost_line moment a) running tt i.goes; booted = i.booted };
  polls = λ u p i. record { goes = poll_keeps (before ++ u.lines) u.mote p i.goes; booted = i.booted };
  runs = λ u i. record {
    goes = after_goes before u _ (run_adds (before ++ u.lines) u.mote moment u.lines u.sends i.booted i.goes);
    booted = run_booted u.mote moment u.lines u.sends i.booted;
  };
}

pub turn_keeps : TurnKeeps
unfolding turn_of
turn_keeps lines moment arrivals n g =
    (net_turn_holds moment (λ u. Goes lines u) (λ u. IsBooted lines u) (steps lines moment) n.collides arrivals (record { mote = n.mote; lines = []; sends = [] }) (rw append-nil g)).goes

pub new_goes : NewGoesWithNoLines
unfolding new_node
new_goes program number queue = no_lines_first program number queue

turns_go : (n last : Node) (given : List turns.TurnInput) (lines : List Line) → Turns n given lines last → (before : List Line) → GoesWith before n.mote → GoesWith (before ++ lines) last.mote
turns_go n last given lines Rests before g = rw append-nil g
turns_go n last given lines (Takes {given = x} {lines = more} past t) before g =
    let k = turns_go _ last _ more t (before ++ (turn_of x.moment x.arrivals n).lines) (turn_keeps before x.moment x.arrivals n g) in
    subst (λ l. GoesWith l last.mote) (append_assoc before (turn_of x.moment x.arrivals n).lines more) k

pub motes_hand_on : MotesHandOn
motes_hand_on program number queue collides given lines last t = in_order lines last.mote (turns_go _ last given lines t [] (new_goes program number queue))

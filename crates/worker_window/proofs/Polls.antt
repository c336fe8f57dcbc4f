-- The possible results of a window, at its end and before a turn.
use Rattle.std.proofs.Common.{◌≡◌, ℕ, not, List, map, drop, Option, Some, None, Result, Ok, Err, option_map, refl, sym, ap, subst}
use Rattle.std.specs.List.{filter}
use Rattle.std.specs.Prelude.{IfSome, MatchOption}
use Rattle.mote_laws.proofs.Stamps.{turns_stamp}
use Rattle.mote_node.specs.Public.{node_in}
use Rattle.mote_node.specs.Turn.{Node}
use Rattle.mote_node.specs.declared.mote.MoteError.{MoteError}
use Rattle.net_agenda.specs.Buckets.{arrival_of}
use Rattle.program_tree.specs.Code.{Tree}
use Rattle.radio_packet.specs.declared.copy.RadioCopy.{RadioCopy}
use Rattle.trace_lines.specs.declared.line.Line.{Line}
use Rattle.window_laws.specs.Order.{in_order}
use Rattle.window_laws.specs.System.{Turned}
use Rattle.window_laws.specs.Windows.{after_lone_turn, is_at, Alone}
use Rattle.worker_window.specs.Laws.{IsAhead}
use Rattle.worker_window.specs.MoteWindow.{Window, LoneNode, HasTurn, IsOver, window_after_turn, EndsAs, node_number}
use Rattle.worker_window.specs.Out.{shown, Gives, out_of}
use Rattle.worker_window.specs.Own.{window_in, course_in, window_over, IsFinished, GivesNoMore}
use Rattle.worker_window.specs.Turns.{MayGive, MayAnswer, TurnsTo, TakesTurn, IsFirstTurn, CanGoOn, HasTurns, RestsAs}
use Rattle.worker_window.specs.declared.out.WindowOut.{WindowOut}
use Rattle.worker_window.specs.declared.own.OwnWindow.{OwnWindow}
use Rattle.window_laws.specs.Windows.Alone.{Rests, Turns}
use Rattle.worker_window.proofs.Ahead.{no_turn_is_past}

-- a window in which no turn is left has its own result
pub own_gives : (p : Tree) (until : ℕ) (own : OwnWindow) → IsFinished p until own → MayGive p until (Some own) (out_of own)
unfolding window_in course_in
own_gives p until own finished = go (node_in p own.mote) refl finished.over
  where
    go : (o : Option Node) → node_in p own.mote ≡ o
        → IfSome (option_map (window_over p until (drop own.next own.copies.items) own.wake own.lines.items own.sends.items) o) IsOver
        → MatchOption (option_map (window_over p until (drop own.next own.copies.items) own.wake own.lines.items own.sends.items) o) (GivesNoMore (course_in p until own) (out_of own)) (λ w. Gives w (out_of own))
    go None e over = record { spent = finished.spent; left = record { failed = e; wake = refl; lines = refl; sends = refl } }
    go (Some n) e over = record {
      last = record { state = n; wake = own.wake; lines = own.lines.items; sends = own.sends.items };
      run = λ system turns. Rests over;
      given = ap (option_map (λ (x : Node). record { state = x; wake = own.wake; lines = own.lines.items; sends = own.sends.items })) e;
    }

pub at_rest : (p : Tree) (until : ℕ) (old : Option OwnWindow) (own : OwnWindow) (out : WindowOut) → Some own ≡ old → IsFinished p until own → out ≡ out_of own → MayGive p until old out
at_rest p until old own out is finished e = rw (← is, e) (own_gives p until own finished)

pub finishes : (p : Tree) (until : ℕ) (old : Option OwnWindow) (own : OwnWindow) (out : WindowOut) → Some own ≡ old → IsFinished p until own → out ≡ out_of own → RestsAs p until old out
unfolding window_in
finishes p until old own out is finished e = rw (← is, e) (record { over = finished.over; made = made (node_in p own.mote) refl })
  where
    made : (o : Option Node) → node_in p own.mote ≡ o → IfSome (option_map (window_over p until (drop own.next own.copies.items) own.wake own.lines.items own.sends.items) o) (λ w. shown w.program (out_of own) ≡ Some w.mote)
    made None e = tt
    made (Some n) e = ap (option_map (λ (x : Node). record { state = x; wake = own.wake; lines = own.lines.items; sends = own.sends.items })) e

-- a turn, and then a run, are a run
turn_before : (w v : Window) (moment : ℕ) (last : LoneNode) → HasTurn moment w → v ≡ window_after_turn moment w → EndsAs v last → EndsAs w last
turn_before w v moment last left made run = λ system turns. (
    let given = in_order (filter (is_at moment) w.copies) in
    let number = node_number w.mote.state in
    let rest : List RadioCopy = filter (λ copy. not (is_at moment copy)) w.copies in
    let after = run_at made system turns in
    let same : node_number (window_after_turn moment w).mote.state ≡ number = (turns_stamp moment (map arrival_of given) w.mote.state).mote in
    let P : ℕ → Type 0 = λ k. Alone system k w.until rest (window_after_turn moment w).mote last in
    let Q : ((number : ℕ) → Node → (moment : ℕ) → List RadioCopy → Turned Node Line) → Type 0 = λ turn. Alone system number w.until rest (after_lone_turn moment number w.mote (turn number w.mote.state moment given)) last in
    Turns moment left.next.quiet left.next.comes left.in_window (subst Q (sym turns) (subst P same after)))
  where
    run_at : v ≡ window_after_turn moment w → EndsAs (window_after_turn moment w) last
    run_at e = subst (λ u. EndsAs u last) e run

gives_before : (w v : Window) (moment : ℕ) (out : WindowOut) → HasTurn moment w → v ≡ window_after_turn moment w → Gives v out → Gives w out
gives_before w v moment out left made g = record {
  last = g.last;
  run = turn_before w v moment g.last left made g.run;
  given = subst (λ u. shown u.program out ≡ Some g.last) made g.given;
}

given_before : (window new : Option Window) (moment : ℕ) (out : WindowOut) (P Q : Type 0) → IfSome window (HasTurn moment) → TurnsTo moment window new
    → MatchOption new P (λ w. Gives w out) → MatchOption window Q (λ w. Gives w out)
given_before None new moment out P Q left turned h = absurd turned
given_before (Some w) None moment out P Q left turned h = absurd turned
given_before (Some w) (Some v) moment out P Q left turned h = gives_before w v moment out left turned h

-- a mote that can continue can still do so after its turn
on_after : (window new : Option Window) (moment : ℕ) → IfSome window (HasTurn moment) → TurnsTo moment window new → CanGoOn window → CanGoOn new
on_after None new moment left turned on = absurd on
on_after (Some w) None moment left turned on = absurd turned
on_after (Some w) (Some v) moment left turned on = let P : Window → Type 0 = IsAhead in subst P (sym turned) (no_turn_is_past w moment left)

pub goes_on : (p : Tree) (until : ℕ) (old new : Option OwnWindow) → TakesTurn p until old new → HasTurns p until old → HasTurns p until new
goes_on p until None new turned on = absurd on
goes_on p until (Some own) None turned on = absurd turned
goes_on p until (Some own) (Some after) turned on = on_after (window_in p until own) (window_in p until after) turned.moment turned.left turned.turned on

pub before_turn : (p : Tree) (until : ℕ) (old : Option OwnWindow) (own new : OwnWindow) → Some own ≡ old
    → IsFirstTurn (window_in p until own) (window_in p until new) → (r : Result WindowOut MoteError) → MayAnswer p until (Some new) r → MayAnswer p until old r
before_turn p until old own new is first (Ok out) h = rw (← is) (given_before (window_in p until own) (window_in p until new) first.moment out (GivesNoMore (course_in p until new) out) (GivesNoMore (course_in p until own) out) first.left first.turned h)
before_turn p until old own new is first (Err e) h = rw (← is) (λ on. h (on_after (window_in p until own) (window_in p until new) first.moment first.left first.turned on))

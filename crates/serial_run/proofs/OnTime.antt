-- In the run of a net the turns of each mote are at rising moments.
use Rattle.std.proofs.Common.{◌≡◌, ℕ, suc, length, ◌<◌, ◌≤◌, true, false, not, ◌&&◌, ◌||◌, nat_le, ltb, eqb, List, [], ◌∷◌, get_or, Option, Some, None, refl, sym, ◌∙◌, subst, arith, zero-le}
use Rattle.std.specs.List.{AllByRecursion}
use Rattle.std.proofs.lemmas.Bool.Decides.{nat_tests}
use Rattle.trace_lines.specs.declared.line.Line.{Line}
use Rattle.radio_packet.specs.declared.copy.RadioCopy.{RadioCopy}
use Rattle.mote_node.specs.declared.mote.Mote.{Mote}
use Rattle.mote_node.specs.Turn.{Node, new_node, is_past, turn_of}
use Rattle.mote_node.specs.Public.{node_in}
use Rattle.mote_net.specs.Net.{NetModel}
use Rattle.window_laws.specs.System.{Turned, IsCopyOf}
use Rattle.window_laws.specs.Forward.{RunsForward}
use Rattle.window_laws.specs.Agenda.{Item, Packet, moment_of, mote_of, is_left, is_from, IsLeast}
use Rattle.window_laws.specs.NetStep.{NetState, boot, stamped, turned_at, turn_at}
use Rattle.window_laws.proofs.Agenda.{due_has}
use Rattle.window_laws.proofs.Ahead.{no_sooner, turn_ahead, turn_every}
use Rattle.window_laws.proofs.Lists.{every_both, every_filter, every_weaker}
use Rattle.window_laws.proofs.Puts.{put_each}
use Rattle.net_agenda.specs.NetSystem.{system_of, tree_at}
use Rattle.serial_run.specs.declared.engine.Engine.{Engine}
use Rattle.serial_run.specs.OnTime.{CanTurn, IsNotAfter, IsOnTime}
use Rattle.serial_run.specs.IsInState.{IsEngineAt}
use Rattle.radio_faults.specs.declared.fault.Fault.{Fault}
use Rattle.serial_run.specs.FaultRun.{net_with}
use Rattle.serial_run.proofs.EachTurn.{each_turn}

-- comparisons of plain numbers
then_later : (t m u k : ℕ) → k ≡ m → (ltb t u || (eqb u t && not (ltb k (suc m)))) ≡ true → t < u
then_later t m u k e h = grind (arith, nat_tests)

above : (t u : ℕ) → t < u → nat_le u t ≡ false
above t u h = grind (arith, nat_tests)

no_turn_after : (at t u : ℕ) (last : Option ℕ) → IsNotAfter at last → at ≤ t → t < u → is_past u last ≡ false
no_turn_after at t u None h le up = refl
no_turn_after at t u (Some last) h le up = above last u (omega arith)

still_after : (at t : ℕ) (last : Option ℕ) → IsNotAfter at last → at ≤ t → IsNotAfter t last
still_after at t None h le = tt
still_after at t (Some last) h le = omega arith

module _ (faults : List Fault) (n : NetModel) where
  turn_ends : (at t m : ℕ) (net : NetState Node Line) → IsNotAfter at (net.states m).last → at ≤ t → IsNotAfter t (turned_at (net_with faults n) t m net).state.last
  unfolding turn_of
  turn_ends at t m net before le =
      each_turn faults n t m net (λ (turned : Turned Node Line). IsNotAfter t turned.state.last) (λ wake later. still_after at t (net.states m).last before le) (λ wake later. low t) (λ wake later e. low t)
    where
      low : (t : ℕ) → t ≤ t
      low t = omega arith

  pub boot_on_time : IsOnTime 0 (boot (net_with faults n))
  unfolding system_of new_node
  boot_on_time = record { coming = from_zero (boot (net_with faults n)).agenda; turned = λ k. tt; ahead = no_turn_yet (boot (net_with faults n)).agenda }
    where
      from_zero : (items : List Item) → AllByRecursion (λ item. 0 ≤ moment_of item) items
      from_zero [] = tt
      from_zero (item ∷ items) = (zero-le, from_zero items)

      no_turn_yet : (items : List Item) → AllByRecursion (λ item. is_past (moment_of item) ((boot (net_with faults n)).states (mote_of item)).last ≡ false) items
      no_turn_yet [] = tt
      no_turn_yet (item ∷ items) = (refl, no_turn_yet items)

  module _ (fine : RunsForward (net_with faults n)) (at t m : ℕ) (net : NetState Node Line) (least : IsLeast t m net.agenda) (on_time : IsOnTime at net) where
    abbrev next : Turned Node Line
    next = turned_at (net_with faults n) t m net

    reached : at ≤ t
    reached = due_has (λ u k. at ≤ u) t m net.agenda least.is_there on_time.coming

    -- events for other motes than the one that takes the turn
    abbrev IsAheadElsewhere : Item → Type 0
    IsAheadElsewhere item = (mote_of item ≡ m → ⊥) → is_past (moment_of item) (net.states (mote_of item)).last ≡ false

    elsewhere : AllByRecursion IsAheadElsewhere (turn_at (net_with faults n) t m net).agenda
    elsewhere =
        turn_every (net_with faults n) IsAheadElsewhere t m net (every_filter _ _ (is_left t m) (λ item h e ne. h) net.agenda on_time.ahead) (λ u e ne. absurd (ne refl))
        (λ s. every_weaker (IsCopyOf (net_with faults n) (stamped t m s)) (λ (copy : RadioCopy). IsAheadElsewhere (Packet copy)) (λ (copy : RadioCopy) h ne. no_turn_after at t copy.at (net.states copy.to).last (on_time.turned copy.to) reached (let l = fine.some_lookahead in let k = h.later in omega arith)) _ (fine.copies_later (stamped t m s)))

    ends : IsNotAfter t next.state.last
    ends = turn_ends at t m net (on_time.turned m) reached

    abbrev later_on : ℕ → Option ℕ
    later_on k = ((turn_at (net_with faults n) t m net).states k).last

    one_ahead : (item : Item) → is_from t (suc m) item ≡ true → IsAheadElsewhere item → is_past (moment_of item) (later_on (mote_of item)) ≡ false
    one_ahead item from h =
        put_each (λ k (x : Node). mote_of item ≡ k → is_past (moment_of item) x.last ≡ false) net.states m next.state
        (λ e. no_turn_after t t (moment_of item) next.state.last ends (omega arith) (then_later t m (moment_of item) (mote_of item) e from))
        (λ k ne e. subst (λ j. is_past (moment_of item) (net.states j).last ≡ false) e (h (λ f. ne (sym e ∙ f)))) (mote_of item) refl

    pub turn_on_time : IsOnTime t (turn_at (net_with faults n) t m net)
    turn_on_time = record {
      coming = every_weaker _ _ (λ item h. no_sooner t (suc m) (moment_of item) (mote_of item) h) _ ahead;
      turned = put_each (λ k (x : Node). IsNotAfter t x.last) net.states m next.state ends (λ k ne. still_after at t (net.states k).last (on_time.turned k) reached);
      ahead = every_weaker _ _ (λ item h. one_ahead item h.0 h.1) _ (every_both _ _ (turn_at (net_with faults n) t m net).agenda ahead elsewhere);
    }
      where
        ahead : AllByRecursion (λ item. is_from t (suc m) item ≡ true) (turn_at (net_with faults n) t m net).agenda
        ahead = turn_ahead (net_with faults n) fine t m net least.is_first

  -- the mote of the next turn can take it
  pub least_can_turn : (at t m : ℕ) (engine : Engine) (net : NetState Node Line) → IsEngineAt faults n engine net → IsOnTime at net → IsLeast t m net.agenda → m < length n.motes
      → (d : Mote) → CanTurn t (node_in (tree_at n m) (get_or engine.motes.items m d))
  least_can_turn at t m engine net in_state on_time least there d = subst (CanTurn t) (sym (in_state.nodes m there d)) now
    where
      now : is_past t (net.states m).last ≡ false
      now = due_has (λ u k. is_past u (net.states k).last ≡ false) t m net.agenda least.is_there on_time.ahead

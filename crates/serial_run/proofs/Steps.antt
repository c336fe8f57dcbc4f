-- A turn of the engine is the turn of the net.
use Rattle.std.proofs.Common.{◌≡◌, ℕ, ◌<◌, Bool, true, false, not, ◌&&◌, ◌||◌, eqb, if◌then◌else◌, List, [], ◌∷◌, ◌++◌, length, map, get_or, slice_set, refl, sym, ap, ◌∙◌, subst, arith, append_assoc, Option, Some, None, option_map, inl, inr, get_or-set_same, get_or-set_other}
use Rattle.std.specs.Prelude.{IfSome, Vec}
use Rattle.std.specs.declared.alloc.Global.{Global}
use Rattle.std.specs.List.{filter, flat_map}
use Rattle.std.proofs.lemmas.Bool.{cases_Bool, cases_eq, eq-eqb}
use Rattle.std.proofs.lemmas.List.{map-append}
use Rattle.radio_packet.specs.declared.arrival.Arrival.{Arrival}
use Rattle.trace_lines.specs.declared.line.Line.{Line}
use Rattle.radio_packet.specs.declared.sent.Sent.{Sent}
use Rattle.mote_node.specs.declared.mote.Mote.{Mote}
use Rattle.mote_node.specs.declared.mote.TurnOut.{TurnOut}
use Rattle.mote_node.specs.Turn.{Node, turn_of}
use Rattle.mote_node.specs.Public.{node_in, turn_given}
use Rattle.kernel_laws.specs.Stamps.{PacketsBear}
use Rattle.mote_laws.proofs.Stamps.{turns_stamp}
use Rattle.mote_net.specs.Net.{NetModel}
use Rattle.mote_net.specs.Report.{line_model}
use Rattle.serial_run.specs.declared.engine.Engine.{Engine}
use Rattle.window_laws.specs.Agenda.{Item, Packet, comes_at, is_wake_of, is_left, wake_items}
use Rattle.net_agenda.specs.Buckets.{HoldsItems, arrivals_at, wake_but_at}
use Rattle.net_agenda.specs.NetSystem.{first_node_in, system_of, tree_at, turned_of}
use Rattle.radio_faults.specs.Off.{boots}
use Rattle.radio_packet.specs.declared.copy.RadioCopy.{RadioCopy}
use Rattle.window_laws.specs.System.{Turned}
use Rattle.serial_run.specs.FaultRun.{net_with, node_again, packet_with}
use Rattle.window_laws.specs.NetStep.{NetState, after_turn, sends_of, stamped, turn_at, turned_at}
use Rattle.serial_run.specs.IsInState.{IsEngineAt, IsWhole, OneTakesTurn, TookTurn, node_turn_on, node_turn_with, own_turn, turn_again}
use Rattle.net_agenda.specs.Traces.{AddsLines}
use Rattle.window_laws.proofs.Lists.{filter_filter, filter_both}
use Rattle.window_laws.proofs.Puts.{put_each}
use Rattle.serial_run.specs.OnTime.{CanTurn}
use Rattle.window_laws.proofs.Agenda.{wakes_other, wakes_own}
use Rattle.serial_run.proofs.EachTurn.{first_number}
use Rattle.serial_run.proofs.Stamped.{stamped_is}
use Rattle.radio_faults.specs.declared.fault.Fault.{Fault}
use Rattle.serial_run.specs.Counted.{all_copies}

-- the outcome of a turn, and the state to which it led
record Tells (o : Option Node) (out : TurnOut) (t : Turned Node Line) : Type 0 where
  node : o ≡ Some t.state
  lines : out.lines.items ≡ t.lines
  sends : out.sends.items ≡ t.sends
  wake : out.wake ≡ t.wake

tells : (o : Option Node) (out : TurnOut) (t : Turned Node Line) → option_map (λ x. turned_of (turn_given out x)) o ≡ Some t → Tells o out t
tells None out t e = cc
tells (Some x) out t e =
    let f : turned_of (turn_given out x) ≡ t = cc in record {
      node = ap (λ (u : Turned Node Line). Some u.state) f;
      lines = ap (λ (u : Turned Node Line). u.lines) f;
      sends = ap (λ (u : Turned Node Line). u.sends) f;
      wake = ap (λ (u : Turned Node Line). u.wake) f;
    }

-- the mote's wake, without one that is due
wake_later : (t m : ℕ) (wake : Option ℕ) → filter (λ item. not (comes_at t m item)) (wake_items m wake) ≡ wake_items m (wake_but_at t wake)
wake_later t m None = refl
wake_later t m (Some u) =
    let f : eqb m m ≡ true = eq-eqb m m refl in
    elim (cases_Bool (eqb u t)) [ inl e ↦ rw (e, f) refl | inr e ↦ rw e refl ]

any_of : {X : Type 0} (xs : List X) (m : ℕ) → m < length xs → X
any_of [] m h = absurd (omega arith)
any_of (x ∷ xs) m h = x

neither : (a b : Bool) → not (a || b) ≡ (not a && not b)
neither true b = refl
neither false b = refl

module _ (n : NetModel) (faults : List Fault) (m t : ℕ) (packets : List Arrival) where
  -- the packets of a mote that is on have the moment of the turn and the mote's number
  pub turn_stamps : (old new : Mote) (out : TurnOut) → CanTurn t (node_in (tree_at n m) old) → IfSome (node_in (tree_at n m) old) (λ x. x.mote.state.mote ≡ m)
      → TookTurn n m (node_turn_on n faults t m packets) old new out → PacketsBear t m out.sends.items
  turn_stamps old new out = of (node_in (tree_at n m) old) (node_in (tree_at n m) new)
    where
      each : (is : Bool) (x : Node) → x.mote.state.mote ≡ m → PacketsBear t m (if is then turn_again n t m packets x else own_turn t packets x).sends
      each true x number = subst (λ k. PacketsBear t k (turn_of t packets (node_again (first_node_in n m) x)).sends) (first_number n m) (turns_stamp t packets (node_again (first_node_in n m) x)).packets
      each false x number = subst (λ k. PacketsBear t k (turn_of t packets x).sends) number (turns_stamp t packets x).packets

      of : (before after : Option Node) → CanTurn t before → IfSome before (λ x. x.mote.state.mote ≡ m)
          → option_map (λ x. turned_of (turn_given out x)) after ≡ option_map (node_turn_on n faults t m packets) before → PacketsBear t m out.sends.items
      of None after can number e = absurd can
      of (Some x) after can number e = subst (PacketsBear t m) (sym (tells after out (node_turn_on n faults t m packets x) e).sends) (each (boots faults m t) x number)

module _ (faults : List Fault) (n : NetModel) (t m : ℕ) (state : NetState Node Line) where
  abbrev turned : Turned Node Line
  turned = node_turn_with n faults t m (arrivals_at t m state.agenda) (state.states m)

  turned_is : turned ≡ turned_at (net_with faults n) t m state
  unfolding system_of
  turned_is = refl

  -- the agenda after a turn, in the order in which the engine builds it
  abbrev pub agenda_after : Option ℕ → List Sent → List Item
  agenda_after wake sends =
      (filter (λ item. not (is_wake_of m item)) (filter (λ item. not (comes_at t m item)) state.agenda) ++ wake_items m wake)
      ++ map Packet (all_copies faults n.radio sends)

  pub in_state_turn : (old new : Engine) (packets : List Arrival) (out : TurnOut)
      → m < length n.motes → IsWhole n old → IsEngineAt faults n old state
      → packets ≡ arrivals_at t m state.agenda
      → OneTakesTurn n faults t packets m old.motes.items new.motes.items out → new.wakes.items ≡ slice_set old.wakes.items m out.wake → PacketsBear t m out.sends.items
      → AddsLines m out.lines.items old.traces.items new.traces.items
      → HoldsItems new.agenda.buckets (agenda_after out.wake out.sends.items)
      → map line_model new.log.items ≡ map line_model old.log.items ++ map (packet_with faults n.radio) out.sends.items
      → IsEngineAt faults n new (turn_at (net_with faults n) t m state)
  unfolding system_of
  in_state_turn old new packets out there whole at packets_are takes put_wake bear adds agenda log = subst (λ (x : Turned Node Line). IsEngineAt faults n new (after_turn (net_with faults n) t m state x)) turned_is (record {
    nodes =
        put_each (λ k (x : Node). k < length n.motes → (d : Mote) → node_in (tree_at n k) (get_or new.motes.items k d) ≡ Some x) state.states m turned.state
        (λ h d. (is d).node)
        (λ k ne h d. ap (node_in (tree_at n k)) (takes.others k ne d) ∙ at.nodes k h d);
    wakes = λ k h d. elim (cases_eq k m) [
      | inl e ↦ subst (λ (j : ℕ). filter (is_wake_of j) after.agenda ≡ wake_items j (get_or new.wakes.items j d)) (sym e)
          (wakes_own t m turned.wake given state.agenda
          ∙ ap (wake_items m) (sym (ap (λ l. get_or l m d) put_wake ∙ (get_or-set_same old.wakes.items m out.wake d kept ∙ is_m.wake))))
      | inr ne ↦ wakes_other t m turned.wake given state.agenda k ne
          ∙ (at.wakes k h d ∙ ap (wake_items k) (sym (ap (λ l. get_or l k d) put_wake ∙ get_or-set_other old.wakes.items m k out.wake d ne)))
    ];
    traces =
        put_each (λ k (x : List Line). k < length n.motes → (d : Vec Line Global) → (get_or new.traces.items k d).items ≡ x) state.traces m (state.traces m ++ turned.lines)
        (λ h d. ap (λ l. (get_or l m d).items) adds.put
        ∙ (ap (λ (v : Vec Line Global). v.items) (get_or-set_same old.traces.items m adds.after d traced)
        ∙ (adds.added d ∙ (ap (λ l. l ++ out.lines.items) (at.traces m there d) ∙ ap (λ l. state.traces m ++ l) is_m.lines))))
        (λ k ne h d. ap (λ l. (get_or l k d).items) adds.put
        ∙ (ap (λ (v : Vec Line Global). v.items) (get_or-set_other old.traces.items m k adds.after d ne) ∙ at.traces k h d));
    log =
        log ∙ (ap (λ l. l ++ map (packet_with faults n.radio) out.sends.items) at.log
        ∙ (ap (λ l. map (packet_with faults n.radio) state.log ++ map (packet_with faults n.radio) l) sent
        ∙ sym (map-append (packet_with faults n.radio) state.log (map (stamped t m) turned.sends))));
    agenda = subst (λ l. HoldsItems new.agenda.buckets l) same agenda;
  })
    where
      kept : m < length old.wakes.items
      kept = let e = whole.wakes in omega arith

      traced : m < length old.traces.items
      traced = let e = whole.traces in omega arith

      after : NetState Node Line
      after = after_turn (net_with faults n) t m state turned

      given : List RadioCopy
      given = flat_map (net_with faults n).copies (sends_of t m turned)

      -- the mote after the turn
      is : (d : Mote) → Tells (node_in (tree_at n m) (get_or new.motes.items m d)) out turned
      is d = tells _ out turned (
          takes.turned d
          ∙ (ap (option_map (node_turn_with n faults t m packets)) (at.nodes m there d) ∙ ap (λ p. Some (node_turn_with n faults t m p (state.states m))) packets_are))

      some : Mote
      some = any_of old.motes.items m (let e = whole.motes in omega arith)

      is_m : Tells (node_in (tree_at n m) (get_or new.motes.items m some)) out turned
      is_m = is some

      sent : out.sends.items ≡ map (stamped t m) turned.sends
      sent = sym (stamped_is t m out.sends.items bear) ∙ ap (map (stamped t m)) is_m.sends

      same : agenda_after out.wake out.sends.items ≡ filter (is_left t m) state.agenda ++ (wake_items m turned.wake ++ map Packet (all_copies faults n.radio (map (stamped t m) turned.sends)))
      same =
          append_assoc _ (wake_items m out.wake) _
          ∙ (ap (λ l. l ++ (wake_items m out.wake ++ map Packet (all_copies faults n.radio out.sends.items)))
          (filter_both (λ item. not (is_wake_of m item)) (λ item. not (comes_at t m item)) (is_left t m) (λ item. neither (comes_at t m item) (is_wake_of m item)) state.agenda)
          ∙ (ap (λ w. filter (is_left t m) state.agenda ++ (wake_items m w ++ map Packet (all_copies faults n.radio out.sends.items))) is_m.wake
          ∙ ap (λ l. filter (is_left t m) state.agenda ++ (wake_items m turned.wake ++ map Packet (all_copies faults n.radio l))) sent))

  -- the mote's wake, if the turn doesn't remove it as a due event
  pub wake_to_drop : (wake other : Option ℕ) (engine : Engine) → m < length n.motes → IsEngineAt faults n engine state
      → (d : Option ℕ) → wake ≡ get_or engine.wakes.items m d → other ≡ wake_but_at t wake
      → filter (is_wake_of m) (filter (λ item. not (comes_at t m item)) state.agenda) ≡ wake_items m other
  wake_to_drop wake other engine there at d kept is =
      filter_filter (is_wake_of m) (λ item. not (comes_at t m item)) state.agenda
      ∙ (ap (filter (λ item. not (comes_at t m item))) (at.wakes m there d)
      ∙ (wake_later t m (get_or engine.wakes.items m d)
      ∙ ap (wake_items m) (ap (wake_but_at t) (sym kept) ∙ sym is)))

-- equal values have the same properties
pub sent_of : {R S : Type 0} (P : R → S → Type 0) {r r' : R} {s s' : S} → r ≡ r' → s ≡ s' → P r s → P r' s'
sent_of P {r} {r'} {s} {s'} e f h = subst (λ x. P x s') e (subst (P r) f h)

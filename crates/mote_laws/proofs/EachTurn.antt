-- If each step of a turn keeps a property, the turn keeps the property.
use Rattle.std.proofs.Common.{ℕ, zero, suc, ◌≡◌, not, ◌&&◌, nat_le, Bool, true, false, if◌then◌else◌, List, [], ◌∷◌, length, refl, sym, subst, append_assoc, append-nil}
use Rattle.program_tree.specs.declared.event.Proc.{Proc}
use Rattle.program_tree.specs.declared.event.Proc.TheVariants.{Etimer, Radio}
use Rattle.mote_timers.specs.TimerLists.{next_expiration_of}
use Rattle.process_kernel.specs.declared.kernel.Ran.{Ran}
use Rattle.process_kernel.specs.declared.kernel.Ran.TheVariants as ran
use Rattle.radio_packet.specs.declared.arrival.Arrival.{Arrival}
use Rattle.trace_lines.specs.declared.line.Line.{Line}
use Rattle.process_kernel.specs.KernelModel.{has_room, with_packet, with_poll, boot_given, run_given, Underway, underway_after, follow, runs_of}
use Rattle.mote_node.specs.Turn.{Node, with_mote, with_lines, received_line, lost_line, collision_line, hear, hear_each, took_some, hear_all, is_collision, with_collisions, most_runs, boot_due, is_some_due, poll_due, work_of, mote_turn, net_turn, turn_of}
use Rattle.mote_node.specs.Laws.{TurnInput, Turns, Rests, Takes}

pub either : (P : Underway → Type 0) (b : Bool) (u v : Underway) → P u → P v → P (if b then u else v)
either P true u v h i = h
either P false u v h i = i

-- a property after a kernel run, and after the runs that follow it
pub follows : (P : Underway → Type 0) (r : Ran) (others : Underway → Underway) (u : Underway) → P u → P (others u) → P (follow r others u)
follows P ran.Halted others u h i = h
follows P (ran.Left zero) others u h i = h
follows P (ran.Left (suc n)) others u h i = i

pub nodes_keep : (P : Node → Type 0) → ((n : Node) (x : TurnInput) → P n → P (turn_of x.moment x.arrivals n).node) → (n last : Node) (given : List TurnInput) (lines : List Line) → Turns n given lines last → P n → P last
nodes_keep P turn n last given lines Rests h = h
nodes_keep P turn n last given lines (Takes {given = x} past t) h = nodes_keep P turn _ last _ _ t (turn n x h)

module _ (moment : ℕ) where
  pub runs_keep : (P : Underway → Type 0) → ((u : Underway) → P u → P (underway_after (run_given moment u.mote u.lines u.sends))) → (most : ℕ) (u : Underway) → P u → P (runs_of most moment u)
  unfolding runs_of
  runs_keep P run zero u h = h
  runs_keep P run (suc most) u h =
      let g = run_given moment u.mote u.lines u.sends in follows P g.ran (runs_of most moment) (underway_after g) (run u h) (runs_keep P run most (underway_after g) (run u h))

  -- One property is true up to the boot of the mote, and another one after it.
  module _ (First Holds : Underway → Type 0) where
    pub record AreTurnSteps : Type 0 where
      pub collides : (u : Underway) (a : Arrival) → u.mote.halted ≡ false → First u → First (with_lines u (collision_line moment a ∷ []))
      pub boots : (u : Underway) → u.mote.booted ≡ false → First u → Holds (underway_after (boot_given moment u.mote u.lines u.sends))
      pub booted : (u : Underway) → u.mote.booted ≡ true → First u → Holds u
      pub accepts : (u : Underway) (a : Arrival) → u.mote.halted ≡ false → has_room u.mote ≡ true → Holds u → Holds (with_lines (with_mote u (with_packet u.mote a)) (received_line moment a ∷ []))
      pub loses : (u : Underway) (a : Arrival) → u.mote.halted ≡ false → has_room u.mote ≡ false → Holds u → Holds (with_lines u (lost_line moment a ∷ []))
      pub polls : (u : Underway) (p : Proc) → Holds u → Holds (with_mote u (with_poll u.mote p))
      pub runs : (u : Underway) → Holds u → Holds (underway_after (run_given moment u.mote u.lines u.sends))

    module _ (steps : AreTurnSteps) where
      record Works (u : Underway) : Type 0 where
        holds : Holds u
        running : u.mote.halted ≡ false

      hear_works : (a : Arrival) (u : Underway) → Works u → Works (hear moment a u)
      unfolding hear with_packet
      hear_works a u w = by (has_room u.mote) refl
        where
          by : (b : Bool) → has_room u.mote ≡ b → Works (if b then with_lines (with_mote u (with_packet u.mote a)) (received_line moment a ∷ []) else with_lines u (lost_line moment a ∷ []))
          by true e = record { holds = steps.accepts u a w.running e w.holds; running = w.running }
          by false e = record { holds = steps.loses u a w.running e w.holds; running = w.running }

      hear_each_works : (packets : List Arrival) (u : Underway) → Works u → Works (hear_each moment packets u)
      hear_each_works [] u w = w
      hear_each_works (a ∷ later) u w = hear_each_works later (hear moment a u) (hear_works a u w)

      hear_all_holds : (packets : List Arrival) (u : Underway) → Works u → Holds (hear_all moment packets u)
      unfolding hear_all
      hear_all_holds packets u w =
          let v = hear_each moment packets u in
          let h = (hear_each_works packets u w).holds in
          either Holds (took_some u.mote v.mote) (with_mote v (with_poll v.mote Radio)) v (steps.polls v Radio h) h

      due_holds : (u : Underway) → Holds u → Holds (with_mote u (poll_due moment u.mote))
      unfolding poll_due
      due_holds u h = by (is_some_due moment (next_expiration_of u.mote.state.timers))
        where
          by : (b : Bool) → Holds (with_mote u (if b then with_poll u.mote Etimer else u.mote))
          by true = steps.polls u Etimer h
          by false = h

      work_holds : (packets : List Arrival) (u : Underway) → Works u → Holds (work_of moment packets u)
      unfolding work_of
      work_holds packets u w =
          let v = hear_all moment packets u in runs_keep Holds steps.runs most_runs (with_mote v (poll_due moment v.mote)) (due_holds v (hear_all_holds packets u w))

      boot_holds : (u : Underway) → First u → Holds (boot_due moment u)
      unfolding boot_due
      boot_holds u h = by u.mote.booted refl
        where
          by : (b : Bool) → u.mote.booted ≡ b → Holds (if b then u else underway_after (boot_given moment u.mote u.lines u.sends))
          by true e = steps.booted u e h
          by false e = steps.boots u e h

      mote_turn_holds : (packets : List Arrival) (u : Underway) → First u → Holds (mote_turn moment packets u)
      unfolding mote_turn
      mote_turn_holds packets u h = by (boot_due moment u) (boot_due moment u).mote.halted refl (boot_holds u h)
        where
          by : (v : Underway) (b : Bool) → v.mote.halted ≡ b → Holds v → Holds (if b then v else work_of moment packets v)
          by v true e k = k
          by v false e k = work_holds packets v (record { holds = k; running = e })

      collisions_first : (packets : List Arrival) (u : Underway) → u.mote.halted ≡ false → First u → First (with_collisions moment packets u)
      collisions_first [] u running h = subst (λ l. First (record u { lines = l })) (sym (append-nil u.lines)) h
      collisions_first (a ∷ packets) u running h =
          let first : Underway = with_lines u (collision_line moment a ∷ []) in
          subst (λ l. First (record u { lines = l })) (append_assoc u.lines (collision_line moment a ∷ []) _) (collisions_first packets first running (steps.collides u a running h))

      not_halted : (collides halted many : Bool) → (collides && (not halted && many)) ≡ true → halted ≡ false
      not_halted true false many e = refl
      not_halted true true many e = absurd (cc)
      not_halted false halted many e = absurd (cc)

      pub net_turn_holds : (collides : Bool) (packets : List Arrival) (u : Underway) → First u → Holds (net_turn collides moment packets u)
      unfolding net_turn
      net_turn_holds collides packets u h = by (collides && is_collision u.mote packets) refl
        where
          by : (b : Bool) → (collides && is_collision u.mote packets) ≡ b → Holds (if b then mote_turn moment [] (with_collisions moment packets u) else mote_turn moment packets u)
          by true e = mote_turn_holds [] _ (collisions_first packets u (not_halted collides u.mote.halted (nat_le 2 (length packets)) e) h)
          by false e = mote_turn_holds packets u h

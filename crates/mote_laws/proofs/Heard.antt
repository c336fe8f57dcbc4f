-- Each packet that arrives at a turn has its line in that turn.
use Rattle.std.proofs.Common.{ℕ, ◌≡◌, ◌&&◌, Bool, true, false, if◌then◌else◌, List, [], ◌∷◌, ◌++◌, map, refl, sym, ap, ◌∙◌, subst, append_assoc, append-nil}
use Rattle.std.specs.List.{All}
use Rattle.std.proofs.lemmas.List.Elements.{All-head, All-tail}
use Rattle.program_tree.specs.declared.event.Proc.TheVariants.{Radio}
use Rattle.radio_packet.specs.declared.arrival.Arrival.{Arrival}
use Rattle.trace_lines.specs.declared.line.Line.{Line}
use Rattle.trace_lines.specs.declared.line.What.{What}
use Rattle.trace_lines.specs.declared.line.What.TheVariants as what
use Rattle.process_kernel.specs.KernelModel.{has_room, with_packet, with_poll, boot_given, run_given, Underway, underway_after, runs_of}
use Rattle.kernel_laws.specs.Going.{IsNote}
use Rattle.kernel_laws.proofs.Steps.{lines_joined}
use Rattle.kernel_laws.proofs.Ring.{boot_tells_packets, run_tells_packets}
use Rattle.mote_node.specs.Turn.{with_mote, with_lines, received_line, lost_line, collision_line, hear, hear_each, took_some, hear_all, is_collision, with_collisions, most_runs, boot_due, poll_due, work_of, mote_turn, net_turn, turn_of}
use Rattle.mote_laws.specs.Ring.{note_of, notes_in, AreHeard, NoneCame, IsReceived, IsLost, BeginWithCollisions, TurnsCollide, TurnsHear}
use Rattle.mote_laws.proofs.EachTurn.{either, runs_keep}

notes_joined : (xs ys : List Line) → notes_in (xs ++ ys) ≡ notes_in xs ++ notes_in ys
notes_joined [] ys = refl
notes_joined (l ∷ xs) ys = ap (λ n. note_of l.what ++ n) (notes_joined xs ys) ∙ sym (append_assoc (note_of l.what) (notes_in xs) (notes_in ys))

no_note : (w : What) → (IsNote w → ⊥) → note_of w ≡ []
no_note (what.Recv f n v) h = absurd (h tt)
no_note (what.Lost f n) h = absurd (h tt)
no_note (what.Collide f n) h = absurd (h tt)
no_note x h = refl

no_notes : (lines : List Line) → All (λ l. IsNote l.what → ⊥) lines → notes_in lines ≡ []
no_notes [] h = refl
no_notes (l ∷ lines) h = rw (no_note l.what (All-head (λ l. IsNote l.what → ⊥) l lines h)) (no_notes lines (All-tail (λ l. IsNote l.what → ⊥) l lines h))

-- these packets were heard from one point of a turn to a later point
record Hears (packets : List Arrival) (u v : Underway) : Type 0 where
  added : List Line
  wrote : v.lines ≡ u.lines ++ added
  heard : AreHeard packets (notes_in added)

-- no packet was heard
record Quiet (u v : Underway) : Type 0 where
  added : List Line
  wrote : v.lines ≡ u.lines ++ added
  none : notes_in added ≡ []

quiet_same : (u : Underway) → Quiet u u
quiet_same u = record { added = []; wrote = sym (append-nil u.lines); none = refl }

quiet_joined : (u v w : Underway) → Quiet u v → Quiet v w → Quiet u w
quiet_joined u v w h i = record {
  added = h.added ++ i.added;
  wrote = lines_joined u.lines v.lines w.lines h.added i.added h.wrote i.wrote;
  none = notes_joined h.added i.added ∙ rw (h.none) (i.none);
}

hears_between : (packets : List Arrival) (t u v w : Underway) → Quiet t u → Hears packets u v → Quiet v w → Hears packets t w
hears_between packets t u v w h k i = record {
  added = h.added ++ (k.added ++ i.added);
  wrote = lines_joined t.lines u.lines w.lines h.added (k.added ++ i.added) h.wrote (lines_joined u.lines v.lines w.lines k.added i.added k.wrote i.wrote);
  heard = subst (AreHeard packets) (sym (notes_joined h.added (k.added ++ i.added) ∙ rw (h.none) (notes_joined k.added i.added ∙ rw (i.none) (append-nil (notes_in k.added))))) k.heard;
}

-- packets

hear_hears : (moment : ℕ) (a : Arrival) (later : List Arrival) (u v : Underway) → Hears later (hear moment a u) v → Hears (a ∷ later) u v
unfolding hear with_packet
hear_hears moment a later u v h = by (has_room u.mote) h
  where
    by : (b : Bool) → Hears later (if b then with_lines (with_mote u (with_packet u.mote a)) (received_line moment a ∷ []) else with_lines u (lost_line moment a ∷ [])) v → Hears (a ∷ later) u v
    by true k = record { added = received_line moment a ∷ k.added; wrote = k.wrote ∙ append_assoc u.lines (received_line moment a ∷ []) k.added; heard = IsReceived k.heard }
    by false k = record { added = lost_line moment a ∷ k.added; wrote = k.wrote ∙ append_assoc u.lines (lost_line moment a ∷ []) k.added; heard = IsLost k.heard }

hear_each_hears : (moment : ℕ) (packets : List Arrival) (u : Underway) → Hears packets u (hear_each moment packets u)
hear_each_hears moment [] u = record { added = []; wrote = sym (append-nil u.lines); heard = NoneCame }
hear_each_hears moment (a ∷ later) u = hear_hears moment a later u _ (hear_each_hears moment later (hear moment a u))

hear_all_hears : (moment : ℕ) (packets : List Arrival) (u : Underway) → Hears packets u (hear_all moment packets u)
unfolding hear_all
hear_all_hears moment packets u =
    let v = hear_each moment packets u in
    let h = hear_each_hears moment packets u in
    by (took_some u.mote v.mote) v h
  where
    by : (b : Bool) (v : Underway) → Hears packets u v → Hears packets u (if b then with_mote v (with_poll v.mote Radio) else v)
    by true v h = record { added = h.added; wrote = h.wrote; heard = h.heard }
    by false v h = h

-- boots and runs

run_quiet : (moment : ℕ) (u : Underway) → Quiet u (underway_after (run_given moment u.mote u.lines u.sends))
run_quiet moment u = let k = run_tells_packets moment u.mote u.lines u.sends in record { added = k.added; wrote = k.wrote; none = no_notes k.added k.hears_none }

boot_quiet : (moment : ℕ) (u : Underway) → Quiet u (boot_due moment u)
unfolding boot_due
boot_quiet moment u =
    let k = boot_tells_packets moment u.mote u.lines u.sends in
    either (λ v. Quiet u v) u.mote.booted u (underway_after (boot_given moment u.mote u.lines u.sends)) (quiet_same u) (record { added = k.added; wrote = k.wrote; none = no_notes k.added k.hears_none })

runs_quiet : (most moment : ℕ) (u : Underway) → Quiet u (runs_of most moment u)
runs_quiet most moment u = runs_keep moment (λ v. Quiet u v) (λ v h. quiet_joined u v (underway_after (run_given moment v.mote v.lines v.sends)) h (run_quiet moment v)) most u (quiet_same u)

work_hears : (moment : ℕ) (packets : List Arrival) (t u : Underway) → Quiet t u → Hears packets t (work_of moment packets u)
unfolding work_of
work_hears moment packets t u q =
    let heard = hear_all moment packets u in
    let v = with_mote heard (poll_due moment heard.mote) in
    let r = runs_quiet most_runs moment v in
    hears_between packets t u heard (runs_of most_runs moment v) q (hear_all_hears moment packets u) (record { added = r.added; wrote = r.wrote; none = r.none })

mote_turn_hears : (moment : ℕ) (packets : List Arrival) (u : Underway) → (mote_turn moment packets u).mote.halted ≡ false → Hears packets u (mote_turn moment packets u)
unfolding mote_turn
mote_turn_hears moment packets u = let b = boot_due moment u in by b b.mote.halted refl (boot_quiet moment u)
  where
    by : (v : Underway) (b : Bool) → v.mote.halted ≡ b → Quiet u v → (if b then v else work_of moment packets v).mote.halted ≡ false → Hears packets u (if b then v else work_of moment packets v)
    by v true e q h = absurd (cc)
    by v false e q h = work_hears moment packets u v q

pub turns_hear : TurnsHear
unfolding turn_of net_turn
turns_hear moment arrivals n apart running =
    let u : Underway = record { mote = n.mote; lines = []; sends = [] } in
    by u (n.collides && is_collision n.mote arrivals) apart refl running
  where
    by : (u : Underway) (b : Bool) → b ≡ false → u.lines ≡ [] → (if b then mote_turn moment [] (with_collisions moment arrivals u) else mote_turn moment arrivals u).mote.halted ≡ false
        → AreHeard arrivals (notes_in (if b then mote_turn moment [] (with_collisions moment arrivals u) else mote_turn moment arrivals u).lines)
    by u true e none h = absurd (cc)
    by u false e none h = let k = mote_turn_hears moment arrivals u h in subst (λ l. AreHeard arrivals (notes_in l)) (sym (k.wrote ∙ ap (λ l. l ++ k.added) none)) k.heard

-- collisions

none_heard : (ws : List What) → AreHeard [] ws → ws ≡ []
none_heard ws NoneCame = refl

-- a turn at which no packet arrives hears no packet
mote_turn_quiet : (moment : ℕ) (u : Underway) → Quiet u (mote_turn moment [] u)
unfolding mote_turn
mote_turn_quiet moment u = let b = boot_due moment u in by b b.mote.halted (boot_quiet moment u)
  where
    by : (v : Underway) (b : Bool) → Quiet u v → Quiet u (if b then v else work_of moment [] v)
    by v true q = q
    by v false q = let h = work_hears moment [] u v q in record { added = h.added; wrote = h.wrote; none = none_heard (notes_in h.added) h.heard }

pub turns_collide : TurnsCollide
unfolding turn_of net_turn
turns_collide moment arrivals n together =
    let u : Underway = record { mote = n.mote; lines = []; sends = [] } in
    by u (n.collides && is_collision n.mote arrivals) together refl
  where
    by : (u : Underway) (b : Bool) → b ≡ true → u.lines ≡ []
        → BeginWithCollisions moment arrivals (if b then mote_turn moment [] (with_collisions moment arrivals u) else mote_turn moment arrivals u).lines
    by u true e none =
        let k = mote_turn_quiet moment (with_collisions moment arrivals u) in
        record { later = k.added; first = k.wrote ∙ ap (λ l. (l ++ map (collision_line moment) arrivals) ++ k.added) none; none = k.none }
    by u false e none = absurd (cc)

-- A turn leaves no packet in the ring.
use Rattle.std.proofs.Common.{ℕ, suc, ◌≡◌, ◌⊎◌, inl, inr, ◌&&◌, nat_lt, Bool, true, false, if◌then◌else◌, List, [], ◌∷◌, length, refl, sym, ap, ◌∙◌, subst, arith}
use Rattle.std.proofs.lemmas.Bool.Decides.{nat_tests}
use Rattle.program_tree.specs.declared.event.Proc.TheVariants.{Etimer, Radio}
use Rattle.program_tree.specs.Code.{Tree}
use Rattle.mote_timers.specs.TimerLists.{next_expiration_of}
use Rattle.radio_packet.specs.declared.arrival.Arrival.{Arrival}
use Rattle.trace_lines.specs.declared.line.Line.{Line}
use Rattle.process_kernel.specs.Posts.{process_poll}
use Rattle.process_kernel.specs.KernelModel.{KernelModel, unbooted, with_poll, boot_given, run_given, Underway, underway_after, runs_of}
use Rattle.kernel_laws.specs.Poll.{PollWaits}
use Rattle.kernel_laws.specs.Ring.{GivesPackets}
use Rattle.kernel_laws.proofs.Ring.{boot_tells_packets}
use Rattle.kernel_laws.proofs.Emptied.{empty_stays, run_empties_ring}
use Rattle.kernel_laws.proofs.Watch.{watches_poll, still_waits, waits_now}
use Rattle.mote_node.specs.Turn.{Node, new_node, with_mote, hear_each, took_some, hear_all, is_collision, with_collisions, boot_due, is_some_due, poll_due, work_of, mote_turn, net_turn, turn_of}
use Rattle.mote_node.specs.Laws as turns
use Rattle.mote_node.specs.Laws.{Turns}
use Rattle.mote_laws.specs.Laws.{first_node}
use Rattle.mote_laws.specs.Ring.{TurnsEmptyRing, PacketsAreAccountedFor}
use Rattle.mote_laws.proofs.EachTurn.{follows, nodes_keep, runs_keep}
use Rattle.mote_laws.proofs.Ring.{run_stays, poll_same, accounts, ring_goes_with_lines}
use Rattle.mote_laws.proofs.Due.{Rested, Watched, hear_each_rested, hear_all_rested, hear_each_timers, poll_due_watched, run_by, IsAsMade, IsInState, boot_due_rested, either_in_state, turn_in_state, first_in_state}

-- no packet is in the ring, unless the mote has halted
record Emptied (m : KernelModel) : Type 0 where
  none : m.halted ≡ false → m.state.ring ≡ []

-- the ring is empty, or a poll of the radio process waits
record Ready (m : KernelModel) : Type 0 where
  ready : m.halted ≡ false → (m.state.ring ≡ []) ⊎ PollWaits Radio m.state

emptied_ready : (m : KernelModel) → Emptied m → Ready m
emptied_ready m e = record { ready = λ h. inl (e.none h) }

-- packets that arrive

none_more : (xs ys : List Arrival) → xs ≡ [] → nat_lt (length xs) (length ys) ≡ false → ys ≡ []
none_more xs [] e h = refl
none_more xs (y ∷ ys) e h = let f : length xs ≡ 0 = ap length e in absurd (grind (arith, nat_tests))

hear_all_ready : (moment : ℕ) (packets : List Arrival) (u : Underway) → Rested u.mote → u.mote.halted ≡ false → Emptied u.mote → Ready (hear_all moment packets u).mote
unfolding hear_all with_poll
hear_all_ready moment packets u r running e =
    let v = hear_each moment packets u in
    let k = hear_each_rested moment packets u r in
    let same = hear_each_timers moment packets u in
    by (took_some u.mote v.mote) refl v refl k (same.1 ∙ running)
  where
    by : (b : Bool) → took_some u.mote (hear_each moment packets u).mote ≡ b → (v : Underway) → hear_each moment packets u ≡ v → Rested v.mote → v.mote.halted ≡ false → Ready (if b then with_mote v (with_poll v.mote Radio) else v).mote
    by true t v q k f = record { ready = λ h. inr (waits_now Radio v.mote.state (k.rest f).radio) }
    by false t v q k f = record { ready = λ h. inl (none_more u.mote.state.ring v.mote.state.ring (e.none running) (subst (λ (w : Underway). took_some u.mote w.mote ≡ false) q t)) }

poll_due_ready : (moment : ℕ) (m : KernelModel) → Ready m → Ready (poll_due moment m)
unfolding poll_due with_poll
poll_due_ready moment m r = by (is_some_due moment (next_expiration_of m.state.timers))
  where
    again : (m.state.ring ≡ []) ⊎ PollWaits Radio m.state → ((process_poll m.state Etimer).ring ≡ []) ⊎ PollWaits Radio (process_poll m.state Etimer)
    again (inl e) = inl ((poll_same m.state Etimer).0 ∙ e)
    again (inr w) = inr (still_waits Radio m.state (process_poll m.state Etimer) (watches_poll Radio m.state Etimer) w)

    by : (b : Bool) → Ready (if b then with_poll m Etimer else m)
    by true = record { ready = λ h. again (r.ready h) }
    by false = r

-- kernel runs

run_empties : (moment : ℕ) (u : Underway) (b : Bool) → u.mote.halted ≡ b → Rested u.mote → Ready u.mote → Emptied (run_given moment u.mote u.lines u.sends).mote
run_empties moment u true e k r =
    let now : (run_given moment u.mote u.lines u.sends).mote.halted ≡ true = ap (λ (v : Underway). v.mote.halted) (run_stays moment u e) ∙ e in record { none = λ h. absurd (cc) }
run_empties moment u false e k r = record { none = λ h. run_empties_ring moment u.mote u.lines u.sends (k.rest e) (r.ready e) h }

runs_emptied : (most moment : ℕ) (u : Underway) → Watched moment u.mote → Emptied u.mote → Emptied (runs_of most moment u).mote
runs_emptied most moment u w e =
    (runs_keep moment (λ v. Watched moment v.mote × Emptied v.mote) (λ v h. (run_by moment v v.mote.halted refl h.0, run_empties moment v v.mote.halted refl h.0.rested (emptied_ready v.mote h.1))) most u (w, e)).1

first_emptied : (most moment : ℕ) (u : Underway) → Watched moment u.mote → Ready u.mote → Emptied (runs_of (suc most) moment u).mote
unfolding runs_of
first_emptied most moment u w r =
    let g = run_given moment u.mote u.lines u.sends in
    let k = run_by moment u u.mote.halted refl w in
    let f = run_empties moment u u.mote.halted refl w.rested r in
    follows (λ v. Emptied v.mote) g.ran (runs_of most moment) (underway_after g) f (runs_emptied most moment (underway_after g) k f)

-- turns

work_emptied : (moment : ℕ) (packets : List Arrival) (u : Underway) → Rested u.mote → u.mote.halted ≡ false → Emptied u.mote → Emptied (work_of moment packets u).mote
unfolding work_of
work_emptied moment packets u r running e =
    let heard = hear_all moment packets u in
    first_emptied 63 moment (with_mote heard (poll_due moment heard.mote)) (poll_due_watched moment heard.mote (hear_all_rested moment packets u r)) (poll_due_ready moment heard.mote (hear_all_ready moment packets u r running e))

boot_emptied : (moment : ℕ) (u : Underway) → Emptied u.mote → u.mote.halted ≡ false → Emptied (boot_due moment u).mote
unfolding boot_due
boot_emptied moment u e running = by u.mote.booted
  where
    k : GivesPackets u.mote u.lines (boot_given moment u.mote u.lines u.sends)
    k = boot_tells_packets moment u.mote u.lines u.sends

    by : (b : Bool) → Emptied (if b then u else underway_after (boot_given moment u.mote u.lines u.sends)).mote
    by true = e
    by false = record { none = λ h. k.holds h ∙ empty_stays u.mote.state.program.receiver u.mote.state.ring k.left k.added (e.none running) k.runs k.hears_none }

unless_emptied : (moment : ℕ) (packets : List Arrival) (u : Underway) (b : Bool) → u.mote.halted ≡ b → Rested u.mote → Emptied u.mote → Emptied (if b then u else work_of moment packets u).mote
unless_emptied moment packets u true e r k = k
unless_emptied moment packets u false e r k = work_emptied moment packets u r e k

-- a mote that has halted does nothing
halted_emptied : (moment : ℕ) (packets : List Arrival) (u : Underway) → Rested u.mote → u.mote.halted ≡ true → Emptied (mote_turn moment packets u).mote
unfolding mote_turn boot_due
halted_emptied moment packets u r e = rw (r.booted, e) (record { none = λ h. absurd (cc) })

first_open : (program : Tree) (number queue : ℕ) → (unbooted program number queue).halted ≡ false
unfolding unbooted
first_open program number queue = refl

mote_turn_emptied : (program : Tree) (number queue moment : ℕ) (packets : List Arrival) (u : Underway) (b : Bool) → u.mote.halted ≡ b → IsAsMade program number queue u.mote ⊎ Rested u.mote → Emptied u.mote → Emptied (mote_turn moment packets u).mote
unfolding mote_turn
mote_turn_emptied program number queue moment packets u true e (inl s) k = let f : u.mote.halted ≡ false = ap (λ m. m.halted) s ∙ first_open program number queue in absurd (cc)
mote_turn_emptied program number queue moment packets u true e (inr r) k = halted_emptied moment packets u r e
mote_turn_emptied program number queue moment packets u false e s k =
    let b = boot_due moment u in unless_emptied moment packets b b.mote.halted refl (boot_due_rested program number queue moment u s) (boot_emptied moment u k e)

net_emptied : (program : Tree) (number queue moment : ℕ) (packets : List Arrival) (u : Underway) (b : Bool) → IsAsMade program number queue u.mote ⊎ Rested u.mote → Emptied u.mote → Emptied (if b then mote_turn moment [] (with_collisions moment packets u) else mote_turn moment packets u).mote
net_emptied program number queue moment packets u true s k = mote_turn_emptied program number queue moment [] (with_collisions moment packets u) u.mote.halted refl s k
net_emptied program number queue moment packets u false s k = mote_turn_emptied program number queue moment packets u u.mote.halted refl s k

turn_emptied : (program : Tree) (number queue : ℕ) (n : Node) (x : turns.TurnInput) → IsInState program number queue n → Emptied n.mote → Emptied (turn_of x.moment x.arrivals n).node.mote
unfolding turn_of net_turn
turn_emptied program number queue n x s k = net_emptied program number queue x.moment x.arrivals (record { mote = n.mote; lines = []; sends = [] }) (n.collides && is_collision n.mote x.arrivals) (either_in_state program number queue n s) k

turns_emptied : (program : Tree) (number queue : ℕ) (n last : Node) (given : List turns.TurnInput) (lines : List Line) → Turns n given lines last → IsInState program number queue n → Emptied n.mote → Emptied last.mote
turns_emptied program number queue n last given lines t s k =
    (nodes_keep (λ m. IsInState program number queue m × Emptied m.mote) (λ m x h. (turn_in_state program number queue m x h.0, turn_emptied program number queue m x h.0 h.1)) n last given lines t (s, k)).1

new_emptied : (program : Tree) (number queue : ℕ) (collides : Bool) → Emptied (first_node program number queue collides).mote
unfolding new_node unbooted
new_emptied program number queue collides = record { none = λ h. refl }

pub turns_empty_ring : TurnsEmptyRing
turns_empty_ring program number queue collides given lines last t running = (turns_emptied program number queue _ last given lines t (first_in_state program number queue collides) (new_emptied program number queue collides)).none running

pub packets_are_accounted_for : PacketsAreAccountedFor
packets_are_accounted_for program number queue collides given lines last t =
    let h = ring_goes_with_lines program number queue collides given lines last t in
    let k = accounts program.receiver [] h.left lines h.runs in
    record {
      handed = k.handed;
      left = h.left;
      all = k.all;
      none_left = λ running. sym (h.holds running) ∙ turns_empty_ring program number queue collides given lines last t running;
      tellings = k.tellings;
      each = k.each;
      among = k.among;
    }

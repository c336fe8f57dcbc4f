-- After each step of a turn the mote is still at rest, and its kernel runs forget no timer.
use Rattle.std.proofs.Common.{ℕ, zero, suc, ◌≡◌, ◌+◌, ◌⊎◌, inl, inr, ◌==◌, ◌||◌, ◌&&◌, nat_lt, nat_le, max, min, Bool, true, false, if◌then◌else◌, List, [], ◌∷◌, ◌++◌, length, map, Option, Some, None, option_map, refl, sym, ap, ◌∙◌, subst, append_assoc, arith}
use Rattle.std.specs.Option.{option_map_or}
use Rattle.std.proofs.lemmas.Bool.Decides.{nat_tests}
use Rattle.program_tree.specs.declared.event.Proc.{Proc}
use Rattle.program_tree.specs.declared.event.Proc.TheVariants.{Etimer, Radio}
use Rattle.program_tree.specs.declared.event.Target.TheVariants.{One}
use Rattle.program_tree.specs.declared.event.SystemEvent.TheVariants.{Timer}
use Rattle.program_tree.specs.Events.{system_number}
use Rattle.program_tree.specs.Code.{Tree}
use Rattle.mote_timers.specs.Numbers.{is_member}
use Rattle.mote_timers.specs.Timer.{expiration, is_due}
use Rattle.mote_timers.specs.TimerLists.{TimerLists, timer_at, new_timers, least, next_expiration_of}
use Rattle.process_kernel.specs.declared.kernel.Ran.{Ran}
use Rattle.process_kernel.specs.declared.kernel.Ran.TheVariants as ran
use Rattle.radio_packet.specs.declared.arrival.Arrival.{Arrival}
use Rattle.trace_lines.specs.declared.line.Line.{Line}
use Rattle.radio_packet.specs.declared.sent.Sent.{Sent}
use Rattle.process_kernel.specs.KernelModel.{most_units, KernelModel, unbooted, has_room, with_packet, with_poll, begun, boot_given, run_given, Underway, underway_after, follow, runs_of}
use Rattle.process_kernel.specs.State.{KernelState, Goes}
use Rattle.process_kernel.specs.Operations.{calls_of}
use Rattle.process_kernel.specs.Posts.{process_poll}
use Rattle.kernel_laws.specs.Poll.{PollWaits, polls_before}
use Rattle.kernel_laws.specs.Due.{IsDueFor, NoneIsDue, ForgetsNone, IsAtRest, HasTelling}
use Rattle.kernel_laws.proofs.Steps.{quiet, poll_quiet}
use Rattle.kernel_laws.proofs.InStep as tables
use Rattle.kernel_laws.proofs.Watch.{watches_poll, waits_now}
use Rattle.kernel_laws.proofs.Due.{boot_forgets_none, run_forgets_none, run_tells_due}
use Rattle.kernel_laws.proofs.Owners.{poll_timers}
use Rattle.kernel_laws.proofs.Traces.{boot_booted, run_booted, no_lines_first}
use Rattle.mote_node.specs.Turn.{Node, new_node, with_mote, with_lines, received_line, lost_line, hear, hear_each, took_some, hear_all, is_collision, with_collisions, most_runs, boot_due, is_some_due, poll_due, work_of, mote_turn, net_turn, turn_of, wake_of, wake_after}
use Rattle.mote_node.specs.Laws as turns
use Rattle.mote_node.specs.Laws.{Turns}
use Rattle.mote_laws.specs.Laws.{first_node}
use Rattle.mote_laws.specs.Due.{WakesForEtimer, TurnsForgetNone, runs_begin, ServesTimers, TurnsServeTimers}
use Rattle.mote_laws.proofs.EachTurn.{either, follows, nodes_keep, runs_keep}
use Rattle.mote_laws.proofs.Stamps as stamps
use Rattle.mote_laws.proofs.Stamps.{now_last}
use Rattle.mote_laws.proofs.Ring.{run_stays}

-- a mote that was booted, and is at rest unless it has halted
pub record Rested (m : KernelModel) : Type 0 where
  pub booted : m.booted ≡ true
  pub rest : m.halted ≡ false → IsAtRest m.state

-- the same, and none of the mote's timers is forgotten at this moment
pub record Watched (moment : ℕ) (m : KernelModel) : Type 0 where
  pub rested : Rested m
  pub forgets : m.halted ≡ false → ForgetsNone moment m.state

-- packets that arrive

packet_rested : (m : KernelModel) (a : Arrival) → Rested m → Rested (with_packet m a)
unfolding with_packet
packet_rested m a r = record { booted = r.booted; rest = λ h. again (r.rest h) }
  where
    again : IsAtRest m.state → IsAtRest (record m.state { ring = m.state.ring ++ a ∷ [] })
    again k = record {
      sound = record { stays = k.sound.stays; fits = k.sound.fits };
      step = (tables.keeps_still m.state _ (record { states = refl; exiting = refl; members = refl }) k.step).step;
      idle = record { called = k.idle.called; exiting = k.idle.exiting };
      can = record { alive = k.can.alive; can_need_poll = k.can.can_need_poll };
      radio = record { alive = k.radio.alive; can_need_poll = k.radio.can_need_poll };
      radio_stays = k.radio_stays;
    }

poll_rests : (s : KernelState) (p : Proc) → IsAtRest s → IsAtRest (process_poll s p)
poll_rests s p k =
    let t = tables.keeps_still s (process_poll s p) (tables.poll_still s p) k.step in record {
      sound = (quiet s (process_poll s p) (poll_quiet s p)).sound k.sound;
      step = t.step;
      idle = record { called = λ j. t.busy.called j ∙ k.idle.called j; exiting = λ j. t.busy.exiting j ∙ k.idle.exiting j };
      can = (watches_poll Etimer s p).etimer.can k.can;
      radio = (watches_poll Etimer s p).radio.can k.radio;
      radio_stays = (watches_poll Etimer s p).radio.listed k.radio_stays;
    }

poll_rested : (m : KernelModel) (p : Proc) → Rested m → Rested (with_poll m p)
unfolding with_poll
poll_rested m p r = record { booted = r.booted; rest = λ h. poll_rests m.state p (r.rest h) }

hear_rested : (moment : ℕ) (a : Arrival) (u : Underway) → Rested u.mote → Rested (hear moment a u).mote
unfolding hear
hear_rested moment a u r =
    either (λ w. Rested w.mote) (has_room u.mote) (with_lines (with_mote u (with_packet u.mote a)) (received_line moment a ∷ [])) (with_lines u (lost_line moment a ∷ [])) (packet_rested u.mote a r) r

pub hear_each_rested : (moment : ℕ) (packets : List Arrival) (u : Underway) → Rested u.mote → Rested (hear_each moment packets u).mote
hear_each_rested moment [] u r = r
hear_each_rested moment (a ∷ later) u r = hear_each_rested moment later (hear moment a u) (hear_rested moment a u r)

pub hear_all_rested : (moment : ℕ) (packets : List Arrival) (u : Underway) → Rested u.mote → Rested (hear_all moment packets u).mote
unfolding hear_all
hear_all_rested moment packets u r =
    let v = hear_each moment packets u in
    let h = hear_each_rested moment packets u r in
    either (λ w. Rested w.mote) (took_some u.mote v.mote) (with_mote v (with_poll v.mote Radio)) v (poll_rested v.mote Radio h) h

-- arriving packets don't change the timers

hear_timers : (moment : ℕ) (a : Arrival) (u : Underway) → ((hear moment a u).mote.state.timers ≡ u.mote.state.timers) × ((hear moment a u).mote.halted ≡ u.mote.halted)
unfolding hear with_packet
hear_timers moment a u = by (has_room u.mote)
  where
    by : (b : Bool) → let v = if b then with_lines (with_mote u (with_packet u.mote a)) (received_line moment a ∷ []) else with_lines u (lost_line moment a ∷ []) in (v.mote.state.timers ≡ u.mote.state.timers) × (v.mote.halted ≡ u.mote.halted)
    by true = (refl, refl)
    by false = (refl, refl)

pub hear_each_timers : (moment : ℕ) (packets : List Arrival) (u : Underway) → ((hear_each moment packets u).mote.state.timers ≡ u.mote.state.timers) × ((hear_each moment packets u).mote.halted ≡ u.mote.halted)
hear_each_timers moment [] u = (refl, refl)
hear_each_timers moment (a ∷ later) u =
    let h = hear_each_timers moment later (hear moment a u) in
    let k = hear_timers moment a u in
    (h.0 ∙ k.0, h.1 ∙ k.1)

pub hear_all_timers : (moment : ℕ) (packets : List Arrival) (u : Underway) → ((hear_all moment packets u).mote.state.timers ≡ u.mote.state.timers) × ((hear_all moment packets u).mote.halted ≡ u.mote.halted)
unfolding hear_all with_poll
hear_all_timers moment packets u =
    let v = hear_each moment packets u in
    let h = hear_each_timers moment packets u in
    by (took_some u.mote v.mote) v h
  where
    by : (b : Bool) (v : Underway) → (v.mote.state.timers ≡ u.mote.state.timers) × (v.mote.halted ≡ u.mote.halted) → let w = if b then with_mote v (with_poll v.mote Radio) else v in (w.mote.state.timers ≡ u.mote.state.timers) × (w.mote.halted ≡ u.mote.halted)
    by true v h = (poll_timers v.mote.state Radio ∙ h.0, h.1)
    by false v h = h

-- if no timer has expired, no timer is due; if one has, etimer is to be polled

above_least : (moment : ℕ) (f : ℕ → ℕ) (ks : List ℕ) (k : ℕ) → is_some_due moment (least (map f ks)) ≡ false → is_member k ks ≡ true → nat_le (f k) moment ≡ false
above_least moment f [] k e h = absurd (cc)
above_least moment f (j ∷ ks) k e h = by (least (map f ks)) e (above_least moment f ks k)
  where
    by : (l : Option ℕ) → nat_le (option_map_or (min (f j)) l (f j)) moment ≡ false → (is_some_due moment l ≡ false → is_member k ks ≡ true → nat_le (f k) moment ≡ false) → nat_le (f k) moment ≡ false
    by None e later = cases (k == j) refl
      where
        cases : (b : Bool) → (k == j) ≡ b → nat_le (f k) moment ≡ false
        cases true q = let same : k ≡ j = grind (arith, nat_tests) in rw same e
        cases false q = later refl (grind (arith, nat_tests))
    by (Some l) e later = cases (k == j) refl
      where
        cases : (b : Bool) → (k == j) ≡ b → nat_le (f k) moment ≡ false
        cases true q = let same : k ≡ j = grind (arith, nat_tests) in rw same (grind (arith, nat_tests))
        cases false q = later (grind (arith, nat_tests)) (grind (arith, nat_tests))

none_due : (moment : ℕ) (l : TimerLists) → is_some_due moment (next_expiration_of l) ≡ false → NoneIsDue moment l
unfolding next_expiration_of
none_due moment l e id owner d =
    let f : is_due moment (timer_at l.timers id) ≡ false = above_least moment (λ k. expiration (timer_at l.timers k)) l.listed id e d.listed in let g = d.due in cc

pub poll_due_watched : (moment : ℕ) (m : KernelModel) → Rested m → Watched moment (poll_due moment m)
unfolding poll_due with_poll
poll_due_watched moment m r = by (is_some_due moment (next_expiration_of m.state.timers)) refl
  where
    waits : (m : KernelModel) → IsAtRest m.state → PollWaits Etimer (with_poll m Etimer).state
    waits m k = waits_now Etimer m.state k.can

    by : (b : Bool) → is_some_due moment (next_expiration_of m.state.timers) ≡ b → Watched moment (if b then with_poll m Etimer else m)
    by true e = record { rested = poll_rested m Etimer r; forgets = λ h. inr (waits m (r.rest h)) }
    by false e = record { rested = r; forgets = λ h. inl (none_due moment m.state.timers e) }

-- kernel runs

pub run_by : (moment : ℕ) (u : Underway) (b : Bool) → u.mote.halted ≡ b → Watched moment u.mote → Watched moment (run_given moment u.mote u.lines u.sends).mote
run_by moment u true e w = subst (λ (v : Underway). Watched moment v.mote) (sym (run_stays moment u e)) w
run_by moment u false e w =
    let f = run_forgets_none moment u.mote u.lines u.sends (w.rested.rest e) (w.forgets e) in
    record { rested = record { booted = run_booted u.mote moment u.lines u.sends w.rested.booted; rest = λ h. (f h).0 }; forgets = λ h. (f h).1 }

runs_watched : (most moment : ℕ) (u : Underway) → Watched moment u.mote → Watched moment (runs_of most moment u).mote
runs_watched most moment u w = runs_keep moment (λ v. Watched moment v.mote) (λ v h. run_by moment v v.mote.halted refl h) most u w

-- a turn of a mote that is new or at rest

abbrev pub IsAsMade : Tree → (number queue : ℕ) → KernelModel → Type 0
IsAsMade program number queue m = m ≡ unbooted program number queue

first_booted : (program : Tree) (number queue : ℕ) → (unbooted program number queue).booted ≡ false
unfolding unbooted
first_booted program number queue = refl

boot_rested : (program : Tree) (number queue moment : ℕ) (lines : List Line) (sends : List Sent) → Rested (boot_given moment (unbooted program number queue) lines sends).mote
boot_rested program number queue moment lines sends = record {
  booted = boot_booted [] (unbooted program number queue) moment lines sends (first_booted program number queue) (no_lines_first program number queue);
  rest = λ h. (boot_forgets_none program number queue moment lines sends h).0;
}

boot_by : (program : Tree) (number queue moment : ℕ) (u : Underway) (b : Bool) → u.mote.booted ≡ b → IsAsMade program number queue u.mote ⊎ Rested u.mote → Rested (if b then u else underway_after (boot_given moment u.mote u.lines u.sends)).mote
boot_by program number queue moment u true e (inl h) = let f : u.mote.booted ≡ false = ap (λ m. m.booted) h ∙ first_booted program number queue in absurd (cc)
boot_by program number queue moment u true e (inr r) = r
boot_by program number queue moment u false e (inl h) = subst (λ m. Rested (boot_given moment m u.lines u.sends).mote) (sym h) (boot_rested program number queue moment u.lines u.sends)
boot_by program number queue moment u false e (inr r) = let f = r.booted in absurd (cc)

pub boot_due_rested : (program : Tree) (number queue moment : ℕ) (u : Underway) → IsAsMade program number queue u.mote ⊎ Rested u.mote → Rested (boot_due moment u).mote
unfolding boot_due
boot_due_rested program number queue moment u s = boot_by program number queue moment u u.mote.booted refl s

work_watched : (moment : ℕ) (packets : List Arrival) (u : Underway) → Rested u.mote → Watched moment (work_of moment packets u).mote
unfolding work_of
work_watched moment packets u r =
    let heard = hear_all moment packets u in
    runs_watched most_runs moment (with_mote heard (poll_due moment heard.mote)) (poll_due_watched moment heard.mote (hear_all_rested moment packets u r))

unless_watched : (moment : ℕ) (packets : List Arrival) (u : Underway) (b : Bool) → u.mote.halted ≡ b → Rested u.mote → Watched moment (if b then u else work_of moment packets u).mote
unless_watched moment packets u true e r = record { rested = r; forgets = λ h. absurd (cc) }
unless_watched moment packets u false e r = work_watched moment packets u r

mote_turn_watched : (program : Tree) (number queue moment : ℕ) (packets : List Arrival) (u : Underway) → IsAsMade program number queue u.mote ⊎ Rested u.mote → Watched moment (mote_turn moment packets u).mote
unfolding mote_turn
mote_turn_watched program number queue moment packets u s =
    let b = boot_due moment u in unless_watched moment packets b b.mote.halted refl (boot_due_rested program number queue moment u s)

net_if : (program : Tree) (number queue moment : ℕ) (packets : List Arrival) (u : Underway) (b : Bool) → IsAsMade program number queue u.mote ⊎ Rested u.mote → Watched moment (if b then mote_turn moment [] (with_collisions moment packets u) else mote_turn moment packets u).mote
net_if program number queue moment packets u true s = mote_turn_watched program number queue moment [] (with_collisions moment packets u) s
net_if program number queue moment packets u false s = mote_turn_watched program number queue moment packets u s

turn_watched : (program : Tree) (number queue moment : ℕ) (packets : List Arrival) (n : Node) → IsAsMade program number queue n.mote ⊎ Rested n.mote → Watched moment (turn_of moment packets n).node.mote
unfolding turn_of net_turn
turn_watched program number queue moment packets n s = net_if program number queue moment packets (record { mote = n.mote; lines = []; sends = [] }) (n.collides && is_collision n.mote packets) s

-- a node that is new, or a node at rest, with no timer forgotten at its last turn
abbrev pub IsInState : Tree → (number queue : ℕ) → Node → Type 0
IsInState program number queue n = (IsAsMade program number queue n.mote × (n.last ≡ None)) ⊎ (Rested n.mote × ((moment : ℕ) → n.last ≡ Some moment → Watched moment n.mote))

pub either_in_state : (program : Tree) (number queue : ℕ) (n : Node) → IsInState program number queue n → IsAsMade program number queue n.mote ⊎ Rested n.mote
either_in_state program number queue n (inl h) = inl h.0
either_in_state program number queue n (inr h) = inr h.0

pub turn_in_state : (program : Tree) (number queue : ℕ) (n : Node) (x : turns.TurnInput) → IsInState program number queue n → IsInState program number queue (turn_of x.moment x.arrivals n).node
turn_in_state program number queue n x s =
    let w = turn_watched program number queue x.moment x.arrivals n (either_in_state program number queue n s) in
    inr (w.rested, λ m e. let same : x.moment ≡ m = same_some x.moment m (sym (now_last x.moment x.arrivals n) ∙ e) in subst (λ k. Watched k (turn_of x.moment x.arrivals n).node.mote) same w)
  where
    same_some : (a b : ℕ) → Some a ≡ Some b → a ≡ b
    same_some a b e = cc

pub first_in_state : (program : Tree) (number queue : ℕ) (collides : Bool) → IsInState program number queue (first_node program number queue collides)
unfolding new_node
first_in_state program number queue collides = inl (refl, refl)

all_in_position : (program : Tree) (number queue : ℕ) (collides : Bool) (given : List turns.TurnInput) (lines : List Line) (last : Node) → Turns (first_node program number queue collides) given lines last → IsInState program number queue last
all_in_position program number queue collides given lines last t = nodes_keep (IsInState program number queue) (turn_in_state program number queue) _ last given lines t (first_in_state program number queue collides)

-- if a poll of etimer waits, the mote wakes at the next moment
wakes_next : (moment : ℕ) (n : Node) → n.last ≡ Some moment → n.mote.halted ≡ false → PollWaits Etimer n.mote.state → wake_of n ≡ Some (moment + 1)
unfolding wake_after
wakes_next moment n e running w = rw (running, e, w.poll_requested) (either (nat_lt 0 (length n.mote.state.queue.events)))
  where
    either : (b : Bool) → (if b || true then Some (moment + 1) else option_map (λ due. max (moment + 1) due) (next_expiration_of n.mote.state.timers)) ≡ Some (moment + 1)
    either true = refl
    either false = refl

pub turns_forget_none : TurnsForgetNone
turns_forget_none program number queue collides given lines last moment t e running = by (all_in_position program number queue collides given lines last t)
  where
    forgets : ForgetsNone moment last.mote.state → NoneIsDue moment last.mote.state.timers ⊎ WakesForEtimer moment last
    forgets (inl n) = inl n
    forgets (inr w) = inr (record { waits = w; wakes = wakes_next moment last e running w })

    by : IsInState program number queue last → NoneIsDue moment last.mote.state.timers ⊎ WakesForEtimer moment last
    by (inl h) = let f = h.1 in absurd (cc)
    by (inr h) = forgets ((h.1 moment e).forgets running)

-- a mote that has halted stays halted

still_halted : (most moment : ℕ) (u : Underway) → u.mote.halted ≡ true → (runs_of most moment u).mote.halted ≡ true
still_halted most moment u e = runs_keep moment (λ v. v.mote.halted ≡ true) (λ v h. ap (λ (w : Underway). w.mote.halted) (run_stays moment v h) ∙ h) most u e

not_halted : (most moment : ℕ) (u : Underway) (b : Bool) → u.mote.halted ≡ b → (runs_of most moment u).mote.halted ≡ false → u.mote.halted ≡ false
not_halted most moment u true e h = let k = still_halted most moment u e in absurd (cc)
not_halted most moment u false e h = e

first_not_halted : (most moment : ℕ) (r : Ran) (v : Underway) → (follow r (runs_of most moment) v).mote.halted ≡ false → v.mote.halted ≡ false
first_not_halted most moment ran.Halted v h = h
first_not_halted most moment (ran.Left zero) v h = h
first_not_halted most moment (ran.Left (suc n)) v h = not_halted most moment v v.mote.halted refl h

-- the first kernel run of a turn

-- the run that begins in this state polls etimer, and the lines are about each timer that is due then
record ServesFrom (moment : ℕ) (u : Underway) (lines : List Line) : Type 0 where
  at_turn : KernelState
  comes : polls_before Etimer (calls_of (most_units + 1)) (begun u.mote moment u.lines u.sends) ≡ Goes tt at_turn
  each : (timer : ℕ) (owner : Proc) → IsDueFor moment at_turn.timers timer owner → HasTelling moment lines (One owner) (system_number Timer) timer

runs_serve : (most moment : ℕ) (u : Underway) → IsAtRest u.mote.state → PollWaits Etimer u.mote.state → u.mote.halted ≡ false → (runs_of (suc most) moment u).mote.halted ≡ false → ServesFrom moment u (runs_of (suc most) moment u).lines
unfolding runs_of
runs_serve most moment u rest waits running h =
    let g = run_given moment u.mote u.lines u.sends in
    let p = run_tells_due moment u.mote u.lines u.sends running rest waits (first_not_halted most moment g.ran (underway_after g) h) in
    let more = follows (λ v. stamps.Goes moment (underway_after g) v) g.ran (runs_of most moment) (underway_after g) (stamps.goes_still moment (underway_after g)) (stamps.runs_go most moment (underway_after g)) in
    record {
      at_turn = p.at_turn;
      comes = p.comes;
      each = λ timer owner d. around u.lines g.lines p.tells.added more.lines _ p.tells.wrote more.wrote (p.tells.each timer owner d);
    }
  where
    around : {owner : Proc} {timer : ℕ} (first second added more third : List Line) → second ≡ first ++ added → third ≡ second ++ more → HasTelling moment added (One owner) (system_number Timer) timer → HasTelling moment third (One owner) (system_number Timer) timer
    around first second added more third e f k = record {
      telling = k.telling;
      tells = k.tells;
      before = first ++ k.before;
      after = k.after ++ more;
      split = f ∙ ap (λ l. l ++ more) (e ∙ ap (λ l. first ++ l) k.split ∙ sym (append_assoc first k.before _)) ∙ append_assoc (first ++ k.before) _ more;
    }

due_comes : (moment : ℕ) (l : TimerLists) (timer : ℕ) (owner : Proc) → IsDueFor moment l timer owner → is_some_due moment (next_expiration_of l) ≡ true
due_comes moment l timer owner d = by (is_some_due moment (next_expiration_of l)) refl
  where
    by : (b : Bool) → is_some_due moment (next_expiration_of l) ≡ b → b ≡ true
    by true e = refl
    by false e = absurd (none_due moment l e timer owner d)

-- etimer is to be polled at the beginning of the kernel runs
record Begins (moment : ℕ) (u : Underway) : Type 0 where
  rest : IsAtRest u.mote.state
  waits : PollWaits Etimer u.mote.state
  running : u.mote.halted ≡ false

polled_begins : (moment : ℕ) (u : Underway) → Rested u.mote → u.mote.halted ≡ false → is_some_due moment (next_expiration_of u.mote.state.timers) ≡ true → Begins moment (with_mote u (poll_due moment u.mote))
unfolding poll_due with_poll
polled_begins moment u r running e = rw e (record { rest = poll_rests u.mote.state Etimer (r.rest running); waits = waits_now Etimer u.mote.state (r.rest running).can; running = running })

heard_begins : (moment : ℕ) (packets : List Arrival) (u : Underway) (timer : ℕ) (owner : Proc) → Rested u.mote → u.mote.halted ≡ false → IsDueFor moment u.mote.state.timers timer owner
    → let heard = hear_all moment packets u in Begins moment (with_mote heard (poll_due moment heard.mote))
heard_begins moment packets u timer owner r running d =
    let h = hear_all_timers moment packets u in
    let v = hear_all moment packets u in
    polled_begins moment v (hear_all_rested moment packets u r) (h.1 ∙ running) (subst (λ l. is_some_due moment (next_expiration_of l) ≡ true) (sym h.0) (due_comes moment u.mote.state.timers timer owner d))

boot_over : (moment : ℕ) (u : Underway) → u.mote.booted ≡ true → boot_due moment u ≡ u
unfolding boot_due
boot_over moment u e = by u.mote.booted e
  where
    by : (b : Bool) → b ≡ true → (if b then u else underway_after (boot_given moment u.mote u.lines u.sends)) ≡ u
    by true e = refl
    by false e = absurd (cc)

-- a turn of a booted mote that doesn't halt in this turn
mote_serves : (moment : ℕ) (packets : List Arrival) (u : Underway) (timer : ℕ) (owner : Proc) → Rested u.mote → IsDueFor moment u.mote.state.timers timer owner → (mote_turn moment packets u).mote.halted ≡ false
    → ServesFrom moment (runs_begin moment packets u) (mote_turn moment packets u).lines
unfolding mote_turn work_of
mote_serves moment packets u timer owner r d h = rw (boot_over moment u r.booted) (by u.mote.halted refl (subst (λ (b : Underway). (if b.mote.halted then b else work_of moment packets b).mote.halted ≡ false) (boot_over moment u r.booted) h))
  where
    by : (b : Bool) → u.mote.halted ≡ b → (if b then u else work_of moment packets u).mote.halted ≡ false
        → let heard = hear_all moment packets u in ServesFrom moment (with_mote heard (poll_due moment heard.mote)) (if b then u else work_of moment packets u).lines
    by true e f = absurd (cc)
    by false e f =
        let heard = hear_all moment packets u in
        let v = with_mote heard (poll_due moment heard.mote) in
        let k = heard_begins moment packets u timer owner r e d in
        runs_serve 63 moment v k.rest k.waits k.running f

net_serves : (moment : ℕ) (packets : List Arrival) (u : Underway) (timer : ℕ) (owner : Proc) (b : Bool) → Rested u.mote → IsDueFor moment u.mote.state.timers timer owner
    → let v = if b then mote_turn moment [] (with_collisions moment packets u) else mote_turn moment packets u in v.mote.halted ≡ false
    → ServesFrom moment (if b then runs_begin moment [] (with_collisions moment packets u) else runs_begin moment packets u) v.lines
net_serves moment packets u timer owner true r d h = mote_serves moment [] (with_collisions moment packets u) timer owner r d h
net_serves moment packets u timer owner false r d h = mote_serves moment packets u timer owner r d h

turn_serves : (moment : ℕ) (packets : List Arrival) (n : Node) (timer : ℕ) (owner : Proc) → Rested n.mote → IsDueFor moment n.mote.state.timers timer owner → (turn_of moment packets n).node.mote.halted ≡ false → ServesTimers moment packets n
unfolding turn_of net_turn
turn_serves moment packets n timer owner r d h =
    let k = net_serves moment packets (record { mote = n.mote; lines = []; sends = [] }) timer owner (n.collides && is_collision n.mote packets) r d h in record { at_turn = k.at_turn; comes = k.comes; each = k.each }

none_listed : (program : Tree) (number queue moment : ℕ) (timer : ℕ) (owner : Proc) → IsDueFor moment (unbooted program number queue).state.timers timer owner → ⊥
unfolding unbooted new_timers
none_listed program number queue moment timer owner d = let h = d.listed in cc

pub turns_serve_timers : TurnsServeTimers
turns_serve_timers program number queue collides given lines n t moment arrivals timer owner d running = by (all_in_position program number queue collides given lines n t)
  where
    by : IsInState program number queue n → ServesTimers moment arrivals n
    by (inl h) = absurd (none_listed program number queue moment timer owner (subst (λ m. IsDueFor moment m.state.timers timer owner) h.0 d))
    by (inr h) = turn_serves moment arrivals n timer owner h.0 d running

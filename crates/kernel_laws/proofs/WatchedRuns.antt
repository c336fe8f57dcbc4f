-- Boots and kernel runs forget no timer.
use Rattle.std.proofs.Common.{ℕ, ◌≡◌, ◌&&◌, ◌⊎◌, inl, inr, Bool, true, false, nat_lt, length, if◌then◌else◌, List, [], ◌∷◌, slice_set, refl, sym, ◌∙◌, subst, arith}
use Rattle.std.specs.List.{All}
use Rattle.std.proofs.lemmas.List.Elements.{All-head}
use Rattle.program_tree.specs.declared.event.Proc.{Proc}
use Rattle.program_tree.specs.declared.event.Proc.TheVariants.{Etimer, Radio}
use Rattle.program_tree.specs.declared.event.Target.{Target}
use Rattle.program_tree.specs.declared.event.Target.TheVariants.{One, All as ToEach}
use Rattle.program_tree.specs.declared.event.SystemEvent.TheVariants.{Poll, Exit}
use Rattle.program_tree.specs.Events.{system_number}
use Rattle.event_queue.specs.declared.queue.Posted.{Posted}
use Rattle.event_queue.specs.Queue.{without_front}
use Rattle.process_kernel.specs.declared.process.ProcessState.{ProcessState}
use Rattle.process_kernel.specs.declared.process.ProcessState.TheVariants.{Off, Running, Called}
use Rattle.process_kernel.specs.declared.process.Member.{Member}
use Rattle.trace_lines.specs.declared.line.What.TheVariants as what
use Rattle.process_kernel.specs.ProcessList.{place_of, is_alive, is_running, is_running_state, is_called_state, process_state, process_needs_poll, is_listed, is_on_list, has_process, with_needs_poll}
use Rattle.process_kernel.specs.State.{KernelState, Outcome, Went, Ends, Goes, write_of, Calls}
use Rattle.process_kernel.specs.Posts.{own_event}
use Rattle.process_kernel.specs.Process.{walk_polls, do_poll, do_poll_if_requested, poll_turn_of, give_of, visit_of, walk_broadcast, deliver_to, deliver_of, do_event, process_run}
use Rattle.kernel_laws.specs.Own.{IsOwnProcess, FitsTarget}
use Rattle.kernel_laws.specs.Going.{SystemStays}
use Rattle.kernel_laws.specs.InStep.{IsInStep, IsIdle}
use Rattle.kernel_laws.specs.Due.{NoneIsDue, ForgetsNone}
use Rattle.kernel_laws.specs.Poll.{CanBePolled, members_before}
use Rattle.kernel_laws.proofs.Steps.{Reach, AreRuns}
use Rattle.kernel_laws.proofs.Delivers.{polls_due_run}
use Rattle.kernel_laws.proofs.InStep as tables
use Rattle.kernel_laws.proofs.Packets.{IfGoes, goes_bind}
use Rattle.kernel_laws.proofs.Timers.{goes_cases}
use Rattle.kernel_laws.proofs.EachStep.{Every, Whatever, Lead, AreLed, fits_no_exit, lead_from, lead_if, lead_goes}
use Rattle.kernel_laws.proofs.Alive.{still_has}
use Rattle.kernel_laws.proofs.PollTurns.{splits, walk_splits, other_led, before_led}
use Rattle.kernel_laws.proofs.Watch.{Watches, chain, watches_still, watches_line, forgets_on}
use Rattle.kernel_laws.proofs.Passes.{Serves}

-- the radio process can be polled, too
pub record RadioIsReady (s : KernelState) : Type 0 where
  pub can : CanBePolled Radio s
  pub listed : is_listed s Radio ≡ true

-- Etimer can be polled, because no process is in a call. The radio process can be polled, too, if it has started.
pub record IsInState (started : Bool) (s : KernelState) : Type 0 where
  pub can : CanBePolled Etimer s
  pub step : IsInStep s
  pub idle : IsIdle s
  pub listed : is_listed s Etimer ≡ true
  pub radio_state : has_process s Radio ≡ true
  pub radio_can_need_poll : nat_lt 2 (length s.needs_poll) ≡ true
  pub radio : started ≡ true → RadioIsReady s

in_state_on : (r : Bool) (s t : KernelState) → IsInState r s → Watches Etimer s t → tables.Keeps s t → IsInState r t
in_state_on r s t h w k = record {
  can = w.etimer.can h.can;
  step = k.step;
  idle = record { called = λ j. k.busy.called j ∙ h.idle.called j; exiting = λ j. k.busy.exiting j ∙ h.idle.exiting j };
  listed = w.etimer.listed h.listed;
  radio_state = w.radio.state h.radio_state;
  radio_can_need_poll = w.radio.can_need_poll h.radio_can_need_poll;
  radio = λ e. let q = h.radio e in record { can = w.radio.can q.can; listed = w.radio.listed q.listed };
}

pub runs_now : (x : ProcessState) → is_alive x ≡ true → is_called_state x ≡ false → is_running_state x ≡ true
runs_now Off a c = absurd (cc)
runs_now Running a c = refl
runs_now Called a c = absurd (cc)

pub etimer_runs : (r : Bool) (s : KernelState) → IsInState r s → is_running s Etimer ≡ true
etimer_runs r s h = runs_now (process_state s Etimer) h.can.alive (h.idle.called 0)

-- no timer is forgotten at this moment
pub record Good (r : Bool) (moment : ℕ) (t : KernelState) : Type 0 where
  pub now_is : t.moment ≡ moment
  pub in_state : IsInState r t
  pub forgets : ForgetsNone moment t

good_on : (r : Bool) (moment : ℕ) (s t : KernelState) → Good r moment s → Watches Etimer s t → tables.Keeps s t → Good r moment t
good_on r moment s t g w k =
    let now : t.moment ≡ moment = w.moment ∙ g.now_is in
    let members_before : ForgetsNone s.moment s = subst (λ n. ForgetsNone n s) (sym g.now_is) g.forgets in
    record { now_is = now; in_state = in_state_on r s t g.in_state w k; forgets = subst (λ n. ForgetsNone n t) now (forgets_on s t w g.in_state.can members_before) }

pub good_leads : (A : Type 0) (r : Bool) (moment : ℕ) (s : KernelState) (o : Outcome A) → Good r moment s → Lead (Watches Etimer) Whatever A s o → tables.Kept A s o → IfGoes (Good r moment) o
good_leads A r moment s (Ends t) g w k = tt
good_leads A r moment s (Goes a t) g w k = good_on r moment s t g w.leads (k.leads.kept g.in_state.step)

-- `needs_poll` of a process is cleared

pub cleared_in_state : (r : Bool) (s : KernelState) (p : Proc) → IsInState r s → IsInState r (with_needs_poll s p false)
unfolding with_needs_poll
cleared_in_state r s p h = record {
  can = record { alive = h.can.alive; can_need_poll = still_has 0 (place_of p) false s.needs_poll h.can.can_need_poll };
  step = (tables.keeps_still s (record s { needs_poll = slice_set s.needs_poll (place_of p) false }) (record { states = refl; exiting = refl; members = refl }) h.step).step;
  idle = record { called = h.idle.called; exiting = h.idle.exiting };
  listed = h.listed;
  radio_state = h.radio_state;
  radio_can_need_poll = still_has 2 (place_of p) false s.needs_poll h.radio_can_need_poll;
  radio = λ e. let q = h.radio e in record { can = record { alive = q.can.alive; can_need_poll = still_has 2 (place_of p) false s.needs_poll q.can.can_need_poll }; listed = q.listed };
}

pub cleared_moment : (s : KernelState) (p : Proc) → (with_needs_poll s p false).moment ≡ s.moment
unfolding with_needs_poll
cleared_moment s p = refl

-- `poll_requested` is cleared
pub unrequested : (r : Bool) (s : KernelState) → IsInState r s → IsInState r (record s { poll_requested = false })
unrequested r s h = record {
  can = record { alive = h.can.alive; can_need_poll = h.can.can_need_poll };
  step = (tables.keeps_still s (record s { poll_requested = false }) (record { states = refl; exiting = refl; members = refl }) h.step).step;
  idle = record { called = h.idle.called; exiting = h.idle.exiting };
  listed = h.listed;
  radio_state = h.radio_state;
  radio_can_need_poll = h.radio_can_need_poll;
  radio = λ e. let q = h.radio e in record { can = record { alive = q.can.alive; can_need_poll = q.can.can_need_poll }; listed = q.listed };
}

-- the state when etimer's turn comes: etimer is on the list, and no timer is due or etimer needs a poll
pub record Comes (r : Bool) (moment : ℕ) (x : Member) (t : KernelState) : Type 0 where
  pub now_is : t.moment ≡ moment
  pub in_state : IsInState r t
  pub there : is_on_list t x ≡ true
  pub due : NoneIsDue moment t.timers ⊎ (process_needs_poll t Etimer ≡ true)

-- the properties of the calls that nest one less deep
pub record AreWatched (calls : Calls) : Type 0 where
  pub led : AreLed (Watches Etimer) Whatever (chain Etimer) IsOwnProcess Every calls
  pub kept : tables.AreKept calls
  pub reach : AreRuns calls
  pub serves : (s : KernelState) → is_running s Etimer ≡ true → CanBePolled Etimer s → IfGoes (Serves s) (calls.call s Etimer (own_event Poll 0))

module _ (calls : Calls) (are : AreWatched calls) where
  -- a call that polls etimer

  served_good : (r : Bool) (moment : ℕ) (s : KernelState) (o : Went) → s.moment ≡ moment → IsInState r s → Lead (Watches Etimer) Whatever (Unit {0}) s o → tables.Kept (Unit {0}) s o → IfGoes (Serves s) o → IfGoes (Good r moment) o
  served_good r moment s (Ends t) e h w k f = tt
  served_good r moment s (Goes a t) e h w k f =
      let now : t.moment ≡ moment = w.leads.moment ∙ e in record { now_is = now; in_state = in_state_on r s t h w.leads (k.leads.kept h.step); forgets = subst (λ n. ForgetsNone n t) now f.forgets }

  -- a poll is not an exit
  pub fits_poll : (p : Proc) → FitsTarget (One p) (own_event Poll 0).number
  fits_poll p = fits_no_exit (Watches Etimer) Whatever (chain Etimer) IsOwnProcess Every p (own_event Poll 0).number refl

  etimer_good : (r : Bool) (moment : ℕ) (s : KernelState) → s.moment ≡ moment → IsInState r s → IfGoes (Good r moment) (calls.call s Etimer (own_event Poll 0))
  etimer_good r moment s e h =
      served_good r moment s _ e h (are.led.call s Etimer (own_event Poll 0) (fits_poll Etimer)) (are.kept.call s Etimer (own_event Poll 0) (λ q. tt)) (are.serves s (etimer_runs r s h) h.can)

  other_good : (r : Bool) (moment : ℕ) (s : KernelState) (p : Proc) → (0 ≡ place_of p → ⊥) → Good r moment s → IfGoes (Good r moment) (calls.call (with_needs_poll s p false) p (own_event Poll 0))
  other_good r moment s p n g = good_leads _ r moment s _ g (other_led Etimer calls are.led s p n) (lead_from tables.KeepsStep Whatever tables.chain _ s _ _ (tables.run_steps.cleared s p) (are.kept.call _ p (own_event Poll 0) (λ q. tt)))

  polled_good : (r : Bool) (moment : ℕ) (s : KernelState) (p : Proc) → Good r moment s → IfGoes (Good r moment) (calls.call (with_needs_poll s p false) p (own_event Poll 0))
  polled_good r moment s Etimer g = etimer_good r moment (with_needs_poll s Etimer false) (cleared_moment s Etimer ∙ g.now_is) (cleared_in_state r s Etimer g.in_state)
  polled_good r moment s x g = other_good r moment s x (λ e. omega arith) g

  turn_good : (r : Bool) (moment : ℕ) (s : KernelState) (x : Member) → Good r moment s → IfGoes (Good r moment) (poll_turn_of calls s x)
  unfolding poll_turn_of
  turn_good r moment s x g = goes_cases (Good r moment) (is_on_list s x && process_needs_poll s x.process) _ _ (λ e. polled_good r moment s x.process g) (λ e. g)

  polls_good : (r : Bool) (moment : ℕ) (ms : List Member) (s : KernelState) → Good r moment s → IfGoes (Good r moment) (walk_polls calls ms s)
  polls_good r moment [] s g = g
  polls_good r moment (x ∷ ms) s g = goes_bind _ _ (Good r moment) (Good r moment) (poll_turn_of calls s x) _ (turn_good r moment s x g) (λ a t h. polls_good r moment ms t h)

  -- before its turn etimer still needs a poll

  comes_by : (r : Bool) (moment : ℕ) (x : Member) (s : KernelState) (o : Went) → s.moment ≡ moment → IsInState r s → x.process ≡ Etimer → is_on_list s x ≡ true → NoneIsDue moment s.timers ⊎ (process_needs_poll s Etimer ≡ true)
      → Lead (Watches Etimer) Whatever (Unit {0}) s o → tables.Kept (Unit {0}) s o → IfGoes (Comes r moment x) o
  comes_by r moment x s (Ends t) e h p there due w k = tt
  comes_by r moment x s (Goes a t) e h p there due w k =
      let now : t.moment ≡ moment = w.leads.moment ∙ e in record { now_is = now; in_state = in_state_on r s t h w.leads (k.leads.kept h.step); there = w.leads.etimer.there x p there; due = still due }
    where
      on : ForgetsNone t.moment t → NoneIsDue moment t.timers ⊎ (process_needs_poll t Etimer ≡ true)
      on (inl n) = inl (subst (λ m. NoneIsDue m t.timers) (w.leads.moment ∙ e) n)
      on (inr f) = inr f.needs_poll

      still : NoneIsDue moment s.timers ⊎ (process_needs_poll s Etimer ≡ true) → NoneIsDue moment t.timers ⊎ (process_needs_poll t Etimer ≡ true)
      still (inl n) = on (w.leads.due refl h.can (subst (λ m. NoneIsDue m s.timers) (sym e) n))
      still (inr m) = inr (w.leads.needs_poll m)

  pub comes : (r : Bool) (moment : ℕ) (x : Member) (s : KernelState) → s.moment ≡ moment → IsInState r s → x.process ≡ Etimer → is_on_list s x ≡ true → NoneIsDue moment s.timers ⊎ (process_needs_poll s Etimer ≡ true) → IfGoes (Comes r moment x) (walk_polls calls (members_before Etimer s.members) s)
  comes r moment x s e h p there due =
      comes_by r moment x s _ e h p there due (before_led Etimer calls are.led s.members s) (tables.polls_kept calls are.kept (members_before Etimer s.members) s)

  at_turn : (r : Bool) (moment : ℕ) (x : Member) (u : KernelState) → x.process ≡ Etimer → Comes r moment x u → IfGoes (Good r moment) (poll_turn_of calls u x)
  unfolding poll_turn_of
  at_turn r moment x u p c = rw (c.there, p) (by (process_needs_poll u Etimer) refl)
    where
      none : process_needs_poll u Etimer ≡ false → NoneIsDue moment u.timers ⊎ (process_needs_poll u Etimer ≡ true) → ForgetsNone moment u
      none e (inl n) = inl n
      none e (inr m) = absurd (cc)

      by : (b : Bool) → process_needs_poll u Etimer ≡ b → IfGoes (Good r moment) (if b then calls.call (with_needs_poll u Etimer false) Etimer (own_event Poll 0) else Goes tt u)
      by true e = etimer_good r moment (with_needs_poll u Etimer false) (cleared_moment u Etimer ∙ c.now_is) (cleared_in_state r u Etimer c.in_state)
      by false e = record { now_is = c.now_is; in_state = c.in_state; forgets = none e c.due }

  walk_good : (r : Bool) (moment : ℕ) (s : KernelState) → s.moment ≡ moment → IsInState r s → NoneIsDue moment s.timers ⊎ (process_needs_poll s Etimer ≡ true) → IfGoes (Good r moment) (walk_polls calls s.members s)
  walk_good r moment s e h due =
      let k = splits Etimer s.members h.listed in
      rw (walk_splits Etimer calls s.members k.member k.after s k.split)
      (goes_bind _ _ (Comes r moment k.member) (Good r moment) (walk_polls calls (members_before Etimer s.members) s) _ (comes r moment k.member s e h k.is_it k.holds due)
      (λ a u c. goes_bind _ _ (Good r moment) (Good r moment) (poll_turn_of calls u k.member) _ (at_turn r moment k.member u k.is_it c) (λ b v g. polls_good r moment k.after v g)))

  polls_due_good : (r : Bool) (moment : ℕ) (s : KernelState) → Good r moment s → IfGoes (Good r moment) (do_poll_if_requested calls s)
  unfolding do_poll_if_requested do_poll
  polls_due_good r moment s g =
      goes_cases (Good r moment) s.poll_requested _ _ (λ e. walk_good r moment (record s { poll_requested = false }) g.now_is (unrequested r s g.in_state) (weaker g.forgets)) (λ e. g)
    where
      weaker : ForgetsNone moment s → NoneIsDue moment s.timers ⊎ (process_needs_poll s Etimer ≡ true)
      weaker (inl n) = inl n
      weaker (inr w) = inr w.needs_poll

  -- an event

  give_led : (s : KernelState) (x : Posted) (p : Proc) (there : Bool) → FitsTarget (One p) x.event.number → Lead (Watches Etimer) Whatever (Unit {0}) s (give_of calls s x p there)
  unfolding give_of write_of
  give_led s x p there f =
      lead_if (Watches Etimer) Whatever (chain Etimer) _ s there _ _ (lead_from (Watches Etimer) Whatever (chain Etimer) _ s _ _ (watches_line Etimer s (what.Take x.serial p)) (are.led.call _ p x.event f)) (lead_goes (Watches Etimer) Whatever (chain Etimer) _ s tt _ (watches_line Etimer s (what.Drop x.serial p)))

  give_good : (r : Bool) (moment : ℕ) (s : KernelState) (x : Posted) (p : Proc) (there : Bool) → FitsTarget (One p) x.event.number → Good r moment s → IfGoes (Good r moment) (give_of calls s x p there)
  give_good r moment s x p there f g = good_leads _ r moment s _ g (give_led s x p there f) (tables.give_kept calls are.kept s x p there)

  walk_broadcast_good : (r : Bool) (moment : ℕ) (x : Posted) (ms : List Member) (s : KernelState) → (x.event.number ≡ system_number Exit → ⊥) → Good r moment s → IfGoes (Good r moment) (walk_broadcast calls x ms s)
  unfolding visit_of
  walk_broadcast_good r moment x [] s f g = g
  walk_broadcast_good r moment x (m ∷ ms) s f g =
      goes_bind _ _ (Good r moment) (Good r moment) (visit_of calls s x m) _
      (goes_bind _ _ (Good r moment) (Good r moment) (do_poll_if_requested calls s) _ (polls_due_good r moment s g) (λ a t h. give_good r moment t x m.process (is_on_list t m) (λ q. absurd (f q)) h))
      (λ a t h. walk_broadcast_good r moment x ms t f h)

  target_good : (r : Bool) (moment : ℕ) (target : Target) (s : KernelState) (x : Posted) → FitsTarget target x.event.number → Good r moment s → IfGoes (Good r moment) (deliver_to target calls s x)
  target_good r moment (One p) s x f g = give_good r moment s x p (is_listed s p) f g
  target_good r moment ToEach s x f g = walk_broadcast_good r moment x s.members s f g

  untaken_good : (r : Bool) (moment : ℕ) (s : KernelState) → Good r moment s → Good r moment (record s { queue = without_front s.queue })
  untaken_good r moment s g = good_on r moment s _ g (watches_still Etimer s _ (record { moment = refl; states = refl; needs_poll = refl; poll_requested = refl; members = refl; timers = refl })) (tables.keeps_still s _ (record { states = refl; exiting = refl; members = refl }) g.in_state.step)

  front_good : (r : Bool) (moment : ℕ) (q : List Posted) (s : KernelState) → s.queue.events ≡ q → SystemStays s → Good r moment s → IfGoes (Good r moment) (do_event calls q s)
  unfolding deliver_of
  front_good r moment [] s e h g = g
  front_good r moment (x ∷ q) s e h g =
      let fits = subst (λ l. All (λ y. FitsTarget y.target y.event.number) l) e h.fits in
      target_good r moment x.target _ x (All-head (λ y. FitsTarget y.target y.event.number) x q fits) (untaken_good r moment s g)

  -- a kernel run

  also_sound : (r : Bool) (moment : ℕ) (s : KernelState) (o : Went) → SystemStays s → Reach (Unit {0}) s o → IfGoes (Good r moment) o → IfGoes (λ t. Good r moment t × SystemStays t) o
  also_sound r moment s (Ends t) h k g = tt
  also_sound r moment s (Goes a t) h k g = (g, k.leads.sound h)

  pub kernel_good : (r : Bool) (moment : ℕ) (s : KernelState) → SystemStays s → Good r moment s → IfGoes (Good r moment) (process_run calls s)
  unfolding process_run
  kernel_good r moment s h g =
      goes_bind _ _ (λ t. Good r moment t × SystemStays t) (Good r moment) (do_poll_if_requested calls s) _ (also_sound r moment s _ h (polls_due_run calls are.reach s) (polls_due_good r moment s g))
      (λ a t k. goes_bind _ _ (Good r moment) (Good r moment) (do_event calls t.queue.events t) _ (front_good r moment t.queue.events t refl k.1 k.0) (λ b u i. i))

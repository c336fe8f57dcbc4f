-- An invariant of each small step: etimer and the radio process can be polled, a poll that was requested still waits,
-- and setting a timer requests a poll of etimer.
use Rattle.std.proofs.Common.{ℕ, ◌≡◌, ◌+◌, ◌<◌, inl, inr, ◌==◌, Bool, true, false, not, if◌then◌else◌, List, [], ◌∷◌, length, Some, refl, sym, ◌∙◌, subst, arith}
use Rattle.std.specs.List.{filter}
use Rattle.std.proofs.lemmas.Bool.Decides.{nat_tests}
use Rattle.program_tree.specs.declared.event.Proc.{Proc}
use Rattle.program_tree.specs.declared.event.Proc.TheVariants.{Own, Etimer, Radio}
use Rattle.mote_timers.specs.Numbers.{is_member}
use Rattle.mote_timers.specs.Timer.{is_due, is_owned_by}
use Rattle.mote_timers.specs.TimerLists.{TimerLists, timer_at, stop_timer, purge_timers}
use Rattle.process_kernel.specs.declared.process.ProcessState.{ProcessState}
use Rattle.process_kernel.specs.declared.process.ProcessState.TheVariants.{Running, Called}
use Rattle.process_kernel.specs.declared.process.Member.{Member}
use Rattle.trace_lines.specs.declared.line.What.{What}
use Rattle.trace_lines.specs.declared.line.What.TheVariants as what
use Rattle.process_kernel.specs.ProcessList.{place_of, is_alive, process_state, process_needs_poll, with_state, with_exiting, with_needs_poll, put_remainder, exiting_of, unlisted_of}
use Rattle.process_kernel.specs.State.{KernelState, with_line}
use Rattle.process_kernel.specs.Posts.{process_poll}
use Rattle.process_kernel.specs.Etimer.{add_timer}
use Rattle.kernel_laws.specs.Own.{IsOwnProcess}
use Rattle.kernel_laws.specs.Poll.{PollWaits, CanBePolled}
use Rattle.kernel_laws.specs.Due.{IsDueFor, NoneIsDue, ForgetsNone}
use Rattle.kernel_laws.proofs.Alive.{Alive, needs_poll_more, alive_still, alive_joined, alive_state, alive_exiting, alive_needs_poll, alive_longer, alive_shorter}
use Rattle.kernel_laws.proofs.Steps.{any_or}
use Rattle.kernel_laws.proofs.Tables.{set_same, set_other, below_of}
use Rattle.kernel_laws.proofs.Timers.{other_timer}
use Rattle.kernel_laws.proofs.EachStep.{Every, Whatever, AreJoined, AreSteps, brackets_of, with_started}

-- an invariant of a step: whether this process still needs a poll
pub record Watches (p : Proc) (s t : KernelState) : Type 0 where
  pub moment : t.moment ≡ s.moment
  pub etimer : Alive Etimer s t
  pub radio : Alive Radio s t
  pub needs_poll : process_needs_poll s p ≡ true → process_needs_poll t p ≡ true
  pub poll_requested : s.poll_requested ≡ true → t.poll_requested ≡ true
  pub due : p ≡ Etimer → CanBePolled Etimer s → NoneIsDue s.moment s.timers → ForgetsNone t.moment t

pub still_waits : (p : Proc) (s t : KernelState) → Watches p s t → PollWaits p s → PollWaits p t
still_waits p s t h w = record { needs_poll = h.needs_poll w.needs_poll; poll_requested = h.poll_requested w.poll_requested }

forgets_by : (p : Proc) (s t : KernelState) → Watches p s t → p ≡ Etimer → CanBePolled Etimer s → ForgetsNone s.moment s → ForgetsNone t.moment t
forgets_by p s t h e c (inl n) = h.due e c n
forgets_by p s t h e c (inr w) = inr (subst (λ q. PollWaits q t) e (still_waits p s t h (subst (λ q. PollWaits q s) (sym e) w)))

pub forgets_on : (s t : KernelState) → Watches Etimer s t → CanBePolled Etimer s → ForgetsNone s.moment s → ForgetsNone t.moment t
forgets_on s t h c f = forgets_by Etimer s t h refl c f

-- none of these values changes
pub record IsStill (s t : KernelState) : Type 0 where
  pub moment : t.moment ≡ s.moment
  pub states : t.states ≡ s.states
  pub needs_poll : t.needs_poll ≡ s.needs_poll
  pub poll_requested : t.poll_requested ≡ s.poll_requested
  pub members : t.members ≡ s.members
  pub timers : t.timers ≡ s.timers

pub etimer_system : place_of Etimer < 3
etimer_system = omega arith

pub radio_system : place_of Radio < 3
radio_system = omega arith

-- a poll is requested
pub waits_now : (p : Proc) (s : KernelState) → CanBePolled p s → PollWaits p (process_poll s p)
unfolding process_poll with_needs_poll
waits_now p s c = rw (c.alive) (record { needs_poll = set_same s.needs_poll (place_of p) true false (below_of (place_of p) (length s.needs_poll) c.can_need_poll); poll_requested = refl })

-- timers that are left

pub is_left : (f : ℕ → Bool) (k : ℕ) (ks : List ℕ) → is_member k (filter f ks) ≡ true → (is_member k ks ≡ true) × (f k ≡ true)
is_left f k [] h = absurd (cc)
is_left f k (j ∷ ks) h = by (f j) refl (k == j) refl (is_left f k ks)
  where
    by : (b : Bool) → f j ≡ b → (c : Bool) → (k == j) ≡ c → (is_member k (filter f ks) ≡ true → (is_member k ks ≡ true) × (f k ≡ true)) → (is_member k (j ∷ ks) ≡ true) × (f k ≡ true)
    by true e true q later = let same : k ≡ j = grind (arith, nat_tests) in (rw q refl, rw same e)
    by true e false q later =
        let there : is_member k (j ∷ filter f ks) ≡ true = subst (λ b. is_member k (if b then j ∷ filter f ks else filter f ks) ≡ true) e h in
        let i = later (grind (arith, nat_tests)) in (any_or (k == j) (is_member k ks) i.0, i.1)
    by false e c q later =
        let there : is_member k (filter f ks) ≡ true = subst (λ b. is_member k (if b then j ∷ filter f ks else filter f ks) ≡ true) e h in
        let i = later there in (any_or (k == j) (is_member k ks) i.0, i.1)

others_due : (moment : ℕ) (l : TimerLists) (x id : ℕ) (owner : Proc) → IsDueFor moment (stop_timer l x) id owner → IsDueFor moment l id owner
unfolding stop_timer
others_due moment l x id owner d =
    let i = is_left (λ k. not (k == x)) id l.listed d.listed in
    let e : (id == x) ≡ false = grind (arith, nat_tests, i.1) in
    let same = other_timer l x id e in
    record { listed = i.0; due = subst (λ t. is_due moment t ≡ true) same d.due; owned = subst (λ t. t.owner ≡ Some owner) same d.owned }

unpurged_due : (moment : ℕ) (l : TimerLists) (p : Proc) (id : ℕ) (owner : Proc) → IsDueFor moment (purge_timers l p) id owner → IsDueFor moment l id owner
unfolding purge_timers
unpurged_due moment l p id owner d =
    record { listed = (is_left (λ k. not (is_owned_by p (timer_at l.timers k))) id l.listed d.listed).0; due = d.due; owned = d.owned }

module _ (p : Proc) where
  pub watches_still : (s t : KernelState) → IsStill s t → Watches p s t
  watches_still s t q = record {
    moment = q.moment;
    etimer = alive_still Etimer etimer_system s t q.states q.needs_poll q.members;
    radio = alive_still Radio radio_system s t q.states q.needs_poll q.members;
    needs_poll = λ e. rw (q.needs_poll) e;
    poll_requested = λ e. q.poll_requested ∙ e;
    due = λ is c n. inl (rw (q.moment, q.timers) n);
  }

  watches_same : (s : KernelState) → Watches p s s
  watches_same s = watches_still s s (record { moment = refl; states = refl; needs_poll = refl; poll_requested = refl; members = refl; timers = refl })

  pub watches_joined : (a b c : KernelState) → Watches p a b → Watches p b c → Watches p a c
  watches_joined a b c h i = record {
    moment = i.moment ∙ h.moment;
    etimer = alive_joined Etimer etimer_system a b c h.etimer i.etimer;
    radio = alive_joined Radio radio_system a b c h.radio i.radio;
    needs_poll = λ x. i.needs_poll (h.needs_poll x);
    poll_requested = λ x. i.poll_requested (h.poll_requested x);
    due = λ is x n. forgets_by p b c i is (h.etimer.can x) (h.due is x n);
  }

  pub chain : AreJoined (Watches p) Whatever
  chain = record { same = watches_same; joined = watches_joined; ended = λ a b c h i. tt }

  -- states, and the processes that need a poll

  watches_state : (s : KernelState) (q : Proc) (x : ProcessState) → is_alive x ≡ true → Watches p s (with_state s q x)
  unfolding with_state
  watches_state s q x alive = record {
    moment = refl;
    etimer = alive_state Etimer etimer_system s q x alive;
    radio = alive_state Radio radio_system s q x alive;
    needs_poll = λ e. e;
    poll_requested = λ e. e;
    due = λ is c n. inl n;
  }

  watches_exiting : (s : KernelState) (q : Proc) → IsOwnProcess q → Watches p s (exiting_of s q)
  unfolding exiting_of with_exiting with_state
  watches_exiting s q own = record {
    moment = refl;
    etimer = alive_exiting Etimer etimer_system s q own;
    radio = alive_exiting Radio radio_system s q own;
    needs_poll = λ e. e;
    poll_requested = λ e. e;
    due = λ is c n. inl n;
  }

  pub watches_poll : (s : KernelState) (q : Proc) → Watches p s (process_poll s q)
  unfolding process_poll with_needs_poll
  watches_poll s q = by (is_alive (process_state s q))
    where
      by : (b : Bool) → Watches p s (if b then record (with_needs_poll s q true) { poll_requested = true } else s)
      by true =
          let e = alive_needs_poll Etimer etimer_system s q true in
          let r = alive_needs_poll Radio radio_system s q true in record {
            moment = refl;
            etimer = record { can = λ c. let k = e.can c in record { alive = k.alive; can_need_poll = k.can_need_poll }; state = e.state; can_need_poll = e.can_need_poll; listed = e.listed; there = e.there };
            radio = record { can = λ c. let k = r.can c in record { alive = k.alive; can_need_poll = k.can_need_poll }; state = r.state; can_need_poll = r.can_need_poll; listed = r.listed; there = r.there };
            needs_poll = λ m. needs_poll_more (place_of p) (place_of q) s.needs_poll m;
            poll_requested = λ f. refl;
            due = λ is c n. inl n;
          }
      by false = watches_same s

  -- `needs_poll` of another process is cleared
  pub watches_cleared : (s : KernelState) (q : Proc) → (place_of p ≡ place_of q → ⊥) → Watches p s (with_needs_poll s q false)
  unfolding with_needs_poll
  watches_cleared s q n = record {
    moment = refl;
    etimer = alive_needs_poll Etimer etimer_system s q false;
    radio = alive_needs_poll Radio radio_system s q false;
    needs_poll = λ e. set_other s.needs_poll (place_of q) (place_of p) false false n ∙ e;
    poll_requested = λ e. e;
    due = λ is c d. inl d;
  }

  -- timers

  watches_set : (s : KernelState) (timers : TimerLists) (timer : ℕ) → Watches p s (add_timer (record s { timers = timers }) timer)
  unfolding add_timer
  watches_set s timers timer =
      let h = watches_poll _ Etimer in record {
        moment = h.moment;
        etimer = alive_joined Etimer etimer_system s _ _ (alive_still Etimer etimer_system s _ refl refl refl) h.etimer;
        radio = alive_joined Radio radio_system s _ _ (alive_still Radio radio_system s _ refl refl refl) h.radio;
        needs_poll = λ e. h.needs_poll e;
        poll_requested = λ e. h.poll_requested e;
        due = λ is c n. inr (waits_now Etimer _ (record { alive = c.alive; can_need_poll = c.can_need_poll }));
      }

  -- fewer timers are due, and no other value changes
  watches_fewer : (s : KernelState) (timers : TimerLists) → ((id : ℕ) (owner : Proc) → IsDueFor s.moment timers id owner → IsDueFor s.moment s.timers id owner) → Watches p s (record s { timers = timers })
  watches_fewer s timers f = record {
    moment = refl;
    etimer = alive_still Etimer etimer_system s _ refl refl refl;
    radio = alive_still Radio radio_system s _ refl refl refl;
    needs_poll = λ e. e;
    poll_requested = λ e. e;
    due = λ is c n. inl (λ id owner d. n id owner (f id owner d));
  }

  pub watches_line : (s : KernelState) (w : What) → Watches p s (with_line s w)
  watches_line s w = watches_still s _ (record { moment = refl; states = refl; needs_poll = refl; poll_requested = refl; members = refl; timers = refl })

  -- the process list

  watches_longer : (s : KernelState) (m : Member) (n : ℕ) → Watches p s (record s { members = m ∷ s.members; started = n })
  watches_longer s m n = record {
    moment = refl;
    etimer = alive_longer Etimer etimer_system s m n;
    radio = alive_longer Radio radio_system s m n;
    needs_poll = λ e. e;
    poll_requested = λ e. e;
    due = λ is c d. inl d;
  }

  watches_started : (s : KernelState) (q : Proc) → Watches p s (with_started s q)
  watches_started s q =
      let a = record s { members = record { process = q; incarnation = s.started } ∷ s.members; started = s.started + 1 } in
      let b = with_state a q Running in
      watches_joined s a _ (watches_longer s _ _) (watches_joined a b _ (watches_state a q Running refl) (watches_still b _ (record { moment = refl; states = refl; needs_poll = refl; poll_requested = refl; members = refl; timers = refl })))

  watches_shorter : (s : KernelState) (q : Proc) → IsOwnProcess q → Watches p s (unlisted_of (with_exiting s q false) q)
  unfolding unlisted_of with_exiting
  watches_shorter s q own = record {
    moment = refl;
    etimer = alive_shorter Etimer etimer_system s q own;
    radio = alive_shorter Radio radio_system s q own;
    needs_poll = λ e. e;
    poll_requested = λ e. e;
    due = λ is c n. inl n;
  }

  pub steps : AreSteps (Watches p) Whatever chain IsOwnProcess Every
  unfolding put_remainder
  steps = record {
    own = λ q own. own;
    brackets = brackets_of (Watches p) Whatever chain IsOwnProcess Every (λ s q o. watches_state s q Called refl) (λ s q o. watches_state s q Running refl) (λ s q o own. watches_exiting s q own)
        (λ s q o own. watches_joined s _ _ (watches_shorter s q own) (watches_line _ (what.Leave q)));
    halts = λ s. tt;
    units = λ s n l. watches_still s _ (record { moment = refl; states = refl; needs_poll = refl; poll_requested = refl; members = refl; timers = refl });
    busy = λ s q. watches_line s (what.Busy q);
    prints = λ s q v o. watches_line s (what.Print (Own q) v);
    polled = watches_poll;
    remainder = λ s p r o. watches_still s _ (record { moment = refl; states = refl; needs_poll = refl; poll_requested = refl; members = refl; timers = refl });
    fresh = λ s p o. watches_still s _ (record { moment = refl; states = refl; needs_poll = refl; poll_requested = refl; members = refl; timers = refl });
    variables = λ s p vs n o l. watches_still s _ (record { moment = refl; states = refl; needs_poll = refl; poll_requested = refl; members = refl; timers = refl });
    sets = λ s t start interval owner there. watches_set s _ t;
    stops = λ s t. watches_fewer s (stop_timer s.timers t) (others_due s.moment s.timers t);
    purges = λ s q. watches_fewer s (purge_timers s.timers q) (unpurged_due s.moment s.timers q);
    callbacks = λ s ts. watches_still s _ (record { moment = refl; states = refl; needs_poll = refl; poll_requested = refl; members = refl; timers = refl });
    semaphores = λ s ns. watches_still s _ (record { moment = refl; states = refl; needs_poll = refl; poll_requested = refl; members = refl; timers = refl });
    full = λ s t e. watches_line s (what.Full t e.number e.word);
    posts = λ s t e f. watches_still s _ (record { moment = refl; states = refl; needs_poll = refl; poll_requested = refl; members = refl; timers = refl });
    sends = λ s v. watches_still s _ (record { moment = refl; states = refl; needs_poll = refl; poll_requested = refl; members = refl; timers = refl });
    starts = λ s q o b h l. watches_started s q;
    ring = record {
      accepted = λ s a later q i r. watches_still s _ (record { moment = refl; states = refl; needs_poll = refl; poll_requested = refl; members = refl; timers = refl });
      refused = λ s a later q i r. watches_still s _ (record { moment = refl; states = refl; needs_poll = refl; poll_requested = refl; members = refl; timers = refl });
      deaf = λ s a later i r. watches_still s _ (record { moment = refl; states = refl; needs_poll = refl; poll_requested = refl; members = refl; timers = refl });
      halts = λ s later. tt;
    };
  }

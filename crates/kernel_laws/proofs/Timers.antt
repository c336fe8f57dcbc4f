-- Etimer's poll: each timer that is due gets its line.
use Rattle.std.proofs.Common.{ℕ, zero, suc, ◌≡◌, ◌≤◌, ◌==◌, not, length, Bool, true, false, if◌then◌else◌, List, [], ◌∷◌, ◌++◌, Option, Some, None, refl, sym, ap, subst, ◌∙◌, append_assoc, arith}
use Rattle.std.proofs.lemmas.Bool.{eqb-true, eqb-false}
use Rattle.std.proofs.lemmas.Bool.Decides.{nat_tests}
use Rattle.std.proofs.lemmas.List.{get_or-set_other}
use Rattle.program_tree.specs.declared.event.Proc.{Proc}
use Rattle.program_tree.specs.declared.event.Proc.TheVariants.{Etimer}
use Rattle.program_tree.specs.declared.event.Target.TheVariants.{One}
use Rattle.program_tree.specs.declared.event.Event.{Event}
use Rattle.program_tree.specs.declared.event.SystemEvent.TheVariants.{Poll, Timer}
use Rattle.program_tree.specs.Events.{system_number}
use Rattle.mote_timers.specs.Numbers.{is_member}
use Rattle.mote_timers.specs.Timer.{is_due, unset}
use Rattle.mote_timers.specs.TimerLists.{TimerLists, timer_at, stop_timer}
use Rattle.mote_timers.proofs.NumberLists.{is_member-filter}
use Rattle.trace_lines.specs.declared.line.Line.{Line}
use Rattle.process_kernel.specs.State.{KernelState, Went, Ends, Goes}
use Rattle.process_kernel.specs.Posts.{own_event, is_system_event, process_post, process_poll}
use Rattle.process_kernel.specs.Etimer.{fired_of, post_due, walk_timers, walks_of, pass_of, etimer_process}
use Rattle.process_kernel.proofs.Walks.{fewer_without}
use Rattle.process_kernel.specs.ProcessList.{is_alive, process_state, with_needs_poll}
use Rattle.kernel_laws.specs.Polled.{TellsPost, TellsOfPost, DueTimersArePosted}
use Rattle.kernel_laws.proofs.Packets.{IfGoes, Offered, WritesOne, post_offers, goes_bind}
use Rattle.kernel_laws.specs.Own.{IsOwnProcess}
use Rattle.kernel_laws.proofs.EachStep.{Every, walk_timers_led, walks_led}
use Rattle.kernel_laws.proofs.Steps.{GoesOn, Stops, Reach, Reaches, chain, steps}

pub first_member : (x : ℕ) (ts : List ℕ) → is_member x (x ∷ ts) ≡ true
first_member x ts = grind (arith, nat_tests)

pub later_member : (j x : ℕ) (ts : List ℕ) → is_member j ts ≡ true → is_member j (x ∷ ts) ≡ true
later_member j x ts h = grind (arith, nat_tests)

pub further : (x k : ℕ) (ks : List ℕ) → is_member x (k ∷ ks) ≡ true → (x == k) ≡ false → is_member x ks ≡ true
further x k ks h e = grind (arith, nat_tests)

pub other_timer : (l : TimerLists) (x id : ℕ) → (id == x) ≡ false → timer_at (stop_timer l x).timers id ≡ timer_at l.timers id
unfolding stop_timer
other_timer l x id e = get_or-set_other l.timers x id _ unset (eqb-false id x e)

pub other_member : (l : TimerLists) (x id : ℕ) → (id == x) ≡ false → is_member id l.listed ≡ true → is_member id (stop_timer l x).listed ≡ true
unfolding stop_timer
other_member l x id e h = is_member-filter (λ j. not (j == x)) id l.listed (grind (arith, nat_tests)) h

pub fewer : (l : TimerLists) (x k : ℕ) → is_member x l.listed ≡ true → length l.listed ≤ suc k → length (stop_timer l x).listed ≤ k
unfolding stop_timer
fewer l x k h few = let less = fewer_without x l.listed h in omega arith

pub poll_lines : (s : KernelState) → (process_poll s Etimer).lines ≡ s.lines
unfolding process_poll with_needs_poll
poll_lines s = if_same (is_alive (process_state s Etimer))
  where
    if_same : (b : Bool) → (if b then record (with_needs_poll s Etimer true) { poll_requested = true } else s).lines ≡ s.lines
    if_same true = refl
    if_same false = refl

pub poll_timers : (s : KernelState) → (process_poll s Etimer).timers ≡ s.timers
unfolding process_poll with_needs_poll
poll_timers s = if_same (is_alive (process_state s Etimer))
  where
    if_same : (b : Bool) → (if b then record (with_needs_poll s Etimer true) { poll_requested = true } else s).timers ≡ s.timers
    if_same true = refl
    if_same false = refl

pub poll_moment : (s : KernelState) → (process_poll s Etimer).moment ≡ s.moment
unfolding process_poll with_needs_poll
poll_moment s = if_same (is_alive (process_state s Etimer))
  where
    if_same : (b : Bool) → (if b then record (with_needs_poll s Etimer true) { poll_requested = true } else s).moment ≡ s.moment
    if_same true = refl
    if_same false = refl

pub goes_cases : (P : KernelState → Type 0) (b : Bool) (o p : Went) → (b ≡ true → IfGoes P o) → (b ≡ false → IfGoes P p) → IfGoes P (if b then o else p)
goes_cases P true o p h i = h refl
goes_cases P false o p h i = i refl

module _ (id : ℕ) (owner : Proc) where
  -- the timer is on a list of at most this many, is due, and has this owner
  record Waits (few : ℕ) (s : KernelState) : Type 0 where
    pub listed : is_member id s.timers.listed ≡ true
    pub due : is_due s.moment (timer_at s.timers.timers id) ≡ true
    pub owned : (timer_at s.timers.timers id).owner ≡ Some owner
    pub within : length s.timers.listed ≤ few

  abbrev Tells : KernelState → KernelState → Type 0
  Tells s t = TellsOfPost s t (One owner) (system_number Timer) id

  -- if a line is among the last lines, it is among all lines
  tells_behind : (s u t : KernelState) (added : List Line) → u.lines ≡ s.lines ++ added → u.moment ≡ s.moment → Tells u t → Tells s t
  tells_behind s u t added e m h = record {
    telling = h.telling;
    tells = h.tells;
    before = added ++ h.before;
    after = h.after;
    wrote = h.wrote ∙ (rw (e, m) (append_assoc s.lines added _ ∙ ap (λ l. s.lines ++ l) (sym (append_assoc added h.before _))));
  }

  goes_behind : (s u : KernelState) (added : List Line) (o : Went) → u.lines ≡ s.lines ++ added → u.moment ≡ s.moment → IfGoes (Tells u) o → IfGoes (Tells s) o
  goes_behind s u added (Ends t) e m h = tt
  goes_behind s u added (Goes a t) e m h = tells_behind s u t added e m h

  -- the line of the timer was written first, and other lines after it
  traced_first : (s v u : KernelState) (o : Went) → (w : WritesOne s v) → TellsPost (One owner) (system_number Timer) id w.telling → u.lines ≡ v.lines → Reaches u o → IfGoes (Tells s) o
  traced_first s v u (Ends t) w h e r = tt
  traced_first s v u (Goes a t) w h e r = record {
    telling = w.telling;
    tells = h;
    before = [];
    after = r.added;
    wrote = r.wrote ∙ (rw (e, w.wrote) (append_assoc s.lines _ r.added));
  }

  waits_same : (few : ℕ) (s t : KernelState) → t.timers ≡ s.timers → t.moment ≡ s.moment → Waits few s → Waits few t
  waits_same few s t e m h = record { listed = rw e h.listed; due = rw (e, m) h.due; owned = rw e h.owned; within = rw e h.within }

  fired_waits : (k x : ℕ) (s : KernelState) → (id == x) ≡ false → is_member x s.timers.listed ≡ true → Waits (suc k) s → Waits k (fired_of s x)
  unfolding fired_of
  fired_waits k x s e there h = record {
    listed = other_member s.timers x id e h.listed;
    due = rw (other_timer s.timers x id e) h.due;
    owned = rw (other_timer s.timers x id e) h.owned;
    within = fewer s.timers x k there h.within;
  }

  fired_lines : (s : KernelState) (x : ℕ) → (fired_of s x).lines ≡ s.lines
  unfolding fired_of
  fired_lines s x = refl

  fired_moment : (s : KernelState) (x : ℕ) → (fired_of s x).moment ≡ s.moment
  unfolding fired_of
  fired_moment s x = refl

  -- the rest of a walk
  abbrev Goes_on : (again : KernelState → Went) → Type 0
  Goes_on again = (s : KernelState) → Reach (Unit {0}) s (again s)

  abbrev Again : (few : ℕ) → (again : KernelState → Went) → Type 0
  Again few again = (s : KernelState) → Waits few s → IfGoes (Tells s) (again s)

  -- the event of a timer was offered to this owner, and the walk continues
  offered : (few : ℕ) (again on : KernelState → Went) → Goes_on again → Again few again → Goes_on on → (s u : KernelState) (x : ℕ) (q : Proc) (full : Bool) → (h : Offered (One q) (system_number Timer) x s u) → Waits (suc few) s → is_member x s.timers.listed ≡ true
      → ((id == x) ≡ true → q ≡ owner) → ((id == x) ≡ false → IfGoes (Tells (process_poll u Etimer)) (on (process_poll u Etimer)))
      → IfGoes (Tells s) (if full then on (process_poll u Etimer) else again (fired_of u x))
  offered few again on goes_again again_tells goes_on s u x q true h w there own on_tells = by (id == x) refl
    where
      by : (b : Bool) → (id == x) ≡ b → IfGoes (Tells s) (on (process_poll u Etimer))
      by true e = traced_first s u (process_poll u Etimer) _ h.0 (subst (λ j. TellsPost (One owner) (system_number Timer) j h.0.telling) (sym (eqb-true id x e)) (subst (λ p. TellsPost (One p) (system_number Timer) x h.0.telling) (own e) h.1)) (poll_lines u) (goes_on (process_poll u Etimer)).leads
      by false e = goes_behind s (process_poll u Etimer) _ _ (poll_lines u ∙ h.0.wrote) (poll_moment u ∙ h.0.moment) (on_tells e)
  offered few again on goes_again again_tells goes_on s u x q false h w there own on_tells = by (id == x) refl
    where
      by : (b : Bool) → (id == x) ≡ b → IfGoes (Tells s) (again (fired_of u x))
      by true e = traced_first s u (fired_of u x) _ h.0 (subst (λ j. TellsPost (One owner) (system_number Timer) j h.0.telling) (sym (eqb-true id x e)) (subst (λ p. TellsPost (One p) (system_number Timer) x h.0.telling) (own e) h.1)) (fired_lines u x) (goes_again (fired_of u x)).leads
      by false e =
          goes_behind s (fired_of u x) _ _ (fired_lines u x ∙ h.0.wrote) (fired_moment u x ∙ h.0.moment) (again_tells (fired_of u x) (fired_waits few x u e (rw (h.0.timers) there) (waits_same (suc few) s u h.0.timers h.0.moment w)))

  abbrev AllListed : List ℕ → KernelState → Type 0
  AllListed ts s = (j : ℕ) → is_member j ts ≡ true → is_member j s.timers.listed ≡ true

  same_owner : (s : KernelState) (few x : ℕ) (q : Proc) → Waits few s → (timer_at s.timers.timers x).owner ≡ Some q → (id == x) ≡ true → q ≡ owner
  same_owner s few x q w o e = let f : (timer_at s.timers.timers x).owner ≡ Some owner = subst (λ j. (timer_at s.timers.timers j).owner ≡ Some owner) (eqb-true id x e) w.owned in cc

  not_same : (s : KernelState) (few x : ℕ) → Waits few s → is_due s.moment (timer_at s.timers.timers x) ≡ false → (b : Bool) → (id == x) ≡ b → b ≡ false
  not_same s few x w n false e = refl
  not_same s few x w n true e = let f : is_due s.moment (timer_at s.timers.timers x) ≡ true = subst (λ j. is_due s.moment (timer_at s.timers.timers j) ≡ true) (eqb-true id x e) w.due in absurd (cc)

  not_owned : (s : KernelState) (few x : ℕ) → Waits few s → (timer_at s.timers.timers x).owner ≡ None → (b : Bool) → (id == x) ≡ b → b ≡ false
  not_owned s few x w n false e = refl
  not_owned s few x w n true e = let f : (timer_at s.timers.timers x).owner ≡ Some owner = subst (λ j. (timer_at s.timers.timers j).owner ≡ Some owner) (eqb-true id x e) w.owned in absurd (cc)

  module _ (few : ℕ) (again : KernelState → Went) (goes_again : Goes_on again) (again_tells : Again few again) where
    due_tells : (s : KernelState) (x : ℕ) (ts : List ℕ) (q : Option Proc) → (timer_at s.timers.timers x).owner ≡ q → Waits (suc few) s → is_member id (x ∷ ts) ≡ true → AllListed (x ∷ ts) s
        → ((t : KernelState) → Waits (suc few) t → is_member id ts ≡ true → AllListed ts t → IfGoes (Tells t) (walk_timers again ts t))
        → IfGoes (Tells s) (post_due again (walk_timers again ts) s x q)
    due_tells s x ts None o w there all later =
        later s w (further id x ts there (not_owned s _ x w o (id == x) refl)) (λ j h. all j (later_member j x ts h))
    due_tells s x ts (Some q) o w there all later =
        goes_bind Bool (Unit {0}) (Offered (One q) (system_number Timer) x s) (Tells s) (process_post s (One q) (own_event Timer x)) _ (post_offers s (One q) (own_event Timer x))
        (λ full u h. offered few again (walk_timers again ts) goes_again again_tells (walk_timers_led GoesOn Stops chain IsOwnProcess Every steps again goes_again ts) s u x q full h w (all x (first_member x ts)) (same_owner s _ x q w o)
        (λ e. later (process_poll u Etimer) (waits_same (suc few) s _ (poll_timers u ∙ h.0.timers) (poll_moment u ∙ h.0.moment) w) (further id x ts there e) (λ j k. rw (poll_timers u ∙ h.0.timers) (all j (later_member j x ts k)))))

    walk_tells : (ts : List ℕ) (s : KernelState) → Waits (suc few) s → is_member id ts ≡ true → AllListed ts s → IfGoes (Tells s) (walk_timers again ts s)
    walk_tells [] s w there all = absurd (cc)
    walk_tells (x ∷ ts) s w there all =
        goes_cases (Tells s) (is_due s.moment (timer_at s.timers.timers x)) _ _
        (λ due. due_tells s x ts _ refl w there all (walk_tells ts))
        (λ late. walk_tells ts s w (further id x ts there (not_same s _ x w late (id == x) refl)) (λ j h. all j (later_member j x ts h)))

  none_waits : (s : KernelState) → Waits 0 s → (o : Went) → IfGoes (Tells s) o
  none_waits s w o = absurd (nothing s.timers.listed w.listed w.within)
    where
      nothing : (ks : List ℕ) → is_member id ks ≡ true → length ks ≤ 0 → ⊥
      nothing [] h e = absurd (cc)
      nothing (k ∷ ks) h e = absurd (omega arith)

  walks_tell : (few : ℕ) (s : KernelState) → Waits few s → IfGoes (Tells s) (walks_of few s)
  walks_tell zero s w = none_waits s w (walks_of 0 s)
  walks_tell (suc k) s w = walk_tells k (walks_of k) (walks_led GoesOn Stops chain IsOwnProcess Every steps k) (walks_tell k) s.timers.listed s w w.listed (λ j h. h)

passed : (s t : KernelState) (e : Event) → is_system_event Poll e ≡ true → etimer_process s e ≡ Goes tt t → walks_of (length s.timers.listed) s ≡ Goes tt t
unfolding etimer_process pass_of
passed s t e poll goes = sym (rw poll refl) ∙ goes

pub timers_are_traced : DueTimersArePosted
timers_are_traced s t e timer owner poll goes listed due owned =
    subst (IfGoes (λ u. TellsOfPost s u (One owner) (system_number Timer) timer)) (passed s t e poll goes) (walks_tell timer owner (length s.timers.listed) s (record { listed = listed; due = due; owned = owned; within = omega arith }))

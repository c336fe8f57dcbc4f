-- Etimer's pass forgets no timer, and neither does a call that polls etimer.
use Rattle.std.proofs.Common.{ℕ, zero, suc, ◌≡◌, ◌-◌, ◌≤◌, ◌==◌, ◌^◌, ◌||◌, inl, inr, Bool, true, false, nat_le, length, if◌then◌else◌, List, [], ◌∷◌, Option, Some, None, refl, ◌∙◌, subst, arith}
use Rattle.std.proofs.lemmas.Bool.{eqb-true}
use Rattle.program_tree.specs.declared.event.Proc.{Proc}
use Rattle.program_tree.specs.declared.event.Proc.TheVariants.{Etimer}
use Rattle.program_tree.specs.declared.event.Target.{Target}
use Rattle.program_tree.specs.declared.event.Target.TheVariants.{One}
use Rattle.program_tree.specs.declared.event.Event.{Event}
use Rattle.program_tree.specs.declared.event.SystemEvent.TheVariants.{Poll, Exit, Timer}
use Rattle.program_tree.specs.Events.{system_number}
use Rattle.mote_timers.specs.Numbers.{is_member}
use Rattle.mote_timers.specs.Timer.{is_due}
use Rattle.mote_timers.specs.TimerLists.{timer_at}
use Rattle.protothread.specs.declared.answer.PtState.TheVariants.{Yielded}
use Rattle.process_kernel.specs.declared.process.ProcessState.TheVariants.{Running, Called}
use Rattle.process_kernel.specs.State.{KernelState, Outcome, Went, Ends, Goes, ◌>>=◌, write_of, spend_of, halted_of, Calls}
use Rattle.process_kernel.specs.ProcessList.{is_running, with_state}
use Rattle.process_kernel.specs.Posts.{process_post, process_poll, own_event, is_system_event}
use Rattle.process_kernel.specs.Etimer.{fired_of, post_due, walk_timers, walks_of, pass_of, etimer_process}
use Rattle.process_kernel.specs.Thread.{react_of, has_ended}
use Rattle.process_kernel.specs.Process.{answered, call_process}
use Rattle.kernel_laws.specs.Own.{IsOwnProcess}
use Rattle.kernel_laws.specs.Polled.{TellsOfPost}
use Rattle.kernel_laws.specs.Poll.{PollWaits, CanBePolled}
use Rattle.kernel_laws.specs.Due.{IsDueFor, ForgetsNone, CallsForgetNone}
use Rattle.kernel_laws.proofs.Packets.{IfGoes, goes_if, goes_bind}
use Rattle.kernel_laws.proofs.Timers.{further, fewer, goes_cases, timers_are_traced, first_member, later_member}
use Rattle.kernel_laws.proofs.EachStep.{Every, Whatever, Lead, calls_led, walk_timers_led, walks_led}
use Rattle.kernel_laws.proofs.Alive.{alive_state}
use Rattle.kernel_laws.proofs.Watch.{Watches, chain, steps, IsStill, watches_still, forgets_on, still_waits, waits_now, etimer_system}

abbrev Watched : (A : Type 0) → KernelState → Outcome A → Type 0
Watched A s o = Lead (Watches Etimer) Whatever A s o

led_out : (s t : KernelState) (o : Went) → o ≡ Goes tt t → Watched (Unit {0}) s o → Watches Etimer s t
led_out s t o e h = let k : Watched (Unit {0}) s (Goes tt t) = subst (λ x. Watched (Unit {0}) s x) e h in k.leads

pub calls_forget_none : CallsForgetNone
calls_forget_none depth s t p e fits can none goes =
    forgets_on s t (led_out s t _ goes ((calls_led (Watches Etimer) Whatever (chain Etimer) IsOwnProcess (steps Etimer) depth).call s p e fits)) can none

-- a pass

-- an outcome that continues forgets no timer
abbrev pub Forgets : KernelState → Type 0
Forgets t = ForgetsNone t.moment t

post_still : (s : KernelState) (t : Target) (e : Event) → IfGoes (IsStill s) (process_post s t e)
unfolding process_post write_of
post_still s t e =
    goes_if Bool (IsStill s) (nat_le (2 ^ 62) s.queue.accepted) _ _ tt
    (goes_if Bool (IsStill s) (nat_le s.queue.capacity (length s.queue.events)) _ _
    (record { moment = refl; states = refl; needs_poll = refl; poll_requested = refl; members = refl; timers = refl })
    (record { moment = refl; states = refl; needs_poll = refl; poll_requested = refl; members = refl; timers = refl }))

waits_on : (s : KernelState) (o : Went) → PollWaits Etimer s → Watched (Unit {0}) s o → IfGoes Forgets o
waits_on s (Ends t) w h = tt
waits_on s (Goes a t) w h = inr (still_waits Etimer s t h.leads w)

-- each timer that is due is on this list
abbrev AreAhead : List ℕ → KernelState → Type 0
AreAhead ts s = (id : ℕ) (owner : Proc) → IsDueFor s.moment s.timers id owner → is_member id ts ≡ true

abbrev AreListed : List ℕ → KernelState → Type 0
AreListed ts s = (id : ℕ) → is_member id ts ≡ true → is_member id s.timers.listed ≡ true

-- a timer that is due for no owner is passed over
ahead_later : (s : KernelState) (x : ℕ) (ts : List ℕ) → ((owner : Proc) → IsDueFor s.moment s.timers x owner → ⊥) → AreAhead (x ∷ ts) s → AreAhead ts s
ahead_later s x ts not ahead id owner d = by (id == x) refl
  where
    by : (b : Bool) → (id == x) ≡ b → is_member id ts ≡ true
    by true e = absurd (not owner (subst (λ j. IsDueFor s.moment s.timers j owner) (eqb-true id x e) d))
    by false e = further id x ts (ahead id owner d) e

module _ (few : ℕ) (again : KernelState → Went) (led : (s : KernelState) → Watched (Unit {0}) s (again s)) (begins : (s : KernelState) → CanBePolled Etimer s → length s.timers.listed ≤ few → IfGoes Forgets (again s)) where
  -- the event was accepted, and the walk begins again; or the queue was full, and a poll of etimer is requested
  offered : (on : KernelState → Went) → ((s : KernelState) → Watched (Unit {0}) s (on s)) → (s u : KernelState) (x : ℕ) (full : Bool) → IsStill s u → CanBePolled Etimer s → length s.timers.listed ≤ suc few → is_member x s.timers.listed ≡ true
      → IfGoes Forgets (if full then on (process_poll u Etimer) else again (fired_of u x))
  unfolding fired_of
  offered on led_on s u x true q can within there = waits_on (process_poll u Etimer) _ (waits_now Etimer u ((watches_still Etimer s u q).etimer.can can)) (led_on (process_poll u Etimer))
  offered on led_on s u x false q can within there = begins (fired_of u x) (can_fired u x ((watches_still Etimer s u q).etimer.can can)) (less_fired u x (rw (q.timers) there) (rw (q.timers) within))
    where
      can_fired : (u : KernelState) (x : ℕ) → CanBePolled Etimer u → CanBePolled Etimer (fired_of u x)
      can_fired u x c = record { alive = c.alive; can_need_poll = c.can_need_poll }

      less_fired : (u : KernelState) (x : ℕ) → is_member x u.timers.listed ≡ true → length u.timers.listed ≤ suc few → length (fired_of u x).timers.listed ≤ few
      less_fired u x there within = fewer u.timers x few there within

  due_forgets : (s : KernelState) (x : ℕ) (ts : List ℕ) (owner : Option Proc) → (timer_at s.timers.timers x).owner ≡ owner → CanBePolled Etimer s → length s.timers.listed ≤ suc few → AreListed (x ∷ ts) s
      → (owner ≡ None → IfGoes Forgets (walk_timers again ts s)) → IfGoes Forgets (post_due again (walk_timers again ts) s x owner)
  due_forgets s x ts None o can within listed later = later refl
  due_forgets s x ts (Some p) o can within listed later =
      goes_bind Bool (Unit {0}) (IsStill s) Forgets (process_post s (One p) (own_event Timer x)) _ (post_still s (One p) (own_event Timer x))
      (λ full u q. offered (walk_timers again ts) (walk_timers_led (Watches Etimer) Whatever (chain Etimer) IsOwnProcess Every (steps Etimer) again led ts) s u x full q can within (listed x (first_member x ts)))

  walk_forgets : (ts : List ℕ) (s : KernelState) → CanBePolled Etimer s → length s.timers.listed ≤ suc few → AreListed ts s → AreAhead ts s → IfGoes Forgets (walk_timers again ts s)
  walk_forgets [] s can within listed ahead = inl (λ id owner d. let h = ahead id owner d in cc)
  walk_forgets (x ∷ ts) s can within listed ahead =
      let later = λ (n : (owner : Proc) → IsDueFor s.moment s.timers x owner → ⊥). walk_forgets ts s can within (λ j h. listed j (later_member j x ts h)) (ahead_later s x ts n ahead) in
      goes_cases Forgets (is_due s.moment (timer_at s.timers.timers x)) _ _
      (λ due. due_forgets s x ts _ refl can within listed (λ none. later (λ owner d. let f = d.owned in cc)))
      (λ late. later (λ owner d. let f = d.due in cc))

walks_forget : (few : ℕ) (s : KernelState) → CanBePolled Etimer s → length s.timers.listed ≤ few → IfGoes Forgets (walks_of few s)
walks_forget zero s can within = inl (λ id owner d. nothing s.timers.listed id d.listed within)
  where
    nothing : (ks : List ℕ) (id : ℕ) → is_member id ks ≡ true → length ks ≤ 0 → ⊥
    nothing [] id h e = cc
    nothing (k ∷ ks) id h e = omega arith
walks_forget (suc few) s can within =
    walk_forgets few (walks_of few) (walks_led (Watches Etimer) Whatever (chain Etimer) IsOwnProcess Every (steps Etimer) few) (walks_forget few) s.timers.listed s can within (λ j h. h) (λ id owner d. d.listed)

-- a call of etimer that polls it

-- the timers that are left after etimer's pass, and those that it reports
pub record Serves (s t : KernelState) : Type 0 where
  pub forgets : ForgetsNone t.moment t
  pub tells : (timer : ℕ) (owner : Proc) → IsDueFor s.moment s.timers timer owner → TellsOfPost s t (One owner) (system_number Timer) timer

pass_serves : (s : KernelState) (o : Went) → CanBePolled Etimer s → etimer_process s (own_event Poll 0) ≡ o → IfGoes (Serves s) o
unfolding etimer_process pass_of
pass_serves s (Ends t) can e = tt
pass_serves s (Goes a t) can e = record {
  forgets = subst (IfGoes Forgets) e (walks_forget (length s.timers.listed) s can (omega arith));
  tells = λ timer owner d. timers_are_traced s t (own_event Poll 0) timer owner refl e d.listed d.due d.owned;
}

-- a call changes more, before and after etimer reacts
serves_like : (s s' t : KernelState) → s'.lines ≡ s.lines → s'.moment ≡ s.moment → s'.timers ≡ s.timers → Serves s' t → Serves s (with_state t Etimer Running)
unfolding with_state
serves_like s s' t lines moment timers h = record {
  forgets = again h.forgets;
  tells = λ timer owner d.
      let k = h.tells timer owner (rw (moment, timers) d) in
      record { telling = k.telling; tells = k.tells; before = k.before; after = k.after; wrote = k.wrote ∙ rw (lines, moment) refl };
}
  where
    again : ForgetsNone t.moment t → ForgetsNone t.moment (with_state t Etimer Running)
    again (inl n) = inl n
    again (inr w) = inr (record { needs_poll = w.needs_poll; poll_requested = w.poll_requested })

answers_serve : (calls : Calls) (s s' : KernelState) (o : Went) → s'.lines ≡ s.lines → s'.moment ≡ s.moment → s'.timers ≡ s.timers → IfGoes (Serves s') o
    → IfGoes (Serves s) ((o >>= λ _ s1. Goes Yielded s1) >>= λ answer s2. answered calls s2 Etimer (has_ended answer || is_system_event Exit (own_event Poll 0)))
unfolding answered
answers_serve calls s s' (Ends t) lines moment timers h = tt
answers_serve calls s s' (Goes a t) lines moment timers h = serves_like s s' t lines moment timers h

-- a unit of work is spent, unless none is left
abbrev pub spent : KernelState → (none : Bool) → Went
spent s none = if none then Ends (halted_of s) else Goes tt (record s { units = s.units - 1 })

pub call_serves : (calls : Calls) (s : KernelState) → is_running s Etimer ≡ true → CanBePolled Etimer s → IfGoes (Serves s) (call_process calls s Etimer (own_event Poll 0))
unfolding call_process spend_of react_of with_state
call_serves calls s running can = rw running (by (s.units == 0))
  where
    by : (b : Bool) → IfGoes (Serves s) (spent s b >>= λ _ s1. react_of calls (with_state s1 Etimer Called) Etimer (own_event Poll 0) >>= λ answer s2. answered calls s2 Etimer (has_ended answer || is_system_event Exit (own_event Poll 0)))
    by true = tt
    by false =
        let s' = with_state (record s { units = s.units - 1 }) Etimer Called in
        answers_serve calls s s' (etimer_process s' (own_event Poll 0)) refl refl refl (pass_serves s' _ ((alive_state Etimer etimer_system (record s { units = s.units - 1 }) Etimer Called refl).can (record { alive = can.alive; can_need_poll = can.can_need_poll })) refl)

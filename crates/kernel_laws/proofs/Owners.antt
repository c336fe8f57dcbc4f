-- After each small step of the kernel, each timer on the list still has an owner.
use Rattle.std.proofs.Common.{ℕ, ◌≡◌, ◌+◌, ◌==◌, Bool, true, false, not, nat_lt, if◌then◌else◌, List, ◌∷◌, Some, length, refl, sym, subst, arith}
use Rattle.std.specs.Prelude.{IsSome}
use Rattle.std.proofs.lemmas.List.{get_or-set_same, get_or-set_other}
use Rattle.std.proofs.lemmas.Bool.{eqb-true, eqb-false}
use Rattle.std.proofs.lemmas.Bool.Decides.{nat_tests}
use Rattle.program_tree.specs.declared.event.Proc.{Proc}
use Rattle.program_tree.specs.declared.event.Proc.TheVariants.{Etimer}
use Rattle.mote_timers.specs.declared.timer.Timer.{Timer}
use Rattle.mote_timers.specs.Numbers.{is_member}
use Rattle.mote_timers.specs.Timer.{unset, is_owned_by}
use Rattle.mote_timers.specs.TimerLists.{TimerLists, timer_at, with_timer, stop_timer, purge_timers}
use Rattle.trace_lines.specs.declared.line.Line.{Line}
use Rattle.radio_packet.specs.declared.sent.Sent.{Sent}
use Rattle.process_kernel.specs.State.{KernelState, Outcome, Ends, Goes, halted_of}
use Rattle.process_kernel.specs.ProcessList.{with_state, with_exiting, with_needs_poll, put_remainder, exiting_of, unlisted_of}
use Rattle.process_kernel.specs.Posts.{process_poll}
use Rattle.process_kernel.specs.Etimer.{has_timer, add_timer}
use Rattle.process_kernel.specs.KernelModel.{begun_of, most_units, KernelModel, given, begun, boot_given, run_given}
use Rattle.kernel_laws.specs.Due.{HaveOwners, BootKeepsOwners, RunKeepsOwners}
use Rattle.kernel_laws.proofs.Timers.{further, other_timer}
use Rattle.kernel_laws.proofs.Watch.{is_left}
use Rattle.kernel_laws.proofs.EachStep.{Every, AnyProcess, Lead, AreJoined, AreSteps, AreRunSteps, keeps_set, brackets_of, boots_led, runs_led, unless_halts, polled_or_not}

pub record Owns (s t : KernelState) : Type 0 where
  pub owns : HaveOwners s.timers → HaveOwners t.timers

owns_still : (s t : KernelState) → t.timers ≡ s.timers → Owns s t
owns_still s t e = record { owns = λ h. subst HaveOwners (sym e) h }

owns_joined : (a b c : KernelState) → Owns a b → Owns b c → Owns a c
owns_joined a b c h i = record { owns = λ x. i.owns (h.owns x) }

chain : AreJoined Owns Owns
chain = record { same = λ s. owns_still s s refl; joined = owns_joined; ended = owns_joined }

-- timers

owned_with : (l : TimerLists) (id : ℕ) (t : Timer) → nat_lt id (length l.timers) ≡ true → IsSome t.owner → HaveOwners l → HaveOwners (with_timer l id t)
owned_with l id t there some h j listed = by (j == id) refl
  where
    listed_before : (b : Bool) → is_member id l.listed ≡ b → is_member j (if b then l.listed else id ∷ l.listed) ≡ true → (j == id) ≡ false → is_member j l.listed ≡ true
    listed_before true e i n = i
    listed_before false e i n = further j id l.listed i n

    by : (b : Bool) → (j == id) ≡ b → IsSome (timer_at (with_timer l id t).timers j).owner
    by true e =
        let same : timer_at (with_timer l id t).timers id ≡ t = get_or-set_same l.timers id t unset (grind (arith, nat_tests)) in
        subst (λ k. IsSome (timer_at (with_timer l id t).timers k).owner) (sym (eqb-true j id e)) (subst (λ x. IsSome x.owner) (sym same) some)
    by false e =
        let same : timer_at (with_timer l id t).timers j ≡ timer_at l.timers j = get_or-set_other l.timers id j t unset (eqb-false j id e) in
        subst (λ x. IsSome x.owner) (sym same) (h j (listed_before (is_member id l.listed) refl listed e))

owned_stopped : (l : TimerLists) (id : ℕ) → HaveOwners l → HaveOwners (stop_timer l id)
unfolding stop_timer
owned_stopped l id h j listed =
    let i = is_left (λ k. not (k == id)) j l.listed listed in
    let e : (j == id) ≡ false = grind (arith, nat_tests, i.1) in
    subst (λ x. IsSome x.owner) (sym (other_timer l id j e)) (h j i.0)

owned_purged : (l : TimerLists) (p : Proc) → HaveOwners l → HaveOwners (purge_timers l p)
unfolding purge_timers
owned_purged l p h j listed = h j (is_left (λ k. not (is_owned_by p (timer_at l.timers k))) j l.listed listed).0

pub poll_timers : (s : KernelState) (p : Proc) → (process_poll s p).timers ≡ s.timers
unfolding with_needs_poll
poll_timers s p = polled_or_not (λ t. t.timers ≡ s.timers) s p refl refl

sets_own : (s : KernelState) (timer start interval : ℕ) (owner : Proc) → has_timer s timer ≡ true → Owns s (add_timer (record s { timers = with_timer s.timers timer (record { start = start; interval = interval; owner = Some owner }) }) timer)
sets_own s timer start interval owner there =
    keeps_set Owns Owns chain s _ timer (λ callbacks. record { owns = owned_with s.timers timer _ there refl }) (λ t. owns_still t _ (poll_timers t Etimer))

-- the other steps

steps : AreSteps Owns Owns chain AnyProcess Every
unfolding put_remainder halted_of with_state exiting_of with_exiting unlisted_of
steps = record {
  own = λ p own. tt;
  brackets = brackets_of Owns Owns chain AnyProcess Every (λ s p o. owns_still s _ refl) (λ s p o. owns_still s _ refl) (λ s p o l. owns_still s _ refl) (λ s p o l. owns_still s _ refl);
  halts = λ s. owns_still s _ refl;
  units = λ s n l. owns_still s _ refl;
  busy = λ s p. owns_still s _ refl;
  prints = λ s p v o. owns_still s _ refl;
  polled = λ s p. owns_still s _ (poll_timers s p);
  remainder = λ s p r o. owns_still s _ refl;
  fresh = λ s p o. owns_still s _ refl;
  variables = λ s p vs n o l. owns_still s _ refl;
  sets = sets_own;
  stops = λ s t. record { owns = owned_stopped s.timers t };
  purges = λ s p. record { owns = owned_purged s.timers p };
  callbacks = λ s ts. owns_still s _ refl;
  semaphores = λ s ns. owns_still s _ refl;
  full = λ s t e. owns_still s _ refl;
  posts = λ s t e f. owns_still s _ refl;
  sends = λ s v. owns_still s _ refl;
  starts = λ s p o b h l. owns_still s _ refl;
  ring = record {
    accepted = λ s a later p i r. owns_still s _ refl;
    refused = λ s a later p i r. owns_still s _ refl;
    deaf = λ s a later i r. owns_still s _ refl;
    halts = λ s later. owns_still s _ refl;
  };
}

run_steps : AreRunSteps Owns Owns chain
unfolding with_needs_poll
run_steps = record {
  unrequested = λ s. owns_still s _ refl;
  cleared = λ s p. owns_still s _ refl;
  front = λ s. owns_still s _ refl;
  takes = λ s n p. owns_still s _ refl;
  drops = λ s n p. owns_still s _ refl;
}

given_owns : (moment : ℕ) (m : KernelModel) (lines : List Line) (sends : List Sent) (o : Outcome ℕ) → Lead Owns Owns ℕ (begun m moment lines sends) o → HaveOwners m.state.timers → HaveOwners (given o).mote.state.timers
unfolding begun_of
given_owns moment m lines sends (Ends t) k h = k.leads.owns h
given_owns moment m lines sends (Goes a t) k h = k.leads.owns h

pub boot_keeps_owners : BootKeepsOwners
unfolding boot_given
boot_keeps_owners moment m lines sends h =
    unless_halts (λ g. HaveOwners g.mote.state.timers) m lines sends _ (λ e. h) (λ e. given_owns moment m lines sends _ (boots_led Owns Owns chain steps run_steps (most_units + 1) (begun m moment lines sends)) h)

pub run_keeps_owners : RunKeepsOwners
unfolding run_given
run_keeps_owners moment m lines sends h =
    unless_halts (λ g. HaveOwners g.mote.state.timers) m lines sends _ (λ e. h) (λ e. given_owns moment m lines sends _ (runs_led Owns Owns chain steps run_steps (most_units + 1) (begun m moment lines sends)) h)

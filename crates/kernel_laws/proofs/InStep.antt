-- Each call keeps the process list and the states of the processes in step, and doesn't change which processes are
-- busy.
use Rattle.std.proofs.Common.{ℕ, ◌≡◌, ◌<◌, Bool, true, false, ◌||◌, inl, inr, List, ◌∷◌, slice_set, length, refl, sym, ap, ◌∙◌, subst}
use Rattle.std.proofs.lemmas.List.{length-set}
use Rattle.program_tree.specs.declared.event.Proc.{Proc}
use Rattle.program_tree.specs.declared.event.Proc.TheVariants.{Etimer}
use Rattle.event_queue.specs.declared.queue.Posted.{Posted}
use Rattle.process_kernel.specs.declared.process.ProcessState.{ProcessState}
use Rattle.process_kernel.specs.declared.process.ProcessState.TheVariants.{Off, Running, Called}
use Rattle.process_kernel.specs.declared.process.Member.{Member}
use Rattle.process_kernel.specs.ProcessList.{place_of, process_state, has_process, is_busy, is_running, is_running_state, is_called_state, at_process, with_state, with_exiting, with_needs_poll, put_remainder, exiting_of, unlisted_of}
use Rattle.process_kernel.specs.State.{KernelState, Outcome, Calls}
use Rattle.process_kernel.specs.Operations.{calls_of}
use Rattle.process_kernel.specs.Process.{walk_polls, give_of}
use Rattle.process_kernel.specs.Posts.{process_poll}
use Rattle.kernel_laws.specs.InStep.{state_at_place, exiting_at, listed_in, AreInStep, IsInStep, IsAsBusy}
use Rattle.kernel_laws.proofs.EachStep.{Every, AnyProcess, Whatever, Lead, AreJoined, AreBrackets, AreSteps, AreRunSteps, AreLed, with_started, without_process, keeps_set, calls_led, polls_led, give_led, polled_or_not}
use Rattle.kernel_laws.proofs.Tables.{set_same, set_other, is_entry, is_equal, left_out, left_in, first_listed, others_listed, DiffersAt, in_step_but, state_differs, exiting_differs, differs_twice, state_set, exiting_set, below_of}

-- the later state is in step, and the same processes are busy
pub record Keeps (s t : KernelState) : Type 0 where
  pub step : IsInStep t
  pub busy : IsAsBusy s t

-- the same, if the earlier state is in step
pub record KeepsStep (s t : KernelState) : Type 0 where
  pub kept : IsInStep s → Keeps s t

pub as_busy : (s : KernelState) → IsAsBusy s s
as_busy s = record { called = λ k. refl; exiting = λ k. refl }

pub as_busy_twice : (s t u : KernelState) → IsAsBusy s t → IsAsBusy t u → IsAsBusy s u
as_busy_twice s t u h i = record { called = λ k. i.called k ∙ h.called k; exiting = λ k. i.exiting k ∙ h.exiting k }

-- the process list and the states of the processes don't change
pub record IsStill (s t : KernelState) : Type 0 where
  pub states : t.states ≡ s.states
  pub exiting : t.exiting ≡ s.exiting
  pub members : t.members ≡ s.members

pub still : (s : KernelState) → IsStill s s
still s = record { states = refl; exiting = refl; members = refl }

pub keeps_still : (s t : KernelState) → IsStill s t → IsInStep s → Keeps s t
keeps_still s t q i = record {
  step = record { tables = rw (q.states, q.exiting) i.tables; each = λ k. rw (q.states, q.exiting, q.members) (i.each k) };
  busy = record { called = λ k. rw (q.states) refl; exiting = λ k. rw (q.exiting) refl };
}

pub chain : AreJoined KeepsStep Whatever
chain = record {
  same = λ s. record { kept = λ i. record { step = i; busy = as_busy s } };
  joined = λ a b c h i. record { kept = λ x. let k = h.kept x in let l = i.kept k.step in record { step = l.step; busy = as_busy_twice a b c k.busy l.busy } };
  ended = λ a b c h i. tt;
}

steps_still : (s t : KernelState) → IsStill s t → KeepsStep s t
steps_still s t q = record { kept = keeps_still s t q }

pub poll_still : (s : KernelState) (p : Proc) → IsStill s (process_poll s p)
unfolding with_needs_poll
poll_still s p = polled_or_not (IsStill s) s p (record { states = refl; exiting = refl; members = refl }) (still s)

-- consequences of being in step

called_is : (x : ProcessState) (e l : Bool) → AreInStep x e l → is_called_state x ≡ true → (x ≡ Called) × (e ≡ false) × (l ≡ true)
called_is Off e l h q = absurd (cc)
called_is Running e l h q = absurd (cc)
called_is Called e l h q = (refl, h.0, h.1)

running_is : (x : ProcessState) (e l : Bool) → AreInStep x e l → is_running_state x ≡ true → (x ≡ Running) × (e ≡ false) × (l ≡ true)
running_is Off e l h q = absurd (cc)
running_is Running e l h q = (refl, h.0, h.1)
running_is Called e l h q = absurd (cc)

exiting_is : (x : ProcessState) (e l : Bool) → AreInStep x e l → e ≡ true → (x ≡ Off) × (l ≡ true)
exiting_is Off e l h q = (refl, sym h ∙ q)
exiting_is Running e l h q = absurd (let f : true ≡ false = sym q ∙ h.0 in cc)
exiting_is Called e l h q = absurd (let f : true ≡ false = sym q ∙ h.0 in cc)

-- a process that is listed and is not being exited isn't off
listed_is : (x : ProcessState) (e l : Bool) → AreInStep x e l → e ≡ false → l ≡ true → x ≡ Off → ⊥
listed_is Off e l h q r z = let f : false ≡ true = sym q ∙ h ∙ r in cc
listed_is Running e l h q r z = cc
listed_is Called e l h q r z = cc

not_busy : (c e : Bool) → (c || e) ≡ false → (c ≡ false) × (e ≡ false)
not_busy true e q = absurd (cc)
not_busy false e q = (refl, q)

-- A process that was neither called nor being exited is neither of them now, and the same other processes are busy.
settles : (k : ℕ) (s t : KernelState) → is_called_state (state_at_place s k) ≡ false → exiting_at s k ≡ false → IsInStep t → is_called_state (state_at_place t k) ≡ false → exiting_at t k ≡ false →
    ((j : ℕ) → (j ≡ k → ⊥) → is_called_state (state_at_place t j) ≡ is_called_state (state_at_place s j)) → ((j : ℕ) → (j ≡ k → ⊥) → exiting_at t j ≡ exiting_at s j) → Keeps s t
settles k s t n m step c e f g = record {
  step = step;
  busy = record {
    called = λ j. elim (is_equal j k) [ inl q ↦ rw (q, c) (sym n) | inr d ↦ f j d ];
    exiting = λ j. elim (is_equal j k) [ inl q ↦ rw (q, e) (sym m) | inr d ↦ g j d ];
  };
}

-- the process is being exited
record IsOnItsWay (p : ℕ) (s t : KernelState) : Type 0 where
  step : IsInStep t
  exiting : exiting_at t p ≡ true
  calls : (k : ℕ) → (k ≡ p → ⊥) → is_called_state (state_at_place t k) ≡ is_called_state (state_at_place s k)
  exits : (k : ℕ) → (k ≡ p → ⊥) → exiting_at t k ≡ exiting_at s k

on_its_way : (s : KernelState) (p : Proc) → IsInStep s → exiting_at s (place_of p) ≡ false → listed_in s.members (place_of p) ≡ true → IsOnItsWay (place_of p) s (exiting_of s p)
unfolding exiting_of with_state with_exiting
on_its_way s p i e l =
    let k = place_of p in
    let within : k < length s.states = is_entry s.states k Off (listed_is (state_at_place s k) (exiting_at s k) (listed_in s.members k) (i.each k) e l) in
    let within' : k < length s.exiting = subst (λ n. k < n) (sym i.tables) within in
    let t = with_state s p Off in
    let d = differs_twice k s t (with_exiting t p true) (state_differs s p Off) (exiting_differs t p true) in
    let x : exiting_at (with_exiting t p true) k ≡ true = exiting_set t p true within' in
    let y : state_at_place (with_exiting t p true) k ≡ Off = state_set s p Off within in
    record {
      step = in_step_but k s (with_exiting t p true) i d (rw (y, x) (sym l));
      exiting = x;
      calls = λ j n. ap is_called_state (d.states j n);
      exits = λ j n. d.exiting j n;
    }

goes_its_way : (p : ℕ) (s t u : KernelState) → IsOnItsWay p s t → Keeps t u → IsOnItsWay p s u
goes_its_way p s t u h k = record {
  step = k.step;
  exiting = k.busy.exiting p ∙ h.exiting;
  calls = λ j n. k.busy.called j ∙ h.calls j n;
  exits = λ j n. k.busy.exiting j ∙ h.exits j n;
}

leaves_at_last : (s t : KernelState) (p : Proc) → is_called_state (state_at_place s (place_of p)) ≡ false → exiting_at s (place_of p) ≡ false → IsOnItsWay (place_of p) s t → Keeps s (without_process t p)
unfolding unlisted_of with_exiting
leaves_at_last s t p n e h =
    let k = place_of p in
    let is : (state_at_place t k ≡ Off) × (listed_in t.members k ≡ true) = exiting_is (state_at_place t k) (exiting_at t k) (listed_in t.members k) (h.step.each k) h.exiting in
    let within : k < length t.exiting = is_entry t.exiting k false (λ q. let f : true ≡ false = sym h.exiting ∙ q in cc) in
    let u = without_process t p in
    let d0 = exiting_differs t p false in
    let d : DiffersAt k t u = record { states = d0.states; exiting = d0.exiting; listed = λ j n. left_in t.members p j n; tables = d0.tables } in
    let x : exiting_at u k ≡ false = exiting_set t p false within in
    settles k s u n e (in_step_but k t u h.step d (rw (is.0, x, left_out t.members p) refl)) (rw (is.0) refl) x (λ j n. ap is_called_state (d.states j n) ∙ h.calls j n) (λ j n. d.exiting j n ∙ h.exits j n)

-- a process starts
started_keeps : (s u : KernelState) (p : Proc) (m : Member) → IsInStep s → m.process ≡ p → u.states ≡ slice_set s.states (place_of p) Running → u.exiting ≡ s.exiting → u.members ≡ m ∷ s.members → place_of p < length s.states →
    is_called_state (state_at_place s (place_of p)) ≡ false → exiting_at s (place_of p) ≡ false → Keeps s u
started_keeps s u p m i w a b c h n e =
    let k = place_of p in
    let d : DiffersAt k s u = record {
      states = λ j f. rw a (set_other s.states k j Running Off f);
      exiting = λ j f. rw b refl;
      listed = λ j f. rw c (others_listed m s.members j (λ q. f (q ∙ ap place_of w)));
      tables = λ x. rw (a, b) (x ∙ sym (length-set s.states k Running));
    } in
    let now : state_at_place u k ≡ Running = rw a (set_same s.states k Running Off h) in
    let there : listed_in u.members k ≡ true = rw c (subst (λ q. listed_in (m ∷ s.members) (place_of q) ≡ true) w (first_listed m s.members)) in
    let free : exiting_at u k ≡ false = rw b e in
    record {
      step = in_step_but k s u i d (rw now (free, there));
      busy = record {
        called = λ j. elim (is_equal j k) [ inl q ↦ rw (q, now) (sym n) | inr f ↦ ap is_called_state (d.states j f) ];
        exiting = λ j. rw b refl;
      };
    }

-- a process that was running is called now
record IsCalled (p : ℕ) (s t : KernelState) : Type 0 where
  step : IsInStep t
  called : is_called_state (state_at_place t p) ≡ true
  calls : (k : ℕ) → (k ≡ p → ⊥) → is_called_state (state_at_place t k) ≡ is_called_state (state_at_place s k)
  exits : (k : ℕ) → (k ≡ p → ⊥) → exiting_at t k ≡ exiting_at s k

is_free : (s : KernelState) (p : Proc) (x : ProcessState) → exiting_at s (place_of p) ≡ false → exiting_at (with_state s p x) (place_of p) ≡ false
unfolding with_state
is_free s p x e = e

is_there : (s : KernelState) (p : Proc) (x : ProcessState) → listed_in s.members (place_of p) ≡ true → listed_in (with_state s p x).members (place_of p) ≡ true
unfolding with_state
is_there s p x e = e

now_called : (s : KernelState) (p : Proc) → IsInStep s → is_running_state (state_at_place s (place_of p)) ≡ true → IsCalled (place_of p) s (with_state s p Called)
now_called s p i r =
    let k = place_of p in
    let is : (state_at_place s k ≡ Running) × (exiting_at s k ≡ false) × (listed_in s.members k ≡ true) = running_is (state_at_place s k) (exiting_at s k) (listed_in s.members k) (i.each k) r in
    let within : k < length s.states = is_entry s.states k Off (λ q. let f : Running ≡ Off = sym is.0 ∙ q in cc) in
    let d = state_differs s p Called in
    let x : state_at_place (with_state s p Called) k ≡ Called = state_set s p Called within in
    record {
      step = in_step_but k s (with_state s p Called) i d (rw x (is_free s p Called is.1, is_there s p Called is.2));
      called = rw x refl;
      calls = λ j n. ap is_called_state (d.states j n);
      exits = λ j n. d.exiting j n;
    }

still_called : (p : ℕ) (s t u : KernelState) → IsCalled p s t → Keeps t u → IsCalled p s u
still_called p s t u h k = record {
  step = k.step;
  called = k.busy.called p ∙ h.called;
  calls = λ j n. k.busy.called j ∙ h.calls j n;
  exits = λ j n. k.busy.exiting j ∙ h.exits j n;
}

-- the state after a process was called
called_to : (s t : KernelState) (p : Proc) → IsInStep s → is_running s p ≡ true → KeepsStep (with_state s p Called) t → IsCalled (place_of p) s t
called_to s t p i r k = let now = now_called s p i r in still_called (place_of p) s (with_state s p Called) t now (k.kept now.step)

record WasRunning (k : ℕ) (s : KernelState) : Type 0 where
  called : is_called_state (state_at_place s k) ≡ false
  exiting : exiting_at s k ≡ false

was_running : (s : KernelState) (p : Proc) → IsInStep s → is_running s p ≡ true → WasRunning (place_of p) s
was_running s p i r =
    let k = place_of p in
    let is : (state_at_place s k ≡ Running) × (exiting_at s k ≡ false) × (listed_in s.members k ≡ true) = running_is (state_at_place s k) (exiting_at s k) (listed_in s.members k) (i.each k) r in
    record { called = rw (is.0) refl; exiting = is.1 }

is_called : (s t : KernelState) (p : Proc) → IsCalled (place_of p) s t → let k = place_of p in (state_at_place t k ≡ Called) × (exiting_at t k ≡ false) × (listed_in t.members k ≡ true)
is_called s t p h = let k = place_of p in called_is (state_at_place t k) (exiting_at t k) (listed_in t.members k) (h.step.each k) h.called

-- the process is running again
runs_again : (s u : KernelState) (p : Proc) → WasRunning (place_of p) s → IsCalled (place_of p) s u → Keeps s (with_state u p Running)
unfolding with_state
runs_again s u p was h =
    let k = place_of p in
    let is = is_called s u p h in
    let within : k < length u.states = is_entry u.states k Off (λ q. let f : Called ≡ Off = sym is.0 ∙ q in cc) in
    let d = state_differs u p Running in
    let x : state_at_place (with_state u p Running) k ≡ Running = state_set u p Running within in
    settles k s (with_state u p Running) was.called was.exiting (in_step_but k u (with_state u p Running) h.step d (rw x (is.1, is.2))) (rw x refl) is.1 (λ j n. ap is_called_state (d.states j n) ∙ h.calls j n) (λ j n. d.exiting j n ∙ h.exits j n)

-- the call of the process ends with its exit
leaves_from : (s t u : KernelState) (p : Proc) → WasRunning (place_of p) s → IsCalled (place_of p) s t → (listed_in t.members (place_of p)) ≡ true → KeepsStep (exiting_of t p) u → Keeps s (without_process u p)
leaves_from s t u p was c l h =
    let k = place_of p in
    let way = on_its_way t p c.step (is_called s t p c).1 l in
    let way' = goes_its_way k t (exiting_of t p) u way (h.kept way.step) in
    leaves_at_last s u p was.called was.exiting (record { step = way'.step; exiting = way'.exiting; calls = λ j n. way'.calls j n ∙ c.calls j n; exits = λ j n. way'.exits j n ∙ c.exits j n })

leaves_free : (s t : KernelState) (p : Proc) → IsInStep s → is_busy s p ≡ false → listed_in s.members (place_of p) ≡ true → KeepsStep (exiting_of s p) t → Keeps s (without_process t p)
leaves_free s t p i b l h =
    let f = not_busy (is_called_state (process_state s p)) (at_process s.exiting p) b in
    let way = on_its_way s p i f.1 l in
    leaves_at_last s t p f.0 f.1 (goes_its_way (place_of p) s (exiting_of s p) t way (h.kept way.step))

brackets : AreBrackets KeepsStep Whatever chain AnyProcess Every
brackets = record {
  call = λ s t p o r k. record { kept = λ i. runs_again s t p (was_running s p i r) (called_to s t p i r k) };
  call_stops = λ s t p o r k. tt;
  exit = λ s t p o any b l h. record { kept = λ i. leaves_free s t p i b l h };
  exit_stops = λ s t p o any b l h. tt;
  last = λ s t u p o any r k l h. record { kept = λ i. leaves_from s t u p (was_running s p i r) (called_to s t p i r k) l h };
  last_stops = λ s t u p o any r k l h. tt;
  gone = λ s t p o r k l. record { kept = λ i. absurd (let f : true ≡ false = sym (is_called s t p (called_to s t p i r k)).2 ∙ l in cc) };
}

starts : (s : KernelState) (p : Proc) → is_busy s p ≡ false → has_process s p ≡ true → KeepsStep s (with_started s p)
unfolding with_state
starts s p b h =
    let f = not_busy (is_called_state (process_state s p)) (at_process s.exiting p) b in
    let m : Member = record { process = p; incarnation = s.started } in
    record { kept = λ i. started_keeps s (with_started s p) p m i refl refl refl refl (below_of (place_of p) (length s.states) h) f.0 f.1 }

-- all of them

pub steps : AreSteps KeepsStep Whatever chain AnyProcess Every
unfolding put_remainder
steps = record {
  own = λ p own. tt;
  brackets = brackets;
  halts = λ s. tt;
  units = λ s n l. steps_still s _ (record { states = refl; exiting = refl; members = refl });
  busy = λ s p. steps_still s _ (record { states = refl; exiting = refl; members = refl });
  prints = λ s p v o. steps_still s _ (record { states = refl; exiting = refl; members = refl });
  polled = λ s p. steps_still s _ (poll_still s p);
  remainder = λ s p r o. steps_still s _ (record { states = refl; exiting = refl; members = refl });
  fresh = λ s p o. steps_still s _ (record { states = refl; exiting = refl; members = refl });
  variables = λ s p vs n o l. steps_still s _ (record { states = refl; exiting = refl; members = refl });
  sets = λ s t start interval owner there. keeps_set KeepsStep Whatever chain s _ t (λ callbacks. steps_still s _ (record { states = refl; exiting = refl; members = refl })) (λ u. steps_still u _ (poll_still u Etimer));
  stops = λ s t. steps_still s _ (record { states = refl; exiting = refl; members = refl });
  purges = λ s p. steps_still s _ (record { states = refl; exiting = refl; members = refl });
  callbacks = λ s ts. steps_still s _ (record { states = refl; exiting = refl; members = refl });
  semaphores = λ s ns. steps_still s _ (record { states = refl; exiting = refl; members = refl });
  full = λ s t e. steps_still s _ (record { states = refl; exiting = refl; members = refl });
  posts = λ s t e f. steps_still s _ (record { states = refl; exiting = refl; members = refl });
  sends = λ s v. steps_still s _ (record { states = refl; exiting = refl; members = refl });
  starts = λ s p o b h l. starts s p b h;
  ring = record {
    accepted = λ s a later p i r. steps_still s _ (record { states = refl; exiting = refl; members = refl });
    refused = λ s a later p i r. steps_still s _ (record { states = refl; exiting = refl; members = refl });
    deaf = λ s a later i r. steps_still s _ (record { states = refl; exiting = refl; members = refl });
    halts = λ s later. tt;
  };
}

pub run_steps : AreRunSteps KeepsStep Whatever chain
unfolding with_needs_poll
run_steps = record {
  unrequested = λ s. steps_still s _ (record { states = refl; exiting = refl; members = refl });
  cleared = λ s p. steps_still s _ (record { states = refl; exiting = refl; members = refl });
  front = λ s. steps_still s _ (record { states = refl; exiting = refl; members = refl });
  takes = λ s n p. steps_still s _ (record { states = refl; exiting = refl; members = refl });
  drops = λ s n p. steps_still s _ (record { states = refl; exiting = refl; members = refl });
}

-- if the state before was in step, an outcome that continues leaves a state that is in step, with the same processes
-- busy
abbrev pub Kept : (A : Type 0) → KernelState → Outcome A → Type 0
Kept A s o = Lead KeepsStep Whatever A s o

abbrev pub AreKept : Calls → Type 0
AreKept calls = AreLed KeepsStep Whatever chain AnyProcess Every calls

pub calls_kept : (k : ℕ) → AreKept (calls_of k)
calls_kept k = calls_led KeepsStep Whatever chain AnyProcess steps k

pub polls_kept : (calls : Calls) → AreKept calls → (ms : List Member) (s : KernelState) → Kept (Unit {0}) s (walk_polls calls ms s)
polls_kept calls are ms s = polls_led KeepsStep Whatever chain calls run_steps.unrequested run_steps.cleared (λ t p. are.call t p _ (λ q. tt)) ms s

pub give_kept : (calls : Calls) → AreKept calls → (s : KernelState) (x : Posted) (p : Proc) (there : Bool) → Kept (Unit {0}) s (give_of calls s x p there)
give_kept calls are s x p there = give_led KeepsStep Whatever chain calls run_steps (λ t q e. are.call t q e (λ z. tt)) s x p there

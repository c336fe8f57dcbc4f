-- An invariant of each small step of the kernel is an invariant of each call, however deep calls nest, and of each
-- boot and kernel run. A call and an exit have a step at the beginning and a step at the end; other steps are between
-- these two.
use Rattle.std.proofs.Common.{ℕ, zero, suc, ◌≡◌, Bool, true, false, not, ◌&&◌, ◌||◌, ◌==◌, nat_lt, if◌then◌else◌, List, [], ◌∷◌, Option, Some, None, slice_get, slice_set, refl, sym, ap, ◌∙◌, subst, ◌++◌, ◌+◌, ◌-◌, ◌^◌, ◌≤◌, nat_le, length, arith, map}
use Rattle.std.proofs.lemmas.Bool.Decides.{nat_tests}
use Rattle.program_tree.specs.declared.event.Proc.{Proc}
use Rattle.program_tree.specs.declared.event.Proc.TheVariants.{Own, Etimer, Ctimer, Radio}
use Rattle.program_tree.specs.declared.event.Target.{Target}
use Rattle.program_tree.specs.declared.event.Target.TheVariants.{One, All as ToEach}
use Rattle.program_tree.specs.declared.event.Event.{Event}
use Rattle.program_tree.specs.declared.event.SystemEvent.TheVariants.{Poll, Exit, Exited, Timer, Packet}
use Rattle.program_tree.specs.Events.{system_number}
use Rattle.program_tree.specs.declared.timer.Timer.{Timer as TimerOfProgram}
use Rattle.program_tree.specs.Code.{Code}
use Rattle.event_queue.specs.Queue.{without_front, with_posted}
use Rattle.event_queue.specs.declared.queue.Posted.{Posted}
use Rattle.mote_timers.specs.Timer.{is_due}
use Rattle.mote_timers.specs.TimerLists.{TimerLists, timer_at, with_timer, set_timer, reset_timer, restart_timer, stop_timer, purge_timers}
use Rattle.protothread.specs.declared.part.Part.TheVariants.{OnPoll, OnExit, Callback}
use Rattle.protothread.specs.declared.answer.PtState.{PtState}
use Rattle.protothread.specs.declared.answer.PtState.TheVariants.{Yielded, Ended}
use Rattle.protothread.specs.declared.step.Op.{Op}
use Rattle.protothread.specs.declared.step.Op.TheVariants as op
use Rattle.protothread.specs.declared.step.Step.{Step}
use Rattle.protothread.specs.declared.step.Step.TheVariants as step
use Rattle.protothread.specs.Remainder.{Remainder, fresh_of}
use Rattle.protothread.specs.Step.{PaysFor}
use Rattle.protothread.proofs.Units.{costs}
use Rattle.radio_packet.specs.declared.arrival.Arrival.{Arrival}
use Rattle.trace_lines.specs.declared.line.What.TheVariants as what
use Rattle.process_kernel.specs.declared.process.ProcessState.TheVariants.{Running, Called}
use Rattle.process_kernel.specs.declared.process.Member.{Member}
use Rattle.process_kernel.specs.ProcessList.{is_same, is_alive, process_state, has_process, is_busy, is_listed, is_running, is_on_list, with_state, with_exiting, with_needs_poll, put_remainder, fresh_at, with_fresh_body, enlist_of, exiting_of, unlisted_of, leave_of}
use Rattle.process_kernel.specs.State.{KernelState, Outcome, Went, Ends, Goes, ◌>>=◌, with_line, write_of, halted_of, spend_of, Calls, Answer}
use Rattle.process_kernel.specs.Posts.{process_post, process_poll, own_event, is_system_event}
use Rattle.process_kernel.specs.Radio.{send_of, packet_of, hand_to, empty_ring, radio_process}
use Rattle.process_kernel.specs.Operations.{take_of, signal_of, answered_with, answer_of, act_of, perform_of, after_step, run_of, calls_of}
use Rattle.process_kernel.specs.Etimer.{has_timer, add_timer, etimer_set, etimer_reset, etimer_restart, etimer_stop, fired_of, purge_of, post_due, walk_timers, walks_of, pass_of, etimer_process}
use Rattle.process_kernel.specs.Process.{walk_of, process_number, last_run_of, exit_process, process_start, process_exit, answered, call_process, walk_polls, do_poll, do_poll_if_requested, poll_turn_of, give_of, visit_of, walk_broadcast, deliver_to, deliver_of, do_event, process_run, autostart_start, boot_of}
use Rattle.process_kernel.specs.Ctimer.{callback_of, waits_for, ctimer_process}
use Rattle.process_kernel.specs.Thread.{handler_of, resume_of, own_of, react_of, has_ended, stepped_with, stepped_of, looks_of}
use Rattle.process_kernel.specs.KernelModel.{KernelModel, Given, unless_halted}
use Rattle.process_kernel.specs.declared.kernel.Ran.TheVariants as ran
use Rattle.trace_lines.specs.declared.line.Line.{Line}
use Rattle.radio_packet.specs.declared.sent.Sent.{Sent}
use Rattle.kernel_laws.specs.Own.{IsOwnProcess, FitsTarget}
use Rattle.kernel_laws.proofs.Packets.{IfGoes, Handed, hand_tells}
use Rattle.kernel_laws.proofs.Fits.{FitsOp, FitsStep, fits_advanced}

-- any process may be exited
abbrev pub AnyProcess : Proc → Type 0
AnyProcess p = Unit {0}

-- all processes of the program
abbrev pub Every : ℕ → Type 0
Every p = Unit {0}

-- nothing is claimed about motes that have halted
abbrev pub Whatever : KernelState → KernelState → Type 0
Whatever s t = Unit {0}

-- the states after an accepted post, a sent packet, a start, and the end of an exit

abbrev pub with_event : KernelState → Target → Event → KernelState
with_event s t e = with_line (record s { queue = with_posted s.queue t e }) (what.Post s.queue.accepted t e.number e.word)

abbrev pub with_sent : KernelState → (value : ℕ) → KernelState
with_sent s value =
    with_line (record s {
      sends = s.sends ++ record { at = s.moment; sender = s.mote; number = s.sent; value = value } ∷ [];
      sent = s.sent + 1;
    }) (what.Send s.sent value)

abbrev pub fresh_remainders : KernelState → Proc → List Remainder
fresh_remainders s (Own p) = fresh_at s.program.codes s.remainders p
fresh_remainders s p = s.remainders

abbrev pub with_started : KernelState → Proc → KernelState
with_started s p =
    with_line (record (with_state (record s {
      members = record { process = p; incarnation = s.started } ∷ s.members;
      started = s.started + 1;
    }) p Running) { remainders = fresh_remainders s p }) (what.Start p)

abbrev pub without_process : KernelState → Proc → KernelState
without_process s p = with_line (unlisted_of (with_exiting s p false) p) (what.Leave p)

pub enlist_is : (s : KernelState) (p : Proc) → enlist_of s p ≡ Goes tt (with_started s p)
unfolding enlist_of write_of with_state
enlist_is s (Own p) = refl
enlist_is s x = refl

stepped_fits : (variables : Option (List ℕ)) (s : KernelState) (code : Code) (r : Remainder) (p : ℕ) (e : Event) → FitsStep (stepped_with variables s code r p e).step
stepped_fits (Some variables) s code r p e = fits_advanced code e (looks_of s) r variables s.units
stepped_fits None s code r p e = tt

pub all_fits : (s : KernelState) (code : Code) (r : Remainder) (p : ℕ) (e : Event) → FitsStep (stepped_of s code r p e).step
unfolding stepped_of
all_fits s code r p e = stepped_fits _ s code r p e

-- a poll is requested, or nothing happens
pub polled_or_not : (P : KernelState → Type 0) (s : KernelState) (p : Proc) → P (record (with_needs_poll s p true) { poll_requested = true }) → P s → P (process_poll s p)
unfolding process_poll
polled_or_not P s p h i = by (is_alive (process_state s p))
  where
    by : (b : Bool) → P (if b then record (with_needs_poll s p true) { poll_requested = true } else s)
    by true = h
    by false = i

-- A boot or a kernel run of a mote that has halted changes nothing.
pub unless_halts : (P : Given → Type 0) (m : KernelModel) (lines : List Line) (sends : List Sent) (g : Given) → (m.halted ≡ true → P (record { ran = ran.Halted; mote = m; lines = lines; sends = sends })) → (m.halted ≡ false → P g) → P (unless_halted m lines sends g)
unless_halts P m lines sends g h i = by m.halted refl
  where
    by : (b : Bool) → m.halted ≡ b → P (if b then record { ran = ran.Halted; mote = m; lines = lines; sends = sends } else g)
    by true e = h e
    by false e = i e

-- Two relations from a state to a later one: the first if the kernel continues, and the second if the mote has halted.
module _ (Keeps Stops : KernelState → KernelState → Type 0) where
  abbrev pub Leads : {A : Type 0} → KernelState → Outcome A → Type 0
  Leads s (Ends t) = Stops s t
  Leads s (Goes a t) = Keeps s t

  -- an outcome that continues or ends
  pub record Lead (A : Type 0) (s : KernelState) (o : Outcome A) : Type 0 where
    pub leads : Leads s o

  -- two steps in a row
  pub record AreJoined : Type 0 where
    pub same : (s : KernelState) → Keeps s s
    pub joined : (a b c : KernelState) → Keeps a b → Keeps b c → Keeps a c
    pub ended : (a b c : KernelState) → Keeps a b → Stops b c → Stops a c

  module _ (chain : AreJoined) where
    -- chains of steps

    from_leads : (A : Type 0) (s t : KernelState) (o : Outcome A) → Keeps s t → Leads t o → Leads s o
    from_leads A s t (Ends u) h i = chain.ended s t u h i
    from_leads A s t (Goes a u) h i = chain.joined s t u h i

    pub lead_from : (A : Type 0) (s t : KernelState) (o : Outcome A) → Keeps s t → Lead A t o → Lead A s o
    lead_from A s t o h i = record { leads = from_leads A s t o h i.leads }

    bind_leads : (A B : Type 0) (s : KernelState) (o : Outcome A) (f : A → KernelState → Outcome B) → Leads s o → ((a : A) (t : KernelState) → Lead B t (f a t)) → Leads s (o >>= f)
    bind_leads A B s (Ends t) f h go = h
    bind_leads A B s (Goes a t) f h go = from_leads B s t (f a t) h (go a t).leads

    pub lead_bind : (A B : Type 0) (s : KernelState) (o : Outcome A) (f : A → KernelState → Outcome B) → Lead A s o → ((a : A) (t : KernelState) → Lead B t (f a t)) → Lead B s (o >>= f)
    lead_bind A B s o f h go = record { leads = bind_leads A B s o f h.leads go }

    -- a step, if more is known of the state from which it continues
    pub lead_knowing : (A B : Type 0) (P : KernelState → Type 0) (s : KernelState) (o : Outcome A) (f : A → KernelState → Outcome B) → Lead A s o → IfGoes P o → ((a : A) (t : KernelState) → P t → Lead B t (f a t)) → Lead B s (o >>= f)
    lead_knowing A B P s (Ends t) f h k go = record { leads = h.leads }
    lead_knowing A B P s (Goes a t) f h k go = lead_from B s t (f a t) h.leads (go a t k)

    pub bind_twice : (A B C : Type 0) (s : KernelState) (o : Outcome A) (h : A → KernelState → Outcome B) (g : B → KernelState → Outcome C) → Lead C s (o >>= λ a t. (h a t >>= g)) → Lead C s ((o >>= h) >>= g)
    bind_twice A B C s (Ends t) h g r = r
    bind_twice A B C s (Goes a t) h g r = r

    pub lead_if : (A : Type 0) (s : KernelState) (b : Bool) (o p : Outcome A) → Lead A s o → Lead A s p → Lead A s (if b then o else p)
    lead_if A s true o p h i = h
    lead_if A s false o p h i = i

    pub lead_goes : (A : Type 0) (s : KernelState) (a : A) (t : KernelState) → Keeps s t → Lead A s (Goes a t)
    lead_goes A s a t h = record { leads = h }

    pub lead_still : (A : Type 0) (s : KernelState) (a : A) → Lead A s (Goes a s)
    lead_still A s a = record { leads = chain.same s }

    pub keeps_if : (s : KernelState) (b : Bool) (t u : KernelState) → Keeps s t → Keeps s u → Keeps s (if b then t else u)
    keeps_if s true t u h i = h
    keeps_if s false t u h i = i

    pub keeps_cases : (s : KernelState) (b : Bool) (t u : KernelState) → (b ≡ true → Keeps s t) → (b ≡ false → Keeps s u) → Keeps s (if b then t else u)
    keeps_cases s true t u h i = h refl
    keeps_cases s false t u h i = i refl

    pub lead_cases : (A : Type 0) (s : KernelState) (b : Bool) (o p : Outcome A) → (b ≡ true → Lead A s o) → (b ≡ false → Lead A s p) → Lead A s (if b then o else p)
    lead_cases A s true o p h i = h refl
    lead_cases A s false o p h i = i refl

    lead_option : (A X : Type 0) (s : KernelState) (x : Option X) (o : Outcome A) (f : X → Outcome A) → Lead A s o → ((y : X) → Lead A s (f y)) → Lead A s (elim x [ None ↦ o | Some y ↦ f y ])
    lead_option A X s None o f h i = h
    lead_option A X s (Some y) o f h i = i y

    lead_nested : (A B C : Type 0) (s : KernelState) (o : Outcome A) (f : A → KernelState → Outcome B) (g : B → KernelState → Outcome C) → Lead C s ((o >>= f) >>= g) → Lead C s (o >>= λ a t. (f a t >>= g))
    lead_nested A B C s (Ends t) f g r = r
    lead_nested A B C s (Goes a t) f g r = r

    -- A post, a packet, and a timer that is set, if each of their parts is a step.

    pub lead_post : (s : KernelState) (t : Target) (e : Event) → Stops s (halted_of s) → Keeps s (with_line s (what.Full t e.number e.word)) → Keeps s (with_event s t e) → Lead Bool s (process_post s t e)
    unfolding process_post write_of
    lead_post s t e halts full accepted =
        lead_if _ s (nat_le (2 ^ 62) s.queue.accepted) _ _ (record { leads = halts })
        (lead_if _ s (nat_le s.queue.capacity (length s.queue.events)) _ _ (record { leads = full }) (record { leads = accepted }))

    pub lead_send : (s : KernelState) (v : ℕ) → Stops s (halted_of s) → Keeps s (with_sent s v) → Lead (Unit {0}) s (send_of s v)
    unfolding send_of write_of
    lead_send s v halts sent = lead_if _ s (nat_le (2 ^ 62) s.sent) _ _ (record { leads = halts }) (record { leads = sent })

    pub keeps_poll : (s : KernelState) (p : Proc) → Keeps s (record (with_needs_poll s p true) { poll_requested = true }) → Keeps s (process_poll s p)
    keeps_poll s p polled = polled_or_not (Keeps s) s p polled (chain.same s)

    pub keeps_set : (s : KernelState) (timers : TimerLists) (timer : ℕ) → ((callbacks : List ℕ) → Keeps s (record s { timers = timers; callbacks = callbacks })) → ((t : KernelState) → Keeps t (process_poll t Etimer))
        → Keeps s (add_timer (record s { timers = timers }) timer)
    unfolding add_timer
    keeps_set s timers timer changed polled = chain.joined s _ _ (changed _) (polled _)

    -- the radio's poll: the packet in front leaves the ring, and its line is written
    pub record AreRingSteps : Type 0 where
      pub accepted : (s : KernelState) (a : Arrival) (later : List Arrival) (p : ℕ) → s.ring ≡ a ∷ later → s.program.receiver ≡ Some p → Keeps s (with_event (record s { ring = later }) (One (Own p)) (packet_of a))
      pub refused : (s : KernelState) (a : Arrival) (later : List Arrival) (p : ℕ) → s.ring ≡ a ∷ later → s.program.receiver ≡ Some p → Keeps s (with_line (record s { ring = later }) (what.Full (One (Own p)) (system_number Packet) a.value))
      pub deaf : (s : KernelState) (a : Arrival) (later : List Arrival) → s.ring ≡ a ∷ later → s.program.receiver ≡ None → Keeps s (with_line (record s { ring = later }) (what.Deaf a.sender a.number))
      pub halts : (s : KernelState) (later : List Arrival) → Stops s (halted_of (record s { ring = later }))

    module _ (steps : AreRingSteps) where
      hand_led : (receiver : Option ℕ) (a : Arrival) (later : List Arrival) (s : KernelState) → s.ring ≡ a ∷ later → s.program.receiver ≡ receiver → Lead (Unit {0}) s (hand_to receiver (record s { ring = later }) a)
      unfolding hand_to process_post write_of
      hand_led (Some p) a later s ring r =
          lead_bind _ _ s _ _ (lead_if Bool s (nat_le (2 ^ 62) s.queue.accepted) _ _ (record { leads = steps.halts s later })
          (lead_if Bool s (nat_le s.queue.capacity (length s.queue.events)) _ _ (record { leads = steps.refused s a later p ring r })
          (record { leads = steps.accepted s a later p ring r }))) (λ full t. lead_still _ t tt)
      hand_led None a later s ring r = record { leads = steps.deaf s a later ring r }

      pub empty_led : (receiver : Option ℕ) (packets : List Arrival) (s : KernelState) → s.ring ≡ packets → s.program.receiver ≡ receiver → Lead (Unit {0}) s (empty_ring receiver packets s)
      empty_led receiver [] s ring r = lead_still _ s tt
      empty_led receiver (a ∷ later) s ring r =
          lead_knowing _ _ (Handed receiver (record s { ring = later }) a) s _ _ (hand_led receiver a later s ring r) (hand_tells receiver (record s { ring = later }) a)
          (λ u t h. empty_led receiver later t h.0.ring (ap (λ p. p.receiver) h.0.program ∙ r))

    -- the steps of boots and kernel runs outside of calls
    pub record AreRunSteps : Type 0 where
      pub unrequested : (s : KernelState) → Keeps s (record s { poll_requested = false })
      pub cleared : (s : KernelState) (p : Proc) → Keeps s (with_needs_poll s p false)
      pub front : (s : KernelState) → Keeps s (record s { queue = without_front s.queue })
      pub takes : (s : KernelState) (serial : ℕ) (p : Proc) → Keeps s (with_line s (what.Take serial p))
      pub drops : (s : KernelState) (serial : ℕ) (p : Proc) → Keeps s (with_line s (what.Drop serial p))

    module _ (calls : Calls) where
      -- the polls, if a call with POLL consists of steps
      pub polls_led : ((s : KernelState) → Keeps s (record s { poll_requested = false })) → ((s : KernelState) (p : Proc) → Keeps s (with_needs_poll s p false)) → ((s : KernelState) (p : Proc) → Lead (Unit {0}) s (calls.call s p (own_event Poll 0)))
          → (ms : List Member) (s : KernelState) → Lead (Unit {0}) s (walk_polls calls ms s)
      unfolding poll_turn_of
      polls_led unrequested cleared polled [] s = lead_still _ s tt
      polls_led unrequested cleared polled (m ∷ ms) s =
          lead_bind _ _ s _ _ (lead_if _ s _ _ _ (lead_from _ s _ _ (cleared s m.process) (polled _ m.process)) (lead_still _ s tt)) (λ a t. polls_led unrequested cleared polled ms t)

      pub polls_due_led : ((s : KernelState) → Keeps s (record s { poll_requested = false })) → ((s : KernelState) (p : Proc) → Keeps s (with_needs_poll s p false)) → ((s : KernelState) (p : Proc) → Lead (Unit {0}) s (calls.call s p (own_event Poll 0)))
          → (s : KernelState) → Lead (Unit {0}) s (do_poll_if_requested calls s)
      unfolding do_poll_if_requested do_poll
      polls_due_led unrequested cleared polled s = lead_if _ s s.poll_requested _ _ (lead_from _ s _ _ (unrequested s) (polls_led unrequested cleared polled s.members _)) (lead_still _ s tt)

      starts_led : ((s : KernelState) (p : Proc) → Lead (Unit {0}) s (process_start calls s p)) → (ps : List Proc) (s : KernelState) → Lead (Unit {0}) s (autostart_start calls ps s)
      starts_led started [] s = lead_still _ s tt
      starts_led started (p ∷ ps) s = lead_bind _ _ s _ _ (started s p) (λ u t. starts_led started ps t)

      pub boot_led : ((s : KernelState) (p : Proc) → Lead (Unit {0}) s (process_start calls s p)) → (s : KernelState) → Lead ℕ s (boot_of calls s)
      unfolding boot_of
      boot_led started s = lead_bind _ _ s _ _ (starts_led started (Etimer ∷ Ctimer ∷ Radio ∷ map Own s.program.autostart) s) (λ u t. lead_still _ t _)

      -- kernel runs, if each call consists of steps
      module _ (steps : AreRunSteps) (called : (s : KernelState) (p : Proc) (e : Event) → Lead (Unit {0}) s (calls.call s p e)) where
        due_polls_led : (s : KernelState) → Lead (Unit {0}) s (do_poll_if_requested calls s)
        due_polls_led s = polls_due_led steps.unrequested steps.cleared (λ t p. called t p _) s

        pub give_led : (s : KernelState) (x : Posted) (p : Proc) (there : Bool) → Lead (Unit {0}) s (give_of calls s x p there)
        unfolding give_of write_of
        give_led s x p there = lead_if _ s there _ _ (lead_from _ s _ _ (steps.takes s x.serial p) (called _ p x.event)) (lead_goes _ s tt _ (steps.drops s x.serial p))

        walk_broadcast_led : (x : Posted) (ms : List Member) (s : KernelState) → Lead (Unit {0}) s (walk_broadcast calls x ms s)
        unfolding visit_of
        walk_broadcast_led x [] s = lead_still _ s tt
        walk_broadcast_led x (m ∷ ms) s =
            lead_bind _ _ s _ _ (lead_bind _ _ s _ _ (due_polls_led s) (λ a t. give_led t x m.process (is_on_list t m))) (λ a t. walk_broadcast_led x ms t)

        target_led : (target : Target) (s : KernelState) (x : Posted) → Lead (Unit {0}) s (deliver_to target calls s x)
        target_led (One p) s x = give_led s x p (is_listed s p)
        target_led ToEach s x = walk_broadcast_led x s.members s

        pub front_led : (q : List Posted) (s : KernelState) → Lead (Unit {0}) s (do_event calls q s)
        unfolding deliver_of
        front_led [] s = lead_still _ s tt
        front_led (x ∷ q) s = lead_from _ s _ _ (steps.front s) (target_led x.target _ x)

        pub kernel_led : (s : KernelState) → Lead ℕ s (process_run calls s)
        unfolding process_run
        kernel_led s = lead_bind _ _ s _ _ (due_polls_led s) (λ a t. lead_bind _ _ t _ _ (front_led t.queue.events t) (λ b u. lead_still _ u _))

    -- the processes that may be exited, and the processes of the program that are observed
    module _ (Leaves : Proc → Type 0) (Ours : ℕ → Type 0) where
      -- a process that is observed: one of these, or a system process
      abbrev pub IsOurs : Proc → Type 0
      IsOurs (Own p) = Ours p
      IsOurs p = Unit {0}

      -- The brackets of a call, of an exit, and of the exit of a process that its own call ends. With steps between
      -- the two sides, brackets are a step.
      pub record AreBrackets : Type 0 where
        pub call : (s t : KernelState) (p : Proc) → IsOurs p → is_running s p ≡ true → Keeps (with_state s p Called) t → Keeps s (with_state t p Running)
        pub call_stops : (s t : KernelState) (p : Proc) → IsOurs p → is_running s p ≡ true → Stops (with_state s p Called) t → Stops s t
        pub exit : (s t : KernelState) (p : Proc) → IsOurs p → Leaves p → is_busy s p ≡ false → is_listed s p ≡ true → Keeps (exiting_of s p) t → Keeps s (without_process t p)
        pub exit_stops : (s t : KernelState) (p : Proc) → IsOurs p → Leaves p → is_busy s p ≡ false → is_listed s p ≡ true → Stops (exiting_of s p) t → Stops s t
        pub last : (s t u : KernelState) (p : Proc) → IsOurs p → Leaves p → is_running s p ≡ true → Keeps (with_state s p Called) t → is_listed t p ≡ true → Keeps (exiting_of t p) u → Keeps s (without_process u p)
        pub last_stops : (s t u : KernelState) (p : Proc) → IsOurs p → Leaves p → is_running s p ≡ true → Keeps (with_state s p Called) t → is_listed t p ≡ true → Stops (exiting_of t p) u → Stops s u
        pub gone : (s t : KernelState) (p : Proc) → IsOurs p → is_running s p ≡ true → Keeps (with_state s p Called) t → is_listed t p ≡ false → Keeps s t

      -- brackets of which both sides are steps
      pub brackets_of : ((s : KernelState) (p : Proc) → IsOurs p → Keeps s (with_state s p Called)) → ((s : KernelState) (p : Proc) → IsOurs p → Keeps s (with_state s p Running)) → ((s : KernelState) (p : Proc) → IsOurs p → Leaves p → Keeps s (exiting_of s p))
          → ((s : KernelState) (p : Proc) → IsOurs p → Leaves p → Keeps s (without_process s p)) → AreBrackets
      brackets_of called runs exiting leaves = record {
        call = λ s t p o r k. chain.joined s _ _ (called s p o) (chain.joined _ t _ k (runs t p o));
        call_stops = λ s t p o r k. chain.ended s _ t (called s p o) k;
        exit = λ s t p o l b i k. chain.joined s _ _ (exiting s p o l) (chain.joined _ t _ k (leaves t p o l));
        exit_stops = λ s t p o l b i k. chain.ended s _ t (exiting s p o l) k;
        last = λ s t u p o l r k i h. chain.joined s _ _ (called s p o) (chain.joined _ t _ k (chain.joined t _ _ (exiting t p o l) (chain.joined _ u _ h (leaves u p o l))));
        last_stops = λ s t u p o l r k i h. chain.ended s _ u (called s p o) (chain.ended _ t u k (chain.ended t _ u (exiting t p o l) h));
        gone = λ s t p o r k i. chain.joined s _ t (called s p o) k;
      }

      -- all small steps and the brackets
      pub record AreSteps : Type 0 where
        pub own : (p : Proc) → IsOwnProcess p → Leaves p
        pub brackets : AreBrackets
        pub halts : (s : KernelState) → Stops s (halted_of s)
        pub units : (s : KernelState) (n : ℕ) → n ≤ s.units → Keeps s (record s { units = n })
        pub busy : (s : KernelState) (p : Proc) → Keeps s (with_line s (what.Busy p))
        pub prints : (s : KernelState) (p v : ℕ) → Ours p → Keeps s (with_line s (what.Print (Own p) v))
        pub polled : (s : KernelState) (p : Proc) → Keeps s (process_poll s p)
        pub remainder : (s : KernelState) (p : ℕ) (r : Remainder) → Ours p → Keeps s (put_remainder s p r)
        pub fresh : (s : KernelState) (p : ℕ) → Ours p → Keeps s (with_fresh_body s p)
        pub variables : (s : KernelState) (p : ℕ) (vs : List ℕ) (units : ℕ) → Ours p → units ≤ s.units → Keeps s (record s { variables = slice_set s.variables p vs; units = units })
        pub sets : (s : KernelState) (timer start interval : ℕ) (owner : Proc) → has_timer s timer ≡ true
            → Keeps s (add_timer (record s { timers = with_timer s.timers timer (record { start = start; interval = interval; owner = Some owner }) }) timer)
        pub stops : (s : KernelState) (timer : ℕ) → Keeps s (record s { timers = stop_timer s.timers timer })
        pub purges : (s : KernelState) (p : Proc) → Keeps s (record s { timers = purge_timers s.timers p })
        pub callbacks : (s : KernelState) (ts : List ℕ) → Keeps s (record s { callbacks = ts })
        pub semaphores : (s : KernelState) (ns : List ℕ) → Keeps s (record s { semaphores = ns })
        pub full : (s : KernelState) (t : Target) (e : Event) → Keeps s (with_line s (what.Full t e.number e.word))
        pub posts : (s : KernelState) (t : Target) (e : Event) → FitsTarget t e.number → Keeps s (with_event s t e)
        pub sends : (s : KernelState) (v : ℕ) → Keeps s (with_sent s v)
        pub starts : (s : KernelState) (p : Proc) → IsOurs p → is_busy s p ≡ false → has_process s p ≡ true → is_listed s p ≡ false → Keeps s (with_started s p)
        pub ring : AreRingSteps

      -- an event that may reach this process: an exit, only if the process may leave
      abbrev pub Fits : Proc → (number : ℕ) → Type 0
      Fits p number = number ≡ system_number Exit → Leaves p

      pub fits_no_exit : (p : Proc) (number : ℕ) → (number == system_number Exit) ≡ false → Fits p number
      fits_no_exit p number e = λ q. absurd (grind (arith, nat_tests))

      -- the calls of a process, and the runs of a thread
      pub record AreLed (calls : Calls) : Type 0 where
        pub call : (s : KernelState) (p : Proc) (e : Event) → Fits p e.number → Lead (Unit {0}) s (calls.call s p e)
        pub run : (s : KernelState) (code : Code) (r : Remainder) (p : ℕ) (e : Event) → Ours p → Lead Answer s (calls.run s code r p e)
        pub callback : (s : KernelState) (code : Code) (p : ℕ) (e : Event) → slice_get s.program.codes p ≡ Some code → Lead Answer s (calls.run s code (fresh_of code (Callback e.word)) p e)

      -- the conditions of an operation of the current process
      abbrev pub Allowed : (current : ℕ) → Op → Type 0
      Allowed current (op.Synch p e w) = Fits p e
      Allowed current (op.Kill p) = Leaves p
      Allowed current (op.Print v) = Ours current
      Allowed current o = Unit {0}

      module _ (steps : AreSteps) where
        lead_halts : (A : Type 0) (s : KernelState) → Lead A s (Ends (halted_of s))
        lead_halts A s = record { leads = steps.halts s }

        -- small steps, as the rules have them

        busy_led : (s : KernelState) (p : Proc) → Lead (Unit {0}) s (write_of s (what.Busy p))
        unfolding write_of
        busy_led s p = record { leads = steps.busy s p }

        pub spend_led : (s : KernelState) → Lead (Unit {0}) s (spend_of s)
        unfolding spend_of
        spend_led s = lead_if _ s (s.units == 0) _ _ (lead_halts _ s) (lead_goes _ s tt _ (steps.units s _ (omega arith)))

        pub post_led : (s : KernelState) (t : Target) (e : Event) → FitsTarget t e.number → Lead Bool s (process_post s t e)
        post_led s t e f = lead_post s t e (steps.halts s) (steps.full s t e) (steps.posts s t e f)

        pub send_led : (s : KernelState) (v : ℕ) → Lead (Unit {0}) s (send_of s v)
        send_led s v = lead_send s v (steps.halts s) (steps.sends s v)

        pub enlist_led : (s : KernelState) (p : Proc) → IsOurs p → is_busy s p ≡ false → has_process s p ≡ true → is_listed s p ≡ false → Lead (Unit {0}) s (enlist_of s p)
        enlist_led s p o b h l = subst (λ o. Lead (Unit {0}) s o) (sym (enlist_is s p)) (lead_goes _ s tt _ (steps.starts s p o b h l))

        sets_kept : (s : KernelState) (t n p : ℕ) → Keeps s (etimer_set s t n p)
        unfolding etimer_set set_timer
        sets_kept s t n p = keeps_cases s (has_timer s t) _ s (λ there. steps.sets s t _ _ _ there) (λ none. chain.same s)

        resets_kept : (s : KernelState) (t p : ℕ) → Keeps s (etimer_reset s t p)
        unfolding etimer_reset reset_timer
        resets_kept s t p = keeps_cases s (has_timer s t) _ s (λ there. steps.sets s t _ _ _ there) (λ none. chain.same s)

        restarts_kept : (s : KernelState) (t p : ℕ) → Keeps s (etimer_restart s t p)
        unfolding etimer_restart restart_timer
        restarts_kept s t p = keeps_cases s (has_timer s t) _ s (λ there. steps.sets s t _ _ _ there) (λ none. chain.same s)

        stops_kept : (s : KernelState) (t : ℕ) → Keeps s (etimer_stop s t)
        unfolding etimer_stop
        stops_kept s t = keeps_if s (has_timer s t) _ s (chain.joined s _ _ (steps.stops s t) (steps.callbacks _ _)) (chain.same s)

        fired_kept : (s : KernelState) (t : ℕ) → Keeps s (fired_of s t)
        unfolding fired_of
        fired_kept s t = steps.stops s t

        purged_kept : (s : KernelState) (p : ℕ) → Keeps s (purge_of s p)
        unfolding purge_of
        purged_kept s p = keeps_if s (nat_lt p 256) _ s (steps.purges s (Own p)) (chain.same s)

        taken_kept : (s : KernelState) (k : ℕ) → Keeps s (take_of s k)
        unfolding take_of
        taken_kept s k = steps.semaphores s _

        signalled_kept : (s : KernelState) (k : ℕ) → Keeps s (signal_of s k)
        unfolding signal_of
        signalled_kept s k = steps.semaphores s _

        pays_less : (x : Step) (before after : ℕ) → PaysFor x before after → after ≤ before
        pays_less (step.Op o) before after h = omega (arith, h)
        pays_less (step.Done a) before after h = h
        pays_less step.Runaway before after h = h

        stepped_as : (variables : Option (List ℕ)) (s : KernelState) (code : Code) (r : Remainder) (p : ℕ) (e : Event) → Ours p → Keeps s (stepped_with variables s code r p e).state
        stepped_as (Some variables) s code r p e o = steps.variables s p _ _ o (pays_less _ _ _ (costs code e (looks_of s) r variables s.units))
        stepped_as None s code r p e o = chain.same s

        stepped_kept : (s : KernelState) (code : Code) (r : Remainder) (p : ℕ) (e : Event) → Ours p → Keeps s (stepped_of s code r p e).state
        unfolding stepped_of
        stepped_kept s code r p e o = stepped_as _ s code r p e o

        answered_as : (variables : Option (List ℕ)) (s : KernelState) (r : Remainder) (p answer : ℕ) → Ours p → Lead Remainder s (answered_with variables s r p answer)
        answered_as (Some variables) s r p answer o = lead_goes _ s _ _ (steps.variables s p _ s.units o (omega arith))
        answered_as None s r p answer o = lead_still _ s r

        answers_led : (s : KernelState) (r : Remainder) (p : ℕ) (full : Bool) → Ours p → Lead Remainder s (answer_of s r p full)
        unfolding answer_of
        answers_led s r p full o = answered_as _ s r p _ o

        -- the etimer process

        due_led : (again on : KernelState → Went) → ((s : KernelState) → Lead (Unit {0}) s (again s)) → ((s : KernelState) → Lead (Unit {0}) s (on s)) → (s : KernelState) (timer : ℕ) (owner : Option Proc) → Lead (Unit {0}) s (post_due again on s timer owner)
        due_led again on h i s timer None = i s
        due_led again on h i s timer (Some owner) =
            lead_bind _ _ s _ _ (post_led s _ (own_event Timer timer) (λ q. absurd (grind (arith, nat_tests)))) (λ full t. lead_if _ t full _ _ (lead_from _ t _ _ (steps.polled t Etimer) (i _)) (lead_from _ t _ _ (fired_kept t timer) (h _)))

        pub walk_timers_led : (again : KernelState → Went) → ((s : KernelState) → Lead (Unit {0}) s (again s)) → (ts : List ℕ) (s : KernelState) → Lead (Unit {0}) s (walk_timers again ts s)
        walk_timers_led again h [] s = lead_still _ s tt
        walk_timers_led again h (t ∷ ts) s =
            lead_if _ s (is_due s.moment (timer_at s.timers.timers t)) _ _ (due_led again (walk_timers again ts) h (walk_timers_led again h ts) s t _) (walk_timers_led again h ts s)

        pub walks_led : (k : ℕ) (s : KernelState) → Lead (Unit {0}) s (walks_of k s)
        walks_led zero s = lead_still _ s tt
        walks_led (suc k) s = walk_timers_led (walks_of k) (walks_led k) s.timers.listed s

        pub etimer_led : (s : KernelState) (e : Event) → Lead (Unit {0}) s (etimer_process s e)
        unfolding etimer_process pass_of
        etimer_led s e =
            lead_if _ s (is_system_event Poll e) _ _ (walks_led _ s) (lead_if _ s (is_system_event Exited e) _ _ (lead_goes _ s tt _ (purged_kept s e.word)) (lead_still _ s tt))

        -- the radio process
        pub radio_led : (s : KernelState) (e : Event) → Lead (Unit {0}) s (radio_process s e)
        unfolding radio_process
        radio_led s e = lead_if _ s (is_system_event Poll e) _ _ (empty_led steps.ring s.program.receiver s.ring s refl refl) (lead_still _ s tt)

        module _ (calls : Calls) (are : AreLed calls) where
          walk_led : (e : Event) → (is_system_event Exit e) ≡ false → (p : Proc) (ms : List Member) (s : KernelState) → Lead (Unit {0}) s (walk_of calls e p ms s)
          walk_led e f p [] s = lead_still _ s tt
          walk_led e f p (m ∷ ms) s =
              lead_bind _ _ s _ _ (lead_if _ s _ _ _ (are.call s m.process e (fits_no_exit m.process e.number f)) (lead_still _ s tt)) (λ a t. walk_led e f p ms t)

          handler_led : (s : KernelState) (code : Code) (p : ℕ) (e : Event) → Ours p → Lead (Unit {0}) s (handler_of calls s code p e)
          unfolding handler_of
          handler_led s code p e o =
              lead_if _ s (is_system_event Poll e) _ _ (lead_bind _ _ s _ _ (are.run s code (fresh_of code OnPoll) p e o) (λ a t. lead_still _ t tt))
              (lead_if _ s (is_system_event Exit e) _ _ (lead_bind _ _ s _ _ (are.run s code (fresh_of code OnExit) p e o) (λ a t. lead_still _ t tt)) (lead_still _ s tt))

          resume_led : (s : KernelState) (code : Code) (p : ℕ) (e : Event) → Ours p → Lead PtState s (resume_of calls s code p e)
          unfolding resume_of
          resume_led s code p e o =
              lead_bind _ _ s _ _ (lead_from _ s (with_fresh_body s p) _ (steps.fresh s p o) (are.run _ code _ p e o)) (λ a t. lead_goes _ t _ _ (steps.remainder t p _ o))

          own_led : (s : KernelState) (p : ℕ) (e : Event) → Ours p → Lead PtState s (own_of calls s p e)
          unfolding own_of
          own_led s p e o =
              lead_option PtState Code s (slice_get s.program.codes p) (Goes Ended s) (λ code. handler_of calls s code p e >>= λ u t. resume_of calls t code p e) (lead_still _ s Ended) (λ code. lead_bind _ _ s _ _ (handler_led s code p e o) (λ u t. resume_led t code p e o))

          code_led : (s : KernelState) (e : Event) (p : ℕ) (code : Option Code) → slice_get s.program.codes p ≡ code → Lead (Unit {0}) s (elim code [ None ↦ Goes tt s | Some c ↦ calls.run s c (fresh_of c (Callback e.word)) p e >>= λ _ s1. Goes tt s1 ])
          code_led s e p None is = lead_still _ s tt
          code_led s e p (Some c) is = lead_bind _ _ s _ _ (are.callback s c p e is) (λ a t. lead_still _ t tt)

          callback_led : (s : KernelState) (e : Event) → Lead (Unit {0}) s (callback_of calls s e)
          unfolding callback_of
          callback_led s e = lead_option (Unit {0}) TimerOfProgram s (slice_get s.program.timers e.word) (Goes tt s) _ (lead_still _ s tt) (λ t. code_led s e t.process (slice_get s.program.codes t.process) refl)

          ctimer_led : (s : KernelState) (e : Event) → Lead (Unit {0}) s (ctimer_process calls s e)
          unfolding ctimer_process
          ctimer_led s e = lead_if _ s (is_system_event Timer e && waits_for s e.word) _ _ (lead_from _ s _ _ (steps.callbacks s _) (callback_led _ e)) (lead_still _ s tt)

          react_led : (s : KernelState) (p : Proc) (e : Event) → IsOurs p → Lead PtState s (react_of calls s p e)
          unfolding react_of
          react_led s (Own p) e o = own_led s p e o
          react_led s Etimer e o = lead_bind _ _ s _ _ (etimer_led s e) (λ u t. lead_still _ t Yielded)
          react_led s Ctimer e o = lead_bind _ _ s _ _ (ctimer_led s e) (λ u t. lead_still _ t Yielded)
          react_led s Radio e o = lead_bind _ _ s _ _ (radio_led s e) (λ u t. lead_still _ t Yielded)

          last_run_led : (s : KernelState) (p : Proc) → IsOurs p → Lead (Unit {0}) s (last_run_of calls s p)
          unfolding last_run_of
          last_run_led s p o = lead_bind _ _ s _ _ (spend_led s) (λ u t. lead_bind _ _ t _ _ (react_led t p _ o) (λ a v. lead_still _ v tt))

          -- the walk and the last run of a process that is being exited
          exiting_led : (s : KernelState) (p f : Proc) (ms : List Member) → IsOurs p → Lead (Unit {0}) s (walk_of calls (own_event Exited (process_number p)) p ms s >>= λ _ t. if is_same p f then Goes tt t else last_run_of calls t p)
          exiting_led s p f ms o = lead_bind _ _ s _ _ (walk_led (own_event Exited (process_number p)) refl p ms s) (λ a t. lead_if _ t (is_same p f) _ _ (lead_still _ t tt) (last_run_led t p o))

          left_led : (s t : KernelState) (p : Proc) (o : Went) → Leads t o → ((u : KernelState) → Keeps t u → Keeps s (without_process u p)) → ((u : KernelState) → Stops t u → Stops s u) → Leads s (o >>= λ _ u. leave_of u p)
          unfolding leave_of write_of
          left_led s t p (Ends u) h kept stopped = stopped u h
          left_led s t p (Goes a u) h kept stopped = kept u h

          -- an exit that began in a state t and is a step from s on
          leaves_led : (s t : KernelState) (p f : Proc) (ms : List Member) → IsOurs p → ((u : KernelState) → Keeps t u → Keeps s (without_process u p)) → ((u : KernelState) → Stops t u → Stops s u)
              → Lead (Unit {0}) s (walk_of calls (own_event Exited (process_number p)) p ms t >>= λ _ u. ((if is_same p f then Goes tt u else last_run_of calls u p) >>= λ _ v. leave_of v p))
          leaves_led s t p f ms o kept stopped =
              lead_nested (Unit {0}) (Unit {0}) (Unit {0}) s (walk_of calls (own_event Exited (process_number p)) p ms t) (λ _ u. if is_same p f then Goes tt u else last_run_of calls u p) (λ _ v. leave_of v p)
              (record { leads = left_led s t p _ (exiting_led t p f ms o).leads kept stopped })

          exit_led : (s : KernelState) (p f : Proc) → IsOurs p → Leaves p → is_busy s p ≡ false → Lead (Unit {0}) s (exit_process calls s p f)
          unfolding exit_process
          exit_led s p f o l b =
              lead_cases _ s (is_listed s p) _ _ (λ i. leaves_led s (exiting_of s p) p f s.members o (λ u k. steps.brackets.exit s u p o l b i k) (λ u k. steps.brackets.exit_stops s u p o l b i k)) (λ i. lead_still _ s tt)

          parts : (b c : Bool) → (b && not c) ≡ true → (b ≡ true) × (c ≡ false)
          parts true false e = (refl, refl)
          parts true true e = absurd (cc)
          parts false c e = absurd (cc)

          pub start_led : (s : KernelState) (p : Proc) → IsOurs p → Lead (Unit {0}) s (process_start calls s p)
          unfolding process_start
          start_led s p o =
              lead_cases _ s (is_busy s p) _ _ (λ b. busy_led s p) (λ b. lead_cases _ s (has_process s p && not (is_listed s p)) _ _ (λ l.
              let h = parts (has_process s p) _ l in
              lead_bind _ _ s _ _ (enlist_led s p o b h.0 h.1) (λ a t. are.call t p _ (fits_no_exit p _ refl))) (λ l. lead_still _ s tt))

          pub kill_led : (s : KernelState) (p : Proc) (current : ℕ) → IsOurs p → Leaves p → Lead (Unit {0}) s (process_exit calls s p current)
          unfolding process_exit
          kill_led s p current o l = lead_cases _ s (is_busy s p) _ _ (λ b. busy_led s p) (λ b. exit_led s p (Own current) o l b)

          -- the operations of a thread, if each start and each kill consists of steps
          module _ (started : (s : KernelState) (p : Proc) → Lead (Unit {0}) s (process_start calls s p)) (killed : (s : KernelState) (p : Proc) (current : ℕ) → Leaves p → Lead (Unit {0}) s (process_exit calls s p current)) where
            pub act_led : (s : KernelState) (current : ℕ) (o : Op) → Allowed current o → Lead (Unit {0}) s (act_of calls s current o)
            unfolding act_of write_of
            act_led s current (op.Post t e w) f = lead_still _ s tt
            act_led s current (op.Synch p e w) f = are.call s p _ f
            act_led s current (op.Poll p) f = lead_goes _ s tt _ (steps.polled s p)
            act_led s current (op.Start p) f = started s p
            act_led s current (op.Kill p) f = killed s p current f
            act_led s current (op.Set t n) f = lead_goes _ s tt _ (sets_kept s t n current)
            act_led s current (op.Reset t) f = lead_goes _ s tt _ (resets_kept s t current)
            act_led s current (op.RestartTimer t) f = lead_goes _ s tt _ (restarts_kept s t current)
            act_led s current (op.Stop t) f = lead_goes _ s tt _ (stops_kept s t)
            act_led s current (op.Send v) f = send_led s v
            act_led s current (op.Print v) f = lead_goes _ s tt _ (steps.prints s current v f)
            act_led s current (op.Take k) f = lead_goes _ s tt _ (taken_kept s k)
            act_led s current (op.Signal k) f = lead_goes _ s tt _ (signalled_kept s k)

            allowed : (current : ℕ) (x : Op) → FitsOp x → Ours current → Allowed current x
            allowed current (op.Synch p e w) f o = λ q. steps.own p (f q)
            allowed current (op.Kill p) f o = steps.own p f
            allowed current (op.Print v) f o = o
            allowed current x f o = tt

            perform_led : (s : KernelState) (code : Code) (r : Remainder) (current : ℕ) (x : Op) → FitsOp x → Ours current → Lead Remainder s (perform_of calls s r current x)
            unfolding perform_of
            perform_led s code r current (op.Post to e w) f o = lead_bind _ _ s _ _ (post_led s to _ f) (λ full t. answers_led t r current full o)
            perform_led s code r current x f o = lead_bind _ _ s _ _ (act_led s current x (allowed current x f o)) (λ a t. lead_still _ t r)

            step_led : (code : Code) (p : ℕ) (e : Event) (x : Step) (r : Remainder) (s : KernelState) → FitsStep x → Ours p → Lead Answer s (after_step calls code p e x r s)
            step_led code p e (step.Op x) r s f o = lead_bind _ _ s _ _ (perform_led s code r p x f o) (λ r1 t. are.run t code r1 p e o)
            step_led code p e (step.Done answer) r s f o = lead_still _ s _
            step_led code p e step.Runaway r s f o = lead_halts _ s

            pub one_run_led : (s : KernelState) (code : Code) (r : Remainder) (p : ℕ) (e : Event) → Ours p → Lead Answer s (run_of calls s code r p e)
            unfolding run_of
            one_run_led s code r p e o = lead_from _ s _ _ (stepped_kept s code r p e o) (step_led code p e _ _ _ (all_fits s code r p e) o)

          -- a call that has led from s to t
          answered_led : (s t : KernelState) (p : Proc) (ends : Bool) → IsOurs p → is_running s p ≡ true → (ends ≡ true → Leaves p) → Keeps (with_state s p Called) t → Lead (Unit {0}) s (answered calls t p ends)
          unfolding answered exit_process
          answered_led s t p true o r l k =
              lead_cases _ s (is_listed t p) _ _ (λ i. leaves_led s (exiting_of t p) p p t.members o (λ u h. steps.brackets.last s t u p o (l refl) r k i h) (λ u h. steps.brackets.last_stops s t u p o (l refl) r k i h))
              (λ i. lead_goes _ s tt t (steps.brackets.gone s t p o r k i))
          answered_led s t p false o r l k = lead_goes _ s tt _ (steps.brackets.call s t p o r k)

          -- a process of the program reacts, and its answer determines the next step
          reacted_led : (s : KernelState) (p : ℕ) (e : Event) (x : Outcome PtState) → Ours p → is_running s (Own p) ≡ true → Lead PtState (with_state s (Own p) Called) x
              → Lead (Unit {0}) s (x >>= λ answer t. answered calls t (Own p) (has_ended answer || is_system_event Exit e))
          reacted_led s p e (Ends t) o r h = record { leads = steps.brackets.call_stops s t (Own p) o r h.leads }
          reacted_led s p e (Goes c t) o r h = answered_led s t (Own p) (has_ended c || is_system_event Exit e) o r (λ q. steps.own (Own p) tt) h.leads

          -- a system process yields, and leaves only if it is exited
          system_led : (s : KernelState) (p : Proc) (e : Event) (x : Went) → IsOurs p → is_running s p ≡ true → Fits p e.number → Lead (Unit {0}) (with_state s p Called) x
              → Lead (Unit {0}) s ((x >>= λ _ t. Goes Yielded t) >>= λ answer t. answered calls t p (has_ended answer || is_system_event Exit e))
          system_led s p e (Ends t) o r f h = record { leads = steps.brackets.call_stops s t p o r h.leads }
          system_led s p e (Goes c t) o r f h = answered_led s t p (is_system_event Exit e) o r (λ q. f (grind (arith, nat_tests))) h.leads

          called_led : (s : KernelState) (p : Proc) (e : Event) → IsOurs p → is_running s p ≡ true → Fits p e.number
              → Lead (Unit {0}) s (react_of calls (with_state s p Called) p e >>= λ answer t. answered calls t p (has_ended answer || is_system_event Exit e))
          unfolding react_of
          called_led s (Own p) e o r f = reacted_led s p e _ o r (own_led _ p e o)
          called_led s Etimer e o r f = system_led s Etimer e _ o r f (etimer_led _ e)
          called_led s Ctimer e o r f = system_led s Ctimer e _ o r f (ctimer_led _ e)
          called_led s Radio e o r f = system_led s Radio e _ o r f (radio_led _ e)

          spent_led : (s : KernelState) (p : Proc) (e : Event) (none : Bool) → IsOurs p → is_running s p ≡ true → Fits p e.number
              → Lead (Unit {0}) s ((if none then Ends (halted_of s) else Goes (tt {0}) (record s { units = s.units - 1 })) >>= λ _ t. react_of calls (with_state t p Called) p e >>= λ answer u. answered calls u p (has_ended answer || is_system_event Exit e))
          spent_led s p e true o r f = lead_halts _ s
          spent_led s p e false o r f = lead_from _ s _ _ (steps.units s _ (omega arith)) (called_led _ p e o r f)

          pub call_led : (s : KernelState) (p : Proc) (e : Event) → IsOurs p → Fits p e.number → Lead (Unit {0}) s (call_process calls s p e)
          unfolding call_process spend_of
          call_led s p e o f = lead_cases _ s (is_running s p) _ _ (λ r. spent_led s p e _ o r f) (λ r. lead_still _ s tt)

    -- the case in which all processes are observed
    module _ (Leaves : Proc → Type 0) (steps : AreSteps Leaves Every) where
      pub ours : (p : Proc) → IsOurs Leaves Every p
      ours (Own p) = tt
      ours x = tt

      pub start_all : (calls : Calls) → AreLed Leaves Every calls → (s : KernelState) (p : Proc) → Lead (Unit {0}) s (process_start calls s p)
      start_all calls are s p = start_led Leaves Every steps calls are s p (ours p)

      run_all : (calls : Calls) → AreLed Leaves Every calls → (s : KernelState) (code : Code) (r : Remainder) (p : ℕ) (e : Event) → Lead Answer s (run_of calls s code r p e)
      run_all calls are s code r p e = one_run_led Leaves Every steps calls are (start_all calls are) (λ t q current l. kill_led Leaves Every steps calls are t q current (ours q) l) s code r p e tt

      pub calls_led : (k : ℕ) → AreLed Leaves Every (calls_of k)
      unfolding calls_of
      calls_led zero = record { call = λ s p e f. record { leads = steps.halts s }; run = λ s code r p e o. record { leads = steps.halts s }; callback = λ s code p e is. record { leads = steps.halts s } }
      calls_led (suc k) = record {
        call = λ s p e f. call_led Leaves Every steps (calls_of k) (calls_led k) s p e (ours p) f;
        run = λ s code r p e o. run_all (calls_of k) (calls_led k) s code r p e;
        callback = λ s code p e is. run_all (calls_of k) (calls_led k) s code _ p e;
      }

    -- boots and kernel runs at any depth, if any process may be exited
    module _ (steps : AreSteps AnyProcess Every) (run_steps : AreRunSteps) (depth : ℕ) where
      called_at : (s : KernelState) (p : Proc) (e : Event) → Lead (Unit {0}) s ((calls_of depth).call s p e)
      called_at s p e = (calls_led AnyProcess steps depth).call s p e (λ q. tt)

      pub runs_led : (s : KernelState) → Lead ℕ s (process_run (calls_of depth) s)
      runs_led s = kernel_led (calls_of depth) run_steps called_at s

      pub boots_led : (s : KernelState) → Lead ℕ s (boot_of (calls_of depth) s)
      boots_led s = boot_led (calls_of depth) (start_all AnyProcess steps (calls_of depth) (calls_led AnyProcess steps depth)) s

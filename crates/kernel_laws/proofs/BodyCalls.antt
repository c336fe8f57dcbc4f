-- After each call the lines about a process are still those of its lives, however deep calls nest.
use Rattle.std.proofs.Common.{ℕ, zero, suc, ◌≡◌, ◌⊎◌, inl, inr, not, ◌&&◌, ◌||◌, ◌==◌, Bool, true, false, if◌then◌else◌, List, [], ◌∷◌, ◌++◌, ◌+◌, Option, Some, None, slice_get, unwrap_or, refl, sym, ap, ◌∙◌, subst, append_assoc}
use Rattle.program_tree.specs.declared.event.Proc.{Proc}
use Rattle.program_tree.specs.declared.event.Proc.TheVariants.{Own, Etimer, Ctimer, Radio}
use Rattle.program_tree.specs.declared.event.Target.TheVariants.{One}
use Rattle.program_tree.specs.declared.event.Event.{Event}
use Rattle.program_tree.specs.declared.event.SystemEvent.TheVariants.{Poll, Exit, Exited, Init}
use Rattle.program_tree.specs.Code.{Code, Tree}
use Rattle.event_queue.specs.Queue.{with_posted}
use Rattle.protothread.specs.declared.part.Part.TheVariants.{Body, OnPoll, OnExit, Callback}
use Rattle.protothread.specs.declared.answer.PtState.{PtState}
use Rattle.protothread.specs.declared.answer.PtState.TheVariants.{Ended}
use Rattle.protothread.specs.declared.step.Op.{Op}
use Rattle.protothread.specs.declared.step.Op.TheVariants as op
use Rattle.protothread.specs.declared.step.Step.{Step}
use Rattle.protothread.specs.declared.step.Step.TheVariants as step
use Rattle.protothread.specs.Remainder.{Remainder, fresh_of}
use Rattle.protothread.specs.Step.{advanced_of, answered_of}
use Rattle.trace_lines.specs.declared.line.Line.{Line}
use Rattle.trace_lines.specs.declared.line.What.{What}
use Rattle.trace_lines.specs.declared.line.What.TheVariants as what
use Rattle.process_kernel.specs.declared.process.ProcessState.TheVariants.{Off, Running, Called}
use Rattle.process_kernel.specs.declared.process.Member.{Member}
use Rattle.process_kernel.specs.ProcessList.{place_of, is_same, is_running_state, has_process, is_busy, is_listed, is_running, with_state, put_remainder, with_fresh_body, enlist_of, exiting_of, leave_of}
use Rattle.process_kernel.specs.State.{KernelState, Outcome, Ends, Goes, ◌>>=◌, with_line, write_of, halted_of, spend_of, Calls, Answer}
use Rattle.process_kernel.specs.Posts.{process_post, own_event, is_system_event}
use Rattle.process_kernel.specs.Process.{walk_of, process_number, last_run_of, exit_process, process_start, process_exit, answered, call_process}
use Rattle.process_kernel.specs.Radio.{packet_of}
use Rattle.process_kernel.specs.Thread.{remainder_at, handler_of, resume_of, own_of, react_of, stepped_with, stepped_of, looks_of, has_ended}
use Rattle.process_kernel.specs.Operations.{posted, answered_with, answer_of, act_of, perform_of, after_step, run_of, calls_of}
use Rattle.kernel_laws.specs.Printed.{IsQuietApart, LivesSoFar, OnRecord, HasStarted}
use Rattle.kernel_laws.specs.Telling as telling
use Rattle.kernel_laws.specs.Telling.{ProcessInMote, process_in_mote, IsOut, Next, AtStart, AtCall, CanCome}
use Rattle.kernel_laws.proofs.EachStep as each
use Rattle.kernel_laws.proofs.EachStep.{AnyProcess, Lead, AreJoined, AreRingSteps, lead_from, lead_bind, lead_if, lead_goes, lead_still, bind_twice}
use Rattle.kernel_laws.proofs.Tables.{is_equal}
use Rattle.kernel_laws.proofs.Lives.{at_first}
use Rattle.kernel_laws.proofs.QuietThreads.{IsQuietRest, fresh_quiet, poll_quiet as on_poll_quiet, exit_quiet as on_exit_quiet, callback_quiet, IsNoPrintStep, advances_quietly, answered_quietly}
use Rattle.kernel_laws.proofs.ProcessInMote.{Always, etimer_other, ctimer_other, radio_other, own_other, always_if, halted_quiet, get_set, IsOther, IsQuiet, which, other_own, line_quiet, print_quiet, state_quiet, exiting_quiet, poll_quiet, variables_quiet, remainder_quiet, body_quiet, enlist_quiet, leave_quiet, post_quiet}
use Rattle.kernel_laws.proofs.OwnSteps.{alike, state_in_mote, exiting_in_mote, leave_in_mote, body_is_right, put_in_mote, enlist_in_mote}
use Rattle.kernel_laws.proofs.BodyRuns.{IfGives, gives_bind, from_always, IsAway, ComesHere, HasLived, SoFar, RanFrom, BodyRuns, IsNoPrint, runs_on}

-- the earlier lines about the process
module _ (program : Tree) (mote p : ℕ) (code : Code) (earlier : List Line) where
  -- the process is on the process list, in a life that has reached this point
  abbrev pub IsIn : Next → ProcessInMote → Remainder → List ℕ → Type 0
  IsIn next v r vars = telling.IsIn p code mote (earlier ++ v.lines_so_far) next v r vars

  -- The process is at rest, and the lines about it are those of its lives.
  abbrev pub IsInState : ProcessInMote → Type 0
  IsInState v = telling.RestsAsTraced program mote p code (earlier ++ v.lines_so_far) v

  -- The process can be called with this event: it is at rest, or has just started.
  pub record IsReady (v : ProcessInMote) (e : Event) : Type 0 where
    pub of_program : v.program ≡ program
    pub of_mote : v.mote ≡ mote
    pub tables : v.room ≡ v.has
    pub free : v.exiting ≡ false
    pub still : Remainder
    pub rest : v.rest ≡ Some still
    pub left : List ℕ
    pub vars : v.vars ≡ Some left
    pub coming : Next
    pub can : CanCome coming e v.moment
    pub is_in : IsIn coming v still left
    pub so_far : SoFar program mote p code earlier v.lines_so_far

  -- a process that is away is unchanged, and if a process is at rest, the lines are still those of its lives
  pub record Keeps (s t : KernelState) : Type 0 where
    pub away : IsAway program mote (process_in_mote p s) → IsQuiet p s t
    pub in_state : IsInState (process_in_mote p s) → IsInState (process_in_mote p t)

  pub quiet_keeps : (s t : KernelState) → IsQuiet p s t → Keeps s t
  quiet_keeps s t e = record { away = λ a. e; in_state = λ h. subst (λ x. IsInState x) (sym e) h }

  keeps_joined : (a b c : KernelState) → Keeps a b → Keeps b c → Keeps a c
  keeps_joined a b c h i = record {
    away = λ x. i.away (subst (λ v. IsAway program mote v) (sym (h.away x)) x) ∙ h.away x;
    in_state = λ x. i.in_state (h.in_state x);
  }

  -- if the mote halts, the lines are those of the lives so far
  abbrev pub Stopped : KernelState → Type 0
  Stopped t = SoFar program mote p code earlier (process_in_mote p t).lines_so_far

  pub record Stops (s t : KernelState) : Type 0 where
    pub away : IsAway program mote (process_in_mote p s) → Stopped s → Stopped t
    pub in_state : IsInState (process_in_mote p s) → Stopped t

  in_state_so_far : (s : KernelState) → IsInState (process_in_mote p s) → Stopped s
  in_state_so_far s h = OnRecord h.lived

  quiet_stopped : (s t : KernelState) → IsQuiet p s t → Stopped s → Stopped t
  quiet_stopped s t e h = subst (λ v. SoFar program mote p code earlier v.lines_so_far) (sym e) h

  quiet_stops : (s t : KernelState) → IsQuiet p s t → Stops s t
  quiet_stops s t e = record { away = λ a h. quiet_stopped s t e h; in_state = λ h. quiet_stopped s t e (in_state_so_far s h) }

  keeps_stops : (a b c : KernelState) → Keeps a b → Stops b c → Stops a c
  keeps_stops a b c h i = record {
    away = λ x so. i.away (subst (λ v. IsAway program mote v) (sym (h.away x)) x) (quiet_stopped a b (h.away x) so);
    in_state = λ x. i.in_state (h.in_state x);
  }

  pub chain : AreJoined Keeps Stops
  chain = record { same = λ s. quiet_keeps s s refl; joined = keeps_joined; ended = keeps_stops }

  abbrev pub Leads : (A : Type 0) → KernelState → Outcome A → Type 0
  Leads A s o = Lead Keeps Stops A s o

  -- chains of steps

  pub from : {A : Type 0} (s t : KernelState) (o : Outcome A) → IsQuiet p s t → Leads A t o → Leads A s o
  from {A} s t o e h = lead_from Keeps Stops chain A s t o (quiet_keeps s t e) h

  pub bind : {A B : Type 0} (s : KernelState) (o : Outcome A) (f : A → KernelState → Outcome B) → Leads A s o → ((a : A) (t : KernelState) → Leads B t (f a t)) → Leads B s (o >>= f)
  bind {A} {B} s o f h go = lead_bind Keeps Stops chain A B s o f h go

  pub either : {A : Type 0} (s : KernelState) (b : Bool) (o q : Outcome A) → Leads A s o → Leads A s q → Leads A s (if b then o else q)
  either {A} s b o q h i = lead_if Keeps Stops chain A s b o q h i

  pub goes : {A : Type 0} (s : KernelState) (a : A) (t : KernelState) → IsQuiet p s t → Leads A s (Goes a t)
  goes {A} s a t e = lead_goes Keeps Stops chain A s a t (quiet_keeps s t e)

  pub still : {A : Type 0} (s : KernelState) (a : A) → Leads A s (Goes a s)
  still {A} s a = lead_still Keeps Stops chain A s a

  pub ends : {A : Type 0} (s t : KernelState) → IsQuiet p s t → Leads A s (Ends t)
  ends {A} s t e = record { leads = quiet_stops s t e }

  pub halts : {A : Type 0} (s : KernelState) → Leads A s (Ends (halted_of s))
  halts {A} s = ends s (halted_of s) (halted_quiet p s)

  pub quietly : {A : Type 0} (s : KernelState) (o : Outcome A) → Always (λ t. IsQuiet p s t) o → Leads A s o
  quietly {A} s (Ends t) h = ends s t h
  quietly {A} s (Goes a t) h = goes s a t h

  -- if the mote continues, the process is at rest again
  abbrev pub Settles : {A : Type 0} → Outcome A → Type 0
  Settles {A} o = IfGives Stopped (λ a t. IsInState (process_in_mote p t)) o

  -- a step for the two cases: the process is away, or it is at rest
  pub lead_of : {A : Type 0} (s : KernelState) (o : Outcome A) → (IsAway program mote (process_in_mote p s) → Always (λ t. IsQuiet p s t) o) → (IsInState (process_in_mote p s) → Settles o) → Leads A s o
  lead_of {A} s (Ends t) h i = record { leads = record { away = λ a so. quiet_stopped s t (h a) so; in_state = i } }
  lead_of {A} s (Goes a t) h i = record { leads = record { away = h; in_state = i } }

  -- a step for the case in which the program is this one
  pub knowing : {A : Type 0} (s : KernelState) (o : Outcome A) → ((process_in_mote p s).program ≡ program → Leads A s o) → Leads A s o
  knowing {A} s (Ends t) h = record { leads = record { away = λ x. (h x.of_program).leads.away x; in_state = λ x. (h x.of_program).leads.in_state x } }
  knowing {A} s (Goes a t) h = record { leads = record { away = λ x. (h x.of_program).leads.away x; in_state = λ x. (h x.of_program).leads.in_state x } }

  pub lead_away : {A : Type 0} (s : KernelState) (o : Outcome A) → Leads A s o → IsAway program mote (process_in_mote p s) → Stopped s → IfGives Stopped (λ a t. IsQuiet p s t) o
  lead_away {A} s (Ends t) h a so = h.leads.away a so
  lead_away {A} s (Goes x t) h a so = h.leads.away a

  -- small steps that are quiet

  pub spend_quiet : (s : KernelState) → Always (λ t. IsQuiet p s t) (spend_of s)
  unfolding spend_of
  spend_quiet s = always_if (λ t. IsQuiet p s t) (s.units == 0) _ _ (halted_quiet p s) refl

  -- if a unit is spent, the position of the process doesn't change
  spent : (v : ProcessInMote) (s : KernelState) → process_in_mote p s ≡ v → SoFar program mote p code earlier v.lines_so_far → IfGives Stopped (λ a t. process_in_mote p t ≡ v) (spend_of s)
  spent v s e so =
      from_always (Unit {0}) Stopped (λ t. IsQuiet p s t) (λ t. process_in_mote p t ≡ v) (spend_of s) (spend_quiet s) (λ t same. subst (λ w. SoFar program mote p code earlier w.lines_so_far) (sym (same ∙ e)) so) (λ t same. same ∙ e)

  writes : (s : KernelState) (w : What) → IsQuiet p s (with_line s w) → Leads (Unit {0}) s (write_of s w)
  unfolding write_of
  writes s w e = goes s tt _ e

  ring_steps : AreRingSteps Keeps Stops chain
  ring_steps = record {
    accepted = λ s a later q i r. quiet_keeps s _ (line_quiet p (record s { ring = later; queue = with_posted s.queue (One (Own q)) (packet_of a) }) _ refl);
    refused = λ s a later q i r. quiet_keeps s _ (line_quiet p (record s { ring = later }) _ refl);
    deaf = λ s a later i r. quiet_keeps s _ (line_quiet p (record s { ring = later }) _ refl);
    halts = λ s later. quiet_stops s _ (halted_quiet p (record s { ring = later }));
  }

  -- the steps of other processes

  abbrev Others : ℕ → Type 0
  Others q = q ≡ p → ⊥

  is_other : (q : Proc) → each.IsOurs Keeps Stops chain AnyProcess Others q → IsOther p q
  is_other (Own q) n = own_other p q n
  is_other Etimer n = etimer_other p
  is_other Ctimer n = ctimer_other p
  is_other Radio n = radio_other p

  is_ours : (q : Proc) → IsOther p q → each.IsOurs Keeps Stops chain AnyProcess Others q
  is_ours (Own q) n = λ k. other_own p q n (sym k)
  is_ours x n = tt

  pub steps : each.AreSteps Keeps Stops chain AnyProcess Others
  unfolding leave_of write_of
  steps = record {
    own = λ q own. tt;
    brackets = each.brackets_of Keeps Stops chain AnyProcess Others (λ s q o. quiet_keeps s _ (state_quiet p s q Called (is_other q o))) (λ s q o. quiet_keeps s _ (state_quiet p s q Running (is_other q o)))
        (λ s q o l. quiet_keeps s _ (exiting_quiet p s q (is_other q o))) (λ s q o l. quiet_keeps s _ (leave_quiet p s q (is_other q o)));
    halts = λ s. quiet_stops s _ (halted_quiet p s);
    units = λ s n l. quiet_keeps s _ refl;
    busy = λ s q. quiet_keeps s _ (line_quiet p s (what.Busy q) refl);
    prints = λ s q v o. quiet_keeps s _ (print_quiet p s q v o);
    polled = λ s q. quiet_keeps s _ (poll_quiet p s q);
    remainder = λ s q r o. quiet_keeps s _ (remainder_quiet p s q r o);
    fresh = λ s q o. quiet_keeps s _ (body_quiet p s q o);
    variables = λ s q vs n o l. quiet_keeps s _ (variables_quiet p s q vs n o);
    sets = λ s t start interval owner there. each.keeps_set Keeps Stops chain s _ t (λ callbacks. quiet_keeps s _ refl) (λ u. quiet_keeps u _ (poll_quiet p u Etimer));
    stops = λ s t. quiet_keeps s _ refl;
    purges = λ s q. quiet_keeps s _ refl;
    callbacks = λ s ts. quiet_keeps s _ refl;
    semaphores = λ s ns. quiet_keeps s _ refl;
    full = λ s t e. quiet_keeps s _ (line_quiet p s _ refl);
    posts = λ s t e f. quiet_keeps s _ (line_quiet p (record s { queue = with_posted s.queue t e }) _ refl);
    sends = λ s v. quiet_keeps s _ (line_quiet p (record s { sends = s.sends ++ record { at = s.moment; sender = s.mote; number = s.sent; value = v } ∷ []; sent = s.sent + 1 }) _ refl);
    starts = λ s q o b h l. quiet_keeps s _ (subst (λ x. Always (λ t. IsQuiet p s t) x) (each.enlist_is s q) (enlist_quiet p s q (is_other q o)));
    ring = ring_steps;
  }

  -- an invariant of the calls of a process and the runs of a thread: threads of other processes, of the process's
  -- body, and of its other blocks
  pub record AreTraced (calls : Calls) : Type 0 where
    pub call : (s : KernelState) (q : Proc) (e : Event) → Leads (Unit {0}) s (calls.call s q e)
    pub ready : (s : KernelState) (e : Event) → IsReady (process_in_mote p s) e → Settles (calls.call s (Own p) e)
    pub run : (s : KernelState) (c : Code) (r : Remainder) (q : ℕ) (e : Event) → (q ≡ p → ⊥) → Leads Answer s (calls.run s c r q e)
    pub body : BodyRuns program mote p code earlier calls
    pub beside : (s : KernelState) (r : Remainder) (e : Event) → IsQuietRest code r → Leads Answer s (calls.run s code r p e)

  -- the body has run, or only the parts that run before the body
  record Reacted (v : ProcessInMote) (a : PtState) (w : ProcessInMote) : Type 0 where
    left : List ℕ
    next : Remainder
    same : w ≡ record v { rest = Some next; vars = Some left; lines_so_far = w.lines_so_far }
    lived : HasLived program mote p code earlier w.lines_so_far left
    comes : has_ended a ≡ false → ComesHere program mote p code earlier w.lines_so_far AtCall next left

  -- the process is about to leave the list; it may leave by itself, without a last run
  record IsLeaving (v : ProcessInMote) (by_itself : Bool) : Type 0 where
    of_program : v.program ≡ program
    of_mote : v.mote ≡ mote
    has : v.has ≡ true
    room : v.room ≡ true
    listed : v.listed ≡ true
    now : Remainder
    rest : v.rest ≡ Some now
    left : List ℕ
    vars : v.vars ≡ Some left
    lived : HasLived program mote p code earlier v.lines_so_far left
    comes : by_itself ≡ false → ComesHere program mote p code earlier v.lines_so_far AtCall now left

  record IsGone (v : ProcessInMote) : Type 0 where
    of_program : v.program ≡ program
    of_mote : v.mote ≡ mote
    has : v.has ≡ true
    room : v.room ≡ true
    state : v.state ≡ Off
    now : Remainder
    rest : v.rest ≡ Some now
    left : List ℕ
    vars : v.vars ≡ Some left
    lived : HasLived program mote p code earlier v.lines_so_far left

  some_is : {X : Type 0} (x y : X) → Some x ≡ Some y → x ≡ y
  some_is x y e = ap (λ o. unwrap_or o x) e

  -- the process has this position in this state
  abbrev At : ProcessInMote → KernelState → Type 0
  At v t = process_in_mote p t ≡ v

  module _ (is_code : slice_get program.codes p ≡ Some code) (apart : IsQuietApart code) where
    code_there : (s : KernelState) → (process_in_mote p s).program ≡ program → slice_get s.program.codes p ≡ Some code
    code_there s e = ap (λ t. slice_get t.codes p) e ∙ is_code

    module _ (calls : Calls) (are : AreTraced calls) where
      walk_led : (e : Event) (q : Proc) (ms : List Member) (s : KernelState) → Leads (Unit {0}) s (walk_of calls e q ms s)
      walk_led e q [] s = still s tt
      walk_led e q (m ∷ ms) s = bind s _ _ (either s _ _ _ (are.call s m.process e) (still s tt)) (λ a t. walk_led e q ms t)

      own_callback : (s : KernelState) (c : Code) (e : Event) → slice_get s.program.codes p ≡ Some c → (process_in_mote p s).program ≡ program → Leads Answer s (calls.run s c (fresh_of c (Callback e.word)) p e)
      own_callback s c e is of_program =
          let same : c ≡ code = some_is c code (sym is ∙ code_there s of_program) in
          subst (λ c. Leads Answer s (calls.run s c (fresh_of c (Callback e.word)) p e)) (sym same) (are.beside s _ e (fresh_quiet code (Callback e.word) (callback_quiet code e.word apart)))

      callback_led : (s : KernelState) (c : Code) (q : ℕ) (e : Event) → slice_get s.program.codes q ≡ Some c → (q ≡ p) ⊎ (q ≡ p → ⊥) → Leads Answer s (calls.run s c (fresh_of c (Callback e.word)) q e)
      callback_led s c q e is (inl same) =
          subst (λ k. slice_get s.program.codes k ≡ Some c → Leads Answer s (calls.run s c (fresh_of c (Callback e.word)) k e)) (sym same) (λ i. knowing s _ (own_callback s c e i)) is
      callback_led s c q e is (inr n) = are.run s c _ q e n

      -- the calls of other processes
      led : each.AreLed Keeps Stops chain AnyProcess Others calls
      led = record {
        call = λ s q e f. are.call s q e;
        run = λ s c r q e n. are.run s c r q e n;
        callback = λ s c q e is. callback_led s c q e is (is_equal q p);
      }

      -- the process itself

      handled : (s : KernelState) (e : Event) → Leads (Unit {0}) s (handler_of calls s code p e)
      unfolding handler_of
      handled s e =
          either s (is_system_event Poll e) _ _ (bind s _ _ (are.beside s _ e (fresh_quiet code OnPoll (on_poll_quiet code apart))) (λ a t. still t tt))
          (either s (is_system_event Exit e) _ _ (bind s _ _ (are.beside s _ e (fresh_quiet code OnExit (on_exit_quiet code apart))) (λ a t. still t tt)) (still s tt))

      resumed : (s : KernelState) (r : Remainder) (vars : List ℕ) (e : Event) (coming : Next) → IsAway program mote (process_in_mote p s) → (process_in_mote p s).vars ≡ Some vars → (process_in_mote p s).rest ≡ Some r → CanCome coming e s.moment → ComesHere program mote p code earlier (process_in_mote p s).lines_so_far coming r vars → Stopped s
          → IfGives Stopped (λ a t. Reacted (process_in_mote p s) a (process_in_mote p t)) (resume_of calls s code p e)
      unfolding resume_of put_remainder
      resumed s r vars e coming away has rest can here so =
          let s1 = with_fresh_body s p in
          let same1 : process_in_mote p s1 ≡ record (process_in_mote p s) { rest = Some (fresh_of code Body) } = body_is_right p s code r (code_there s away.of_program) rest in
          let away1 : IsAway program mote (process_in_mote p s1) = record { of_program = away.of_program; of_mote = away.of_mote; not_running = away.not_running; busy = away.busy } in
          gives_bind Answer PtState Stopped (RanFrom program mote p code earlier (process_in_mote p s1)) (λ a t. Reacted (process_in_mote p s) a (process_in_mote p t)) (calls.run s1 code (remainder_at s code p) p e) _
          (subst (λ x. IfGives Stopped (RanFrom program mote p code earlier (process_in_mote p s1)) (calls.run s1 code x p e)) (ap (λ o. unwrap_or o (fresh_of code Body)) (sym rest)) (are.body s1 r vars e coming away1 has can here so))
          (λ a t ran. record {
            left = ran.left;
            next = a.1;
            same = put_in_mote p t a.1 (fresh_of code Body) (ap (λ v. v.rest) ran.same ∙ ap (λ v. v.rest) same1) ∙ ap {A = ProcessInMote} (λ v. record v { rest = Some a.1 }) ran.same ∙ ap {A = ProcessInMote} (λ v. record v { rest = Some a.1; vars = Some ran.left; lines_so_far = (process_in_mote p t).lines_so_far }) same1;
            lived = ran.lived;
            comes = ran.comes;
          })

      reacts : (s : KernelState) (r : Remainder) (vars : List ℕ) (e : Event) (coming : Next) → IsAway program mote (process_in_mote p s) → (process_in_mote p s).vars ≡ Some vars → (process_in_mote p s).rest ≡ Some r → CanCome coming e s.moment → ComesHere program mote p code earlier (process_in_mote p s).lines_so_far coming r vars → Stopped s
          → IfGives Stopped (λ a t. Reacted (process_in_mote p s) a (process_in_mote p t)) (react_of calls s (Own p) e)
      unfolding react_of own_of
      reacts s r vars e coming away has rest can here so =
          subst (λ o. IfGives Stopped (λ a t. Reacted (process_in_mote p s) a (process_in_mote p t)) (elim o [ None ↦ Goes Ended s | Some c ↦ handler_of calls s c p e >>= λ _ s1. resume_of calls s1 c p e ])) (sym (code_there s away.of_program))
          (gives_bind (Unit {0}) PtState Stopped (λ u t. IsQuiet p s t) (λ a t. Reacted (process_in_mote p s) a (process_in_mote p t)) (handler_of calls s code p e) _ (lead_away s _ (handled s e) away so) (λ u t same.
          subst (λ v. IfGives Stopped (λ a w. Reacted v a (process_in_mote p w)) (resume_of calls t code p e)) same
          (resumed t r vars e coming (subst (λ v. IsAway program mote v) (sym same) away) (ap (λ v. v.vars) same ∙ has) (ap (λ v. v.rest) same ∙ rest) (subst (λ v. CanCome coming e v.moment) (sym same) can) (subst (λ v. ComesHere program mote p code earlier v.lines_so_far coming r vars) (sym same) here) (quiet_stopped s t same so))))

      -- the process leaves

      gone : (s : KernelState) → IsGone (process_in_mote p s) → Settles (leave_of s (Own p))
      gone s h =
          from_always (Unit {0}) Stopped (λ t. At (record (process_in_mote p s) { exiting = false; listed = false }) t) (λ t. IsInState (process_in_mote p t)) (leave_of s (Own p)) (leave_in_mote p s h.room) (λ t same. in_state_so_far t (left_list t same)) left_list
        where
          left_list : (t : KernelState) → At (record (process_in_mote p s) { exiting = false; listed = false }) t → IsInState (process_in_mote p t)
          left_list t same = subst (λ x. IsInState x) (sym same) (record {
            of_program = h.of_program;
            of_mote = h.of_mote;
            tables = h.room ∙ sym h.has;
            free = refl;
            still = h.now;
            rest = h.rest;
            left = h.left;
            vars = h.vars;
            lived = h.lived;
            where_it_is = inl (record { state = h.state; listed = refl });
          })

      -- while it is being exited
      abbrev on_its_way : ProcessInMote → ProcessInMote
      on_its_way v = record v { state = Off; exiting = true }

      way_is_away : (v : ProcessInMote) → v.program ≡ program → v.mote ≡ mote → IsAway program mote (on_its_way v)
      way_is_away v e f = record { of_program = e; of_mote = f; not_running = refl; busy = refl }

      walked : (s : KernelState) (b : Bool) (e : Event) (ms : List Member) → IsLeaving (process_in_mote p s) b → IfGives Stopped (λ a t. At (on_its_way (process_in_mote p s)) t) (walk_of calls e (Own p) ms (exiting_of s (Own p)))
      walked s b e ms h =
          let same = exiting_in_mote p s h.has h.room in
          subst (λ v. IfGives Stopped (λ a t. At v t) (walk_of calls e (Own p) ms (exiting_of s (Own p)))) same
          (lead_away (exiting_of s (Own p)) _ (walk_led e (Own p) ms (exiting_of s (Own p))) (subst (λ v. IsAway program mote v) (sym same) (way_is_away (process_in_mote p s) h.of_program h.of_mote)) (subst (λ v. SoFar program mote p code earlier v.lines_so_far) (sym same) (OnRecord h.lived)))

      last_gone : (v : ProcessInMote) (a : PtState) (w : ProcessInMote) → v.program ≡ program → v.mote ≡ mote → v.has ≡ true → v.room ≡ true → v.state ≡ Off → Reacted v a w → IsGone w
      last_gone v a w of_program of_mote has room state r = record {
        of_program = ap (λ x. x.program) r.same ∙ of_program;
        of_mote = ap (λ x. x.mote) r.same ∙ of_mote;
        has = ap (λ x. x.has) r.same ∙ has;
        room = ap (λ x. x.room) r.same ∙ room;
        state = ap (λ x. x.state) r.same ∙ state;
        now = r.next;
        rest = ap (λ x. x.rest) r.same;
        left = r.left;
        vars = ap (λ x. x.vars) r.same;
        lived = r.lived;
      }

      last_runs : (s t : KernelState) → IsLeaving (process_in_mote p s) false → At (on_its_way (process_in_mote p s)) t → IfGives Stopped (λ a u. IsGone (process_in_mote p u)) (last_run_of calls t (Own p))
      unfolding last_run_of
      last_runs s t h same =
          gives_bind (Unit {0}) (Unit {0}) Stopped (λ a u. At (on_its_way (process_in_mote p s)) u) (λ a u. IsGone (process_in_mote p u)) (spend_of t) _ (spent (on_its_way (process_in_mote p s)) t same (OnRecord h.lived)) (λ a u there.
          gives_bind PtState (Unit {0}) Stopped (λ a w. Reacted (process_in_mote p u) a (process_in_mote p w)) (λ a w. IsGone (process_in_mote p w)) (react_of calls u (Own p) (own_event Exit 0)) _
          (reacts u h.now h.left (own_event Exit 0) AtCall (subst (λ v. IsAway program mote v) (sym there) (way_is_away (process_in_mote p s) h.of_program h.of_mote)) (ap (λ v. v.vars) there ∙ h.vars) (ap (λ v. v.rest) there ∙ h.rest) tt (subst (λ v. ComesHere program mote p code earlier v.lines_so_far AtCall h.now h.left) (sym there) (h.comes refl)) (subst (λ v. SoFar program mote p code earlier v.lines_so_far) (sym there) (OnRecord h.lived)))
          (λ a w r. last_gone (process_in_mote p u) a (process_in_mote p w) (ap (λ v. v.program) there ∙ h.of_program) (ap (λ v. v.mote) there ∙ h.of_mote) (ap (λ v. v.has) there ∙ h.has) (ap (λ v. v.room) there ∙ h.room) (ap (λ v. v.state) there) r))

      last : (s t : KernelState) (b : Bool) → IsLeaving (process_in_mote p s) b → At (on_its_way (process_in_mote p s)) t → IfGives Stopped (λ a u. IsGone (process_in_mote p u)) (if b then Goes tt t else last_run_of calls t (Own p))
      last s t true h same = subst (λ v. IsGone v) (sym same) (record { of_program = h.of_program; of_mote = h.of_mote; has = h.has; room = h.room; state = refl; now = h.now; rest = h.rest; left = h.left; vars = h.vars; lived = h.lived })
      last s t false h same = last_runs s t h same

      exits : (s : KernelState) (f : Proc) → IsLeaving (process_in_mote p s) (is_same (Own p) f) → Settles (exit_process calls s (Own p) f)
      unfolding exit_process
      exits s f h =
          subst (λ b. Settles (if b then (walk_of calls (own_event Exited (process_number (Own p))) (Own p) s.members (exiting_of s (Own p)) >>= λ _ s1. (if is_same (Own p) f then Goes tt s1 else last_run_of calls s1 (Own p)) >>= λ _ s2. leave_of s2 (Own p)) else Goes tt s)) (sym h.listed)
          (gives_bind (Unit {0}) (Unit {0}) Stopped (λ a t. At (on_its_way (process_in_mote p s)) t) (λ a t. IsInState (process_in_mote p t)) (walk_of calls (own_event Exited (process_number (Own p))) (Own p) s.members (exiting_of s (Own p))) _ (walked s _ _ s.members h) (λ a t same.
          gives_bind (Unit {0}) (Unit {0}) Stopped (λ a u. IsGone (process_in_mote p u)) (λ a u. IsInState (process_in_mote p u)) (if is_same (Own p) f then Goes tt t else last_run_of calls t (Own p)) _ (last s t (is_same (Own p) f) h same) (λ b u g. gone u g)))

      -- the process is called

      answers_so : (s : KernelState) (v : ProcessInMote) (e : Event) (a : PtState) (exit : Bool) → IsReady v e → Reacted (record v { state = Called }) a (process_in_mote p s) → Settles (answered calls s (Own p) (has_ended a || exit))
      unfolding answered
      answers_so s v e a exit h r = by (has_ended a || exit) refl
        where
          not_ended : (b c : Bool) → (b || c) ≡ false → b ≡ false
          not_ended true c e = e
          not_ended false c e = refl

          by : (b : Bool) → (has_ended a || exit) ≡ b → Settles {A = Unit {0}} (if b then exit_process calls s (Own p) (Own p) else Goes tt (with_state s (Own p) Running))
          by true e = exits s (Own p) (record {
            of_program = ap (λ x. x.program) r.same ∙ h.of_program;
            of_mote = ap (λ x. x.mote) r.same ∙ h.of_mote;
            has = ap (λ x. x.has) r.same ∙ h.is_in.has;
            room = ap (λ x. x.room) r.same ∙ h.tables ∙ h.is_in.has;
            listed = ap (λ x. x.listed) r.same ∙ h.is_in.listed;
            now = r.next;
            rest = ap (λ x. x.rest) r.same;
            left = r.left;
            vars = ap (λ x. x.vars) r.same;
            lived = r.lived;
            comes = λ q. absurd (let f : true ≡ false = sym (alike (place_of (Own p))) ∙ q in cc);
          })
          by false e =
              let has : (process_in_mote p s).has ≡ true = ap (λ x. x.has) r.same ∙ h.is_in.has in
              subst (λ x. IsInState x) (sym (state_in_mote p s Running has)) (record {
                of_program = ap (λ x. x.program) r.same ∙ h.of_program;
                of_mote = ap (λ x. x.mote) r.same ∙ h.of_mote;
                tables = ap (λ x. x.room) r.same ∙ h.tables ∙ sym (ap (λ x. x.has) r.same);
                free = ap (λ x. x.exiting) r.same ∙ h.free;
                still = r.next;
                rest = ap (λ x. x.rest) r.same;
                left = r.left;
                vars = ap (λ x. x.vars) r.same;
                lived = r.lived;
                where_it_is = inr (record { has = has; state = refl; listed = ap (λ x. x.listed) r.same ∙ h.is_in.listed; comes = r.comes (not_ended (has_ended a) exit e) });
              })

      is_called : (s : KernelState) (e : Event) → IsReady (process_in_mote p s) e → Settles (call_process calls s (Own p) e)
      unfolding call_process
      is_called s e h =
          let runs : is_running s (Own p) ≡ true = ap is_running_state h.is_in.state in
          subst (λ b. Settles (if b then (spend_of s >>= λ _ s1. react_of calls (with_state s1 (Own p) Called) (Own p) e >>= λ answer s2. answered calls s2 (Own p) (has_ended answer || is_system_event Exit e)) else Goes tt s)) (sym runs)
          (gives_bind (Unit {0}) (Unit {0}) Stopped (λ a t. IsQuiet p s t) (λ a t. IsInState (process_in_mote p t)) (spend_of s) _ (spent (process_in_mote p s) s refl h.so_far) (λ u t same.
          let s2 = with_state t (Own p) Called in
          let same2 : process_in_mote p s2 ≡ record (process_in_mote p s) { state = Called } = state_in_mote p t Called (ap (λ v. v.has) same ∙ h.is_in.has) ∙ ap {A = ProcessInMote} (λ v. record v { state = Called }) same in
          let away : IsAway program mote (process_in_mote p s2) = subst (λ v. IsAway program mote v) (sym same2) (record { of_program = h.of_program; of_mote = h.of_mote; not_running = refl; busy = refl }) in
          gives_bind PtState (Unit {0}) Stopped (λ a w. Reacted (record (process_in_mote p s) { state = Called }) a (process_in_mote p w)) (λ a w. IsInState (process_in_mote p w)) (react_of calls s2 (Own p) e) _
          (subst (λ v. IfGives Stopped (λ a w. Reacted v a (process_in_mote p w)) (react_of calls s2 (Own p) e)) same2
          (reacts s2 h.still h.left e h.coming away (ap (λ v. v.vars) same2 ∙ h.vars) (ap (λ v. v.rest) same2 ∙ h.rest) (subst (λ v. CanCome h.coming e v.moment) (sym same2) h.can) (subst (λ v. ComesHere program mote p code earlier v.lines_so_far h.coming h.still h.left) (sym same2) h.is_in.comes) (subst (λ v. SoFar program mote p code earlier v.lines_so_far) (sym same2) h.so_far)))
          (λ a w r. answers_so w (process_in_mote p s) e a (is_system_event Exit e) h r)))

      -- starts and kills

      ready_first : (v w : ProcessInMote) (h : IsInState v) → v.has ≡ true → w ≡ record v { state = Running; listed = true; rest = Some (fresh_of code Body); lines_so_far = v.lines_so_far ++ record { at = v.moment; what = what.Start (Own p) } ∷ [] } → IsReady w (own_event Init 0)
      ready_first v w h has same = subst (λ x. IsReady x (own_event Init 0)) (sym same) (record {
        of_program = h.of_program;
        of_mote = h.of_mote;
        tables = h.tables;
        free = h.free;
        still = fresh_of code Body;
        rest = refl;
        left = h.left;
        vars = h.vars;
        coming = AtStart v.moment;
        can = (refl, refl);
        is_in = record {
          has = has;
          state = refl;
          listed = refl;
          comes = record {
            before = earlier ++ v.lines_so_far;
            start = h.left;
            lived = h.lived;
            lines = record { at = v.moment; what = what.Start (Own p) } ∷ [];
            comes = at_first p code mote h.left v.moment;
            is_traced = sym (append_assoc earlier v.lines_so_far (record { at = v.moment; what = what.Start (Own p) } ∷ []));
          };
        };
        so_far = subst (λ l. LivesSoFar code (Own p) mote code.starts l) (append_assoc earlier v.lines_so_far (record { at = v.moment; what = what.Start (Own p) } ∷ [])) (HasStarted h.lived v.moment);
      })

      starts_up : (s : KernelState) → IsInState (process_in_mote p s) → has_process s (Own p) ≡ true → Settles (enlist_of s (Own p) >>= λ _ s1. calls.call s1 (Own p) (own_event Init 0))
      starts_up s h has =
          gives_bind (Unit {0}) (Unit {0}) Stopped (λ a t. IsReady (process_in_mote p t) (own_event Init 0)) (λ a t. IsInState (process_in_mote p t)) (enlist_of s (Own p)) _
          (from_always (Unit {0}) Stopped _ (λ t. IsReady (process_in_mote p t) (own_event Init 0)) (enlist_of s (Own p)) (enlist_in_mote p s code h.still (code_there s h.of_program) has h.rest) (λ t same. (ready_first (process_in_mote p s) (process_in_mote p t) h has same).so_far) (λ t same. ready_first (process_in_mote p s) (process_in_mote p t) h has same))
          (λ a t ready. are.ready t (own_event Init 0) ready)

      own_start_if : (s : KernelState) (b : Bool) → IsInState (process_in_mote p s) → (has_process s (Own p) && not (is_listed s (Own p))) ≡ b
          → Settles (if b then (enlist_of s (Own p) >>= λ _ s1. calls.call s1 (Own p) (own_event Init 0)) else Goes tt s)
      own_start_if s true h e = starts_up s h (has (has_process s (Own p)) _ e)
        where
          has : (b c : Bool) → (b && c) ≡ true → b ≡ true
          has true c e = refl
          has false c e = absurd (cc)
      own_start_if s false h e = h

      busy_away : (s : KernelState) → IsAway program mote (process_in_mote p s) → is_busy s (Own p) ≡ false → ⊥
      busy_away s a e = let f : true ≡ false = sym a.busy ∙ e in cc

      own_start : (s : KernelState) → Leads (Unit {0}) s (process_start calls s (Own p))
      unfolding process_start
      own_start s = by (is_busy s (Own p)) refl
        where
          by : (b : Bool) → is_busy s (Own p) ≡ b → Leads (Unit {0}) s (if b then write_of s (what.Busy (Own p)) else (if has_process s (Own p) && not (is_listed s (Own p)) then (enlist_of s (Own p) >>= λ _ s1. calls.call s1 (Own p) (own_event Init 0)) else Goes tt s))
          by true e = writes s _ (line_quiet p s (what.Busy (Own p)) refl)
          by false e = lead_of s _ (λ a. absurd (busy_away s a e)) (λ h. own_start_if s _ h refl)

      unlisted_exit : (s : KernelState) (f : Proc) → IsInState (process_in_mote p s) → is_listed s (Own p) ≡ false → Settles (exit_process calls s (Own p) f)
      unfolding exit_process
      unlisted_exit s f h e = rw e h

      own_exit : (s : KernelState) (f : Proc) → IsInState (process_in_mote p s) → Settles (exit_process calls s (Own p) f)
      own_exit s f h = by h.where_it_is
        where
          by : IsOut (process_in_mote p s) ⊎ IsIn AtCall (process_in_mote p s) h.still h.left → Settles (exit_process calls s (Own p) f)
          by (inl out) = unlisted_exit s f h out.listed
          by (inr is_in) = exits s f (record {
            of_program = h.of_program;
            of_mote = h.of_mote;
            has = is_in.has;
            room = h.tables ∙ is_in.has;
            listed = is_in.listed;
            now = h.still;
            rest = h.rest;
            left = h.left;
            vars = h.vars;
            lived = h.lived;
            comes = λ q. is_in.comes;
          })

      own_kill : (s : KernelState) (current : ℕ) → Leads (Unit {0}) s (process_exit calls s (Own p) current)
      unfolding process_exit
      own_kill s current = by (is_busy s (Own p)) refl
        where
          by : (b : Bool) → is_busy s (Own p) ≡ b → Leads (Unit {0}) s (if b then write_of s (what.Busy (Own p)) else exit_process calls s (Own p) (Own current))
          by true e = writes s _ (line_quiet p s (what.Busy (Own p)) refl)
          by false e = lead_of s _ (λ a. absurd (busy_away s a e)) (λ h. own_exit s (Own current) h)

      pub start_led : (s : KernelState) (q : Proc) → Leads (Unit {0}) s (process_start calls s q)
      start_led s q = by (which p q)
        where
          by : (q ≡ Own p) ⊎ IsOther p q → Leads (Unit {0}) s (process_start calls s q)
          by (inl e) = subst (λ k. Leads (Unit {0}) s (process_start calls s k)) (sym e) (own_start s)
          by (inr n) = each.start_led Keeps Stops chain AnyProcess Others steps calls led s q (is_ours q n)

      kill_led : (s : KernelState) (q : Proc) (current : ℕ) → Leads (Unit {0}) s (process_exit calls s q current)
      kill_led s q current = by (which p q)
        where
          by : (q ≡ Own p) ⊎ IsOther p q → Leads (Unit {0}) s (process_exit calls s q current)
          by (inl e) = subst (λ k. Leads (Unit {0}) s (process_exit calls s k current)) (sym e) (own_kill s current)
          by (inr n) = each.kill_led Keeps Stops chain AnyProcess Others steps calls led s q current (is_ours q n) tt

      -- operations, except for prints

      allowed : (current : ℕ) (x : Op) → IsNoPrint x → each.Allowed Keeps Stops chain AnyProcess Others current x
      allowed current (op.Synch q e w) f = λ z. tt
      allowed current (op.Print v) f = absurd f
      allowed current x f = tt

      act_led : (s : KernelState) (current : ℕ) (x : Op) → IsNoPrint x → Leads (Unit {0}) s (act_of calls s current x)
      act_led s current x f = each.act_led Keeps Stops chain AnyProcess Others steps calls led start_led (λ t q k l. kill_led t q k) s current x (allowed current x f)

      run_led : (s : KernelState) (c : Code) (r : Remainder) (q : ℕ) (e : Event) → (q ≡ p → ⊥) → Leads Answer s (run_of calls s c r q e)
      run_led s c r q e n = each.one_run_led Keeps Stops chain AnyProcess Others steps calls led start_led (λ t k current l. kill_led t k current) s c r q e n

      body_runs : (s : KernelState) (r : Remainder) (vars : List ℕ) (e : Event) (coming : Next) → IsAway program mote (process_in_mote p s) → (process_in_mote p s).vars ≡ Some vars → CanCome coming e s.moment → ComesHere program mote p code earlier (process_in_mote p s).lines_so_far coming r vars → Stopped s
          → IfGives Stopped (RanFrom program mote p code earlier (process_in_mote p s)) (run_of calls s code r p e)
      body_runs s r vars e coming away has can here so =
          runs_on program mote p code earlier calls s r vars e coming away has can here so are.body (λ t o f a so. lead_away t _ (act_led t p o f) a so)

      -- a block other than the body

      answered_beside : (u : KernelState) (r : Remainder) (e : Event) (answer : ℕ) (variables : Option (List ℕ)) → slice_get u.variables p ≡ variables → IsQuietRest code r
          → Leads Answer u (answered_with variables u r p answer >>= λ r1 s1. calls.run s1 code r1 p e)
      answered_beside u r e answer None there h = are.beside u r e h
      answered_beside u r e answer (Some vs) there h =
          let a = answered_quietly code r vs answer h in
          from u _ _ (ap (λ o. record (process_in_mote p u) { vars = o }) (get_set u.variables p (answered_of r vs answer).variables vs there ∙ ap Some a.1 ∙ sym there)) (are.beside _ _ e a.0)

      traced_next_to : (u : KernelState) (r : Remainder) (e : Event) (full : Bool) → IsQuietRest code r → Leads Answer u (answer_of u r p full >>= λ r1 s1. calls.run s1 code r1 p e)
      unfolding answer_of
      traced_next_to u r e full h = answered_beside u r e _ (slice_get u.variables p) refl h

      performed_beside : (s : KernelState) (r : Remainder) (e : Event) (o : Op) → IsNoPrint o → IsQuietRest code r → Leads Answer s (perform_of calls s r p o >>= λ r1 s1. calls.run s1 code r1 p e)
      unfolding perform_of
      performed_beside s r e (op.Post t number word) f h =
          bind_twice Keeps Stops chain _ _ _ s (process_post s t (posted number word)) _ _ (bind s _ _ (quietly s _ (post_quiet p s t (posted number word))) (λ full u. traced_next_to u r e full h))
      performed_beside s r e o f h = bind_twice Keeps Stops chain _ _ _ s (act_of calls s p o) _ _ (bind s _ _ (act_led s p o f) (λ a u. are.beside u r e h))

      after_beside : (s : KernelState) (r : Remainder) (e : Event) (x : Step) → IsNoPrintStep x → IsQuietRest code r → Leads Answer s (after_step calls code p e x r s)
      after_beside s r e (step.Op o) f h = performed_beside s r e o f h
      after_beside s r e (step.Done a) f h = still s _
      after_beside s r e step.Runaway f h = halts s

      stepped_beside : (s : KernelState) (r : Remainder) (e : Event) (variables : Option (List ℕ)) → slice_get s.variables p ≡ variables → IsQuietRest code r
          → Leads Answer s (let m = stepped_with variables s code r p e in after_step calls code p e m.step m.remainder m.state)
      stepped_beside s r e None there h = still s _
      stepped_beside s r e (Some vs) there h =
          let a = advances_quietly code e (looks_of s) r vs s.units h in
          let next = advanced_of code e (looks_of s) r vs s.units in
          from s _ _ (ap (λ o. record (process_in_mote p s) { vars = o }) (get_set s.variables p next.variables vs there ∙ ap Some a.variables ∙ sym there)) (after_beside _ next.remainder e next.step a.step a.rest)

      runs_beside : (s : KernelState) (r : Remainder) (e : Event) → IsQuietRest code r → Leads Answer s (run_of calls s code r p e)
      unfolding run_of stepped_of
      runs_beside s r e h = stepped_beside s r e (slice_get s.variables p) refl h

      -- a call

      lost : (s : KernelState) (e : Event) → is_running s (Own p) ≡ false → call_process calls s (Own p) e ≡ Goes tt s
      unfolding call_process
      lost s e r = rw r refl

      own_called : (s : KernelState) (e : Event) → Leads (Unit {0}) s (call_process calls s (Own p) e)
      own_called s e = lead_of s _ (λ a. subst (λ o. Always (λ t. IsQuiet p s t) o) (sym (lost s e a.not_running)) refl) (λ h. by h h.where_it_is)
        where
          by : (h : IsInState (process_in_mote p s)) → IsOut (process_in_mote p s) ⊎ IsIn AtCall (process_in_mote p s) h.still h.left → Settles (call_process calls s (Own p) e)
          by h (inl out) = subst (λ o. Settles o) (sym (lost s e (ap is_running_state out.state))) h
          by h (inr is_in) = is_called s e (record { of_program = h.of_program; of_mote = h.of_mote; tables = h.tables; free = h.free; still = h.still; rest = h.rest; left = h.left; vars = h.vars; coming = AtCall; can = tt; is_in = is_in; so_far = OnRecord h.lived })

      call_led : (s : KernelState) (q : Proc) (e : Event) → Leads (Unit {0}) s (call_process calls s q e)
      call_led s q e = by (which p q)
        where
          by : (q ≡ Own p) ⊎ IsOther p q → Leads (Unit {0}) s (call_process calls s q e)
          by (inl i) = subst (λ k. Leads (Unit {0}) s (call_process calls s k e)) (sym i) (own_called s e)
          by (inr n) = each.call_led Keeps Stops chain AnyProcess Others steps calls led s q e (is_ours q n) (λ z. tt)

    pub all_calls_traced : (k : ℕ) → AreTraced (calls_of k)
    unfolding calls_of
    all_calls_traced zero = record {
      call = λ s q e. halts s;
      ready = λ s e h. quiet_stopped s (halted_of s) (halted_quiet p s) h.so_far;
      run = λ s c r q e n. halts s;
      body = λ s r vars e coming away has can here so. quiet_stopped s (halted_of s) (halted_quiet p s) so;
      beside = λ s r e h. halts s;
    }
    all_calls_traced (suc k) = record {
      call = call_led (calls_of k) (all_calls_traced k);
      ready = is_called (calls_of k) (all_calls_traced k);
      run = run_led (calls_of k) (all_calls_traced k);
      body = body_runs (calls_of k) (all_calls_traced k);
      beside = runs_beside (calls_of k) (all_calls_traced k);
    }

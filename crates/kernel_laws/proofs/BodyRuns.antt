-- A run of the body of a process continues the run of its fresh thread, if the other processes that it calls don't
-- change the process.
use Rattle.std.proofs.Common.{ℕ, zero, ◌≡◌, ◌<◌, ◌||◌, Bool, true, false, if◌then◌else◌, List, [], ◌∷◌, ◌++◌, Some, None, slice_get, slice_set, refl, sym, ap, ◌∙◌, subst, arith, append_assoc, append-nil}
use Rattle.std.proofs.lemmas.Bool.Decides.{nat_tests}
use Rattle.program_tree.specs.declared.event.Proc.TheVariants.{Own}
use Rattle.program_tree.specs.declared.event.Target.{Target}
use Rattle.program_tree.specs.declared.event.Event.{Event}
use Rattle.program_tree.specs.Code.{Code, Tree}
use Rattle.protothread.specs.declared.answer.PtState.{PtState}
use Rattle.protothread.specs.declared.answer.PtState.TheVariants.{Waiting, Yielded, Exited, Ended}
use Rattle.protothread.specs.declared.thread.LastAction.TheVariants.{UnderWay}
use Rattle.protothread.specs.declared.step.Op.{Op}
use Rattle.protothread.specs.declared.step.Op.TheVariants as op
use Rattle.protothread.specs.declared.step.Step.{Step}
use Rattle.protothread.specs.declared.step.Step.TheVariants as step
use Rattle.protothread.specs.State.{state_number}
use Rattle.protothread.specs.Remainder.{Remainder}
use Rattle.protothread.specs.Step.{advanced_of, answered_of}
use Rattle.protothread.specs.Reading.{Sight, operates, Completion, in_state}
use Rattle.protothread.specs.Runs.{Steps}
use Rattle.trace_lines.specs.declared.line.Line.{Line}
use Rattle.trace_lines.specs.declared.line.What.TheVariants as what
use Rattle.process_kernel.specs.State.{KernelState, Outcome, Ends, Goes, ◌>>=◌, with_line, write_of, halted_of, Calls, Answer}
use Rattle.process_kernel.specs.ProcessList.{is_running_state, is_called_state}
use Rattle.process_kernel.specs.Thread.{looks_of, has_ended, stepped_with, stepped_of}
use Rattle.process_kernel.specs.Posts.{process_post}
use Rattle.process_kernel.specs.Operations.{posted, act_of, answered_with, answer_of, perform_of, after_step, run_of}
use Rattle.kernel_laws.specs.Printed.{printed, left_by, starts_and_prints, starts_or_prints, lines_of_life, Lives, LivesAgain, LivesSoFar, OnRecord}
use Rattle.kernel_laws.specs.Telling as telling
use Rattle.kernel_laws.specs.Telling.{ProcessInMote, process_in_mote, Next, AtStart, InCall, AtCall, CanCome, IsAnswered, HasLife}
use Rattle.kernel_laws.proofs.Lives.{operates_on, performs_there, gives_up_on, in_state_there, exits_there, ends_there}
use Rattle.kernel_laws.proofs.Unanswered.{IsUnanswered, StepUnanswered, step_unanswered, answer_is_unused}
use Rattle.kernel_laws.proofs.ProcessInMote.{Always, get_set, traced_more, halted_quiet, post_quiet}

-- a property of the result and the state of an outcome that continues, and a property of the last state of an outcome
-- that ends
abbrev pub IfGives : {A : Type 0} → (KernelState → Type 0) → (A → KernelState → Type 0) → Outcome A → Type 0
IfGives E P (Ends t) = E t
IfGives E P (Goes a t) = P a t

pub gives_bind : (A B : Type 0) (E : KernelState → Type 0) (P : A → KernelState → Type 0) (Q : B → KernelState → Type 0) (o : Outcome A) (f : A → KernelState → Outcome B) → IfGives E P o → ((a : A) (t : KernelState) → P a t → IfGives E Q (f a t)) → IfGives E Q (o >>= f)
gives_bind A B E P Q (Ends t) f h go = h
gives_bind A B E P Q (Goes a t) f h go = go a t h

pub gives_weaker : (A : Type 0) (E : KernelState → Type 0) (P Q : A → KernelState → Type 0) (o : Outcome A) → IfGives E P o → ((a : A) (t : KernelState) → P a t → Q a t) → IfGives E Q o
gives_weaker A E P Q (Ends t) h go = h
gives_weaker A E P Q (Goes a t) h go = go a t h

pub from_always : (A : Type 0) (E P Q : KernelState → Type 0) (o : Outcome A) → Always P o → ((t : KernelState) → P t → E t) → ((t : KernelState) → P t → Q t) → IfGives E (λ a t. Q t) o
from_always A E P Q (Ends t) h i j = i t h
from_always A E P Q (Goes a t) h i j = j t h

-- the process is called or being exited, so no step calls, starts or kills it
pub record IsAway (program : Tree) (mote : ℕ) (v : ProcessInMote) : Type 0 where
  pub of_program : v.program ≡ program
  pub of_mote : v.mote ≡ mote
  pub not_running : is_running_state v.state ≡ false
  pub busy : (is_called_state v.state || v.exiting) ≡ true

-- the next result that the thread gets
abbrev answer_in : Next → ℕ
answer_in (InCall answer e m) = answer
answer_in next = 0

is_answered : (next : Next) → IsAnswered next (answer_in next)
is_answered (AtStart m) = tt
is_answered (InCall answer e m) = refl
is_answered AtCall = tt

-- an operation other than a print
abbrev pub IsNoPrint : Op → Type 0
IsNoPrint (op.Print v) = ⊥
IsNoPrint o = Unit {0}

-- the earlier lines about the process
module _ (program : Tree) (mote p : ℕ) (code : Code) (earlier : List Line) where
  -- In the life that began with its last start, the process has reached this point.
  abbrev pub ComesHere : List Line → Next → Remainder → List ℕ → Type 0
  ComesHere lines_so_far next r vars = telling.ComesHere p code mote (earlier ++ lines_so_far) next r vars

  -- The lines are those of lives after which the process has these variables.
  abbrev pub HasLived : List Line → List ℕ → Type 0
  HasLived lines_so_far vars = Lives code (Own p) mote code.starts (earlier ++ lines_so_far) vars

  -- The lines are those of the lives so far.
  abbrev pub SoFar : List Line → Type 0
  SoFar lines_so_far = LivesSoFar code (Own p) mote code.starts (earlier ++ lines_so_far)

  abbrev pub Stopped : KernelState → Type 0
  Stopped t = SoFar (process_in_mote p t).lines_so_far

  -- A run of the body has ended. Only the variables of the process and the lines about it have changed.
  pub record Ran (v : ProcessInMote) (a : PtState) (r : Remainder) (w : ProcessInMote) : Type 0 where
    pub left : List ℕ
    pub same : w ≡ record v { vars = Some left; lines_so_far = w.lines_so_far }
    pub lived : HasLived w.lines_so_far left
    pub comes : has_ended a ≡ false → ComesHere w.lines_so_far AtCall r left

  abbrev pub RanFrom : ProcessInMote → Answer → KernelState → Type 0
  RanFrom v a t = Ran v a.0 a.1 (process_in_mote p t)

  -- the body runs
  abbrev pub BodyRuns : Calls → Type 0
  BodyRuns calls =
      (s : KernelState) (r : Remainder) (vars : List ℕ) (e : Event) (next : Next) → IsAway program mote (process_in_mote p s) → (process_in_mote p s).vars ≡ Some vars → CanCome next e s.moment → ComesHere (process_in_mote p s).lines_so_far next r vars → Stopped s
      → IfGives Stopped (RanFrom (process_in_mote p s)) (calls.run s code r p e)

  -- while the process is away, its operations, except for prints, don't change it
  abbrev pub ActsAside : Calls → Type 0
  ActsAside calls =
      (s : KernelState) (o : Op) → IsNoPrint o → IsAway program mote (process_in_mote p s) → Stopped s → IfGives Stopped (λ a t. process_in_mote p t ≡ process_in_mote p s) (act_of calls s p o)

  traced_next : (lines_so_far before lines more : List Line) → earlier ++ lines_so_far ≡ before ++ lines → earlier ++ (lines_so_far ++ more) ≡ before ++ (lines ++ more)
  traced_next lines_so_far before lines more e = sym (append_assoc earlier lines_so_far more) ∙ ap (λ l. l ++ more) e ∙ append_assoc before lines more

  lived_more : (lines_so_far before : List Line) (start : List ℕ) (lines : List Line) (out : Completion) → Lives code (Own p) mote code.starts before start → HasLife p code mote start lines out → earlier ++ lines_so_far ≡ before ++ lines
      → HasLived lines_so_far (left_by out)
  lived_more lines_so_far before start lines out lived h e =
      subst (λ l. Lives code (Own p) mote code.starts l (left_by out)) (ap (λ l. before ++ l) h.has_lines ∙ sym e)
      (subst (λ o. Lives code (Own p) mote code.starts (before ++ lines_of_life (Own p) h.life) (left_by o)) h.became_so (LivesAgain lived h.life))

  module _ (calls : Calls) (s : KernelState) (r : Remainder) (vars : List ℕ) (e : Event) (next : Next) (away : IsAway program mote (process_in_mote p s)) (has : (process_in_mote p s).vars ≡ Some vars) (can : CanCome next e s.moment) (here : ComesHere (process_in_mote p s).lines_so_far next r vars) (so_far : Stopped s) where
    -- the sight of the process
    abbrev now : Sight
    now = record { answer = answer_in next; event = e; looks = looks_of s }

    -- a step that the thread takes
    abbrev Takes : Step → Remainder → List ℕ → Type 0
    Takes x after changed = Steps code now r vars x after changed

    -- the thread gives up control or has come to an end
    rests : (a : PtState) (after : Remainder) (changed : List ℕ) → Takes (step.Done a) after changed → state_number a < 2 → (w : ProcessInMote) → w ≡ record (process_in_mote p s) { vars = Some changed } → Ran (process_in_mote p s) a after w
    rests a after changed takes small w same = record {
      left = changed;
      same = same ∙ ap (λ l. record (process_in_mote p s) { vars = Some changed; lines_so_far = l }) (sym (ap (λ v. v.lines_so_far) same));
      lived = lived_more w.lines_so_far here.before here.start here.lines (in_state changed) here.lived (in_state_there p code mote here.start here.lines next r after vars changed now can (is_answered next) away.of_mote here.comes a takes small) now_traced;
      comes = λ q. record {
        before = here.before;
        start = here.start;
        lived = here.lived;
        lines = here.lines;
        comes = gives_up_on p code mote here.start here.lines next r after vars changed now can (is_answered next) away.of_mote here.comes a takes small;
        is_traced = now_traced;
      };
    }
      where
        now_traced : earlier ++ w.lines_so_far ≡ here.before ++ here.lines
        now_traced = ap (λ v. earlier ++ v.lines_so_far) same ∙ here.is_traced

    ends : (a : PtState) (after : Remainder) (changed : List ℕ) (out : Completion) → HasLife p code mote here.start here.lines out → left_by out ≡ changed → has_ended a ≡ true → (w : ProcessInMote) → w ≡ record (process_in_mote p s) { vars = Some changed } → Ran (process_in_mote p s) a after w
    ends a after changed out life is ended w same = record {
      left = changed;
      same = same ∙ ap (λ l. record (process_in_mote p s) { vars = Some changed; lines_so_far = l }) (sym (ap (λ v. v.lines_so_far) same));
      lived = subst (λ l. HasLived w.lines_so_far l) is (lived_more w.lines_so_far here.before here.start here.lines out here.lived life (ap (λ v. earlier ++ v.lines_so_far) same ∙ here.is_traced));
      comes = λ q. absurd (let f : true ≡ false = sym ended ∙ q in cc);
    }

    done_so : (a : PtState) (after : Remainder) (changed : List ℕ) → Takes (step.Done a) after changed → (w : ProcessInMote) → w ≡ record (process_in_mote p s) { vars = Some changed } → Ran (process_in_mote p s) a after w
    done_so Waiting after changed takes w same = rests Waiting after changed takes (omega arith) w same
    done_so Yielded after changed takes w same = rests Yielded after changed takes (omega arith) w same
    done_so Exited after changed takes w same =
        ends Exited after changed _ (exits_there p code mote here.start here.lines next r after vars changed now can (is_answered next) away.of_mote here.comes takes) refl refl w same
    done_so Ended after changed takes w same =
        ends Ended after changed _ (ends_there p code mote here.start here.lines next r after vars changed now can (is_answered next) away.of_mote here.comes takes) refl refl w same

    -- an operation was performed, and the run continues
    abbrev IsBehind : Op → List ℕ → KernelState → Type 0
    IsBehind o changed t = process_in_mote p t ≡ record (process_in_mote p s) { vars = Some changed; lines_so_far = (process_in_mote p s).lines_so_far ++ printed (Own p) now (operates o) }

    still_away : (o : Op) (changed : List ℕ) (t : KernelState) → IsBehind o changed t → IsAway program mote (process_in_mote p t)
    still_away o changed t same = subst (λ v. IsAway program mote v) (sym same) (record { of_program = away.of_program; of_mote = away.of_mote; not_running = away.not_running; busy = away.busy })

    ran_on : (o : Op) (changed : List ℕ) (t : KernelState) → IsBehind o changed t → (a : Answer) (u : KernelState) → RanFrom (process_in_mote p t) a u → RanFrom (process_in_mote p s) a u
    ran_on o changed t same a u ran = record {
      left = ran.left;
      same = ran.same ∙ ap {A = ProcessInMote} (λ v. record v { vars = Some ran.left; lines_so_far = (process_in_mote p u).lines_so_far }) same;
      lived = ran.lived;
      comes = ran.comes;
    }

    module _ (runs : BodyRuns calls) where
      goes_on : (o : Op) (after : Remainder) (changed : List ℕ) (lines_so_far : ℕ) → lines_so_far < 2 → Takes (step.Op o) after changed
          → (t : KernelState) → IsBehind o (answered_of after changed lines_so_far).variables t
          → IfGives Stopped (RanFrom (process_in_mote p s)) (calls.run t code (answered_of after changed lines_so_far).remainder p e)
      goes_on o after changed lines_so_far small takes t same =
          gives_weaker _ Stopped _ _ _ (runs t (answered_of after changed lines_so_far).remainder (answered_of after changed lines_so_far).variables e (InCall lines_so_far e s.moment) (still_away o _ t same) (ap (λ v. v.vars) same) (refl, ap (λ v. v.moment) same) (record {
            before = here.before;
            start = here.start;
            lived = here.lived;
            lines = here.lines ++ printed (Own p) now (operates o);
            comes = operates_on p code mote here.start here.lines next r after vars changed now can (is_answered next) away.of_mote here.comes lines_so_far o small takes;
            is_traced = now_traced;
          }) (OnRecord (lived_more (process_in_mote p t).lines_so_far here.before here.start (here.lines ++ printed (Own p) now (operates o)) (in_state changed) here.lived (performs_there p code mote here.start here.lines next r after vars changed now can (is_answered next) away.of_mote here.comes o takes) now_traced))) (ran_on o _ t same)
        where
          now_traced : earlier ++ (process_in_mote p t).lines_so_far ≡ here.before ++ (here.lines ++ printed (Own p) now (operates o))
          now_traced = ap (λ v. earlier ++ v.lines_so_far) same ∙ traced_next (process_in_mote p s).lines_so_far here.before here.lines (printed (Own p) now (operates o)) here.is_traced

      -- the thread gets no result of the operation
      goes_unanswered : (o : Op) (after : Remainder) (changed : List ℕ) → Takes (step.Op o) after changed → after.last_action ≡ UnderWay None
          → (t : KernelState) → IsBehind o changed t → IfGives Stopped (RanFrom (process_in_mote p s)) (calls.run t code after p e)
      goes_unanswered o after changed takes last_action t same =
          let unanswered = answer_is_unused after changed 0 last_action in
          subst (λ x. IfGives Stopped (RanFrom (process_in_mote p s)) (calls.run t code x p e)) unanswered.0 (goes_on o after changed 0 (omega arith) takes t (subst (λ vs. IsBehind o vs t) (sym unanswered.1) same))

      -- the state after a step
      abbrev stepped : (changed : List ℕ) → (left : ℕ) → KernelState
      stepped changed left = record s { variables = slice_set s.variables p changed; units = left }

      stepped_in_mote : (changed : List ℕ) (left : ℕ) → process_in_mote p (stepped changed left) ≡ record (process_in_mote p s) { vars = Some changed }
      stepped_in_mote changed left = ap (λ o. record (process_in_mote p s) { vars = o }) (get_set s.variables p changed vars has)

      stepped_away : (changed : List ℕ) (left : ℕ) → IsAway program mote (process_in_mote p (stepped changed left))
      stepped_away changed left = subst (λ v. IsAway program mote v) (sym (stepped_in_mote changed left)) (record { of_program = away.of_program; of_mote = away.of_mote; not_running = away.not_running; busy = away.busy })

      stepped_so_far : (changed : List ℕ) (left : ℕ) (t : KernelState) → process_in_mote p t ≡ process_in_mote p (stepped changed left) → Stopped t
      stepped_so_far changed left t same = subst (λ v. SoFar v.lines_so_far) (sym (same ∙ stepped_in_mote changed left)) so_far

      -- the thread was informed whether the queue was full
      abbrev IsFirstFault : Remainder → List ℕ → Remainder → KernelState → Type 0
      IsFirstFault after changed r1 t =
          (lines_so_far : ℕ) × (lines_so_far < 2) × (r1 ≡ (answered_of after changed lines_so_far).remainder) × (process_in_mote p t ≡ record (process_in_mote p s) { vars = Some (answered_of after changed lines_so_far).variables })

      is_small : (full : Bool) → (if full then 1 else 0) < 2
      is_small true = omega arith
      is_small false = omega arith

      answer_passed : (after : Remainder) (changed : List ℕ) (u : KernelState) (full : Bool) → process_in_mote p u ≡ record (process_in_mote p s) { vars = Some changed } → IfGives Stopped (IsFirstFault after changed) (answer_of u after p full)
      unfolding answer_of
      answer_passed after changed u full same =
          let there : slice_get u.variables p ≡ Some changed = ap (λ v. v.vars) same in
          let n = if full then 1 else 0 in
          subst (λ o. IfGives Stopped (IsFirstFault after changed) (answered_with o u after p n)) (sym there)
          (n, is_small full, refl, ap (λ o. record (process_in_mote p u) { vars = o }) (get_set u.variables p (answered_of after changed n).variables changed there) ∙ ap {A = ProcessInMote} (λ v. record v { vars = Some (answered_of after changed n).variables }) same)

      posted_on : (after : Remainder) (changed : List ℕ) (left : ℕ) (t : Target) (number word : ℕ) → Takes (step.Op (op.Post t number word)) after changed
          → IfGives Stopped (RanFrom (process_in_mote p s)) (perform_of calls (stepped changed left) after p (op.Post t number word) >>= λ r1 s1. calls.run s1 code r1 p e)
      unfolding perform_of
      posted_on after changed left t number word takes =
          gives_bind _ _ Stopped (IsFirstFault after changed) _ (perform_of calls (stepped changed left) after p (op.Post t number word)) _
          (gives_bind _ _ Stopped (λ full u. process_in_mote p u ≡ process_in_mote p (stepped changed left)) _ (process_post (stepped changed left) t (posted number word)) _ (from_always Bool Stopped (λ u. process_in_mote p u ≡ process_in_mote p (stepped changed left)) (λ u. process_in_mote p u ≡ process_in_mote p (stepped changed left)) (process_post (stepped changed left) t (posted number word)) (post_quiet p (stepped changed left) t (posted number word)) (λ u same. stepped_so_far changed left u same) (λ u same. same))
          (λ full u same. answer_passed after changed u full (same ∙ stepped_in_mote changed left)))
          (λ r1 u h. subst (λ x. IfGives Stopped (RanFrom (process_in_mote p s)) (calls.run u code x p e)) (sym h.2) (goes_on (op.Post t number word) after changed h.0 h.1 takes u (h.3 ∙ ap (λ l. record (process_in_mote p s) { vars = Some (answered_of after changed h.0).variables; lines_so_far = l }) (sym (append-nil (process_in_mote p s).lines_so_far)))))

      same_own : starts_or_prints (Own p) (what.Print (Own p) zero) ≡ true
      same_own = grind (arith, nat_tests)

      printed_on : (after : Remainder) (changed : List ℕ) (left v : ℕ) → Takes (step.Op (op.Print v)) after changed → after.last_action ≡ UnderWay None
          → IfGives Stopped (RanFrom (process_in_mote p s)) (perform_of calls (stepped changed left) after p (op.Print v) >>= λ r1 s1. calls.run s1 code r1 p e)
      unfolding perform_of act_of write_of
      printed_on after changed left v takes last_action =
          goes_unanswered (op.Print v) after changed takes last_action (with_line (stepped changed left) (what.Print (Own p) v))
          (ap (λ l. record (process_in_mote p (stepped changed left)) { lines_so_far = l }) (traced_more (Own p) s.lines (record { at = s.moment; what = what.Print (Own p) v }) ∙ ap (λ b. starts_and_prints (Own p) s.lines ++ (if b then record { at = s.moment; what = what.Print (Own p) v } ∷ [] else [])) same_own)
          ∙ ap {A = ProcessInMote} (λ w. record w { lines_so_far = (process_in_mote p s).lines_so_far ++ record { at = s.moment; what = what.Print (Own p) v } ∷ [] }) (stepped_in_mote changed left))

      module _ (acts : ActsAside calls) where
        acted_on : (after : Remainder) (changed : List ℕ) (left : ℕ) (o : Op) → IsNoPrint o → printed (Own p) now (operates o) ≡ [] → Takes (step.Op o) after changed → after.last_action ≡ UnderWay None
            → IfGives Stopped (RanFrom (process_in_mote p s)) ((act_of calls (stepped changed left) p o >>= λ _ s1. Goes after s1) >>= λ r1 s1. calls.run s1 code r1 p e)
        acted_on after changed left o aside nothing takes last_action =
            gives_bind _ _ Stopped (λ r1 u. (r1 ≡ after) × (process_in_mote p u ≡ process_in_mote p (stepped changed left))) _ (act_of calls (stepped changed left) p o >>= λ _ s1. Goes after s1) _
            (gives_bind _ _ Stopped (λ a u. process_in_mote p u ≡ process_in_mote p (stepped changed left)) _ (act_of calls (stepped changed left) p o) _ (acts (stepped changed left) o aside (stepped_away changed left) (stepped_so_far changed left (stepped changed left) refl)) (λ a u same. (refl, same)))
            (λ r1 u h. subst (λ x. IfGives Stopped (RanFrom (process_in_mote p s)) (calls.run u code x p e)) (sym h.0) (goes_unanswered o after changed takes last_action u
            (h.1 ∙ stepped_in_mote changed left ∙ ap (λ l. record (process_in_mote p s) { vars = Some changed; lines_so_far = l }) (sym (append-nil (process_in_mote p s).lines_so_far) ∙ ap (λ l. (process_in_mote p s).lines_so_far ++ l) (sym nothing)))))

        performed_on : (after : Remainder) (changed : List ℕ) (left : ℕ) (o : Op) → Takes (step.Op o) after changed → IsUnanswered o after.last_action
            → IfGives Stopped (RanFrom (process_in_mote p s)) (perform_of calls (stepped changed left) after p o >>= λ r1 s1. calls.run s1 code r1 p e)
        unfolding perform_of
        performed_on after changed left (op.Post t number word) takes last_action = posted_on after changed left t number word takes
        performed_on after changed left (op.Print v) takes last_action = printed_on after changed left v takes last_action
        performed_on after changed left o takes last_action = acted_on after changed left o tt refl takes last_action

        stepped_on : (x : Step) (after : Remainder) (changed : List ℕ) (left : ℕ) → Takes x after changed → StepUnanswered x after.last_action
            → IfGives Stopped (RanFrom (process_in_mote p s)) (after_step calls code p e x after (stepped changed left))
        stepped_on (step.Op o) after changed left takes last_action = performed_on after changed left o takes last_action
        stepped_on (step.Done a) after changed left takes last_action = done_so a after changed takes (process_in_mote p (stepped changed left)) (stepped_in_mote changed left)
        stepped_on step.Runaway after changed left takes last_action = stepped_so_far changed left (halted_of (stepped changed left)) (halted_quiet p (stepped changed left))

        pub runs_on : IfGives Stopped (RanFrom (process_in_mote p s)) (run_of calls s code r p e)
        unfolding run_of stepped_of
        runs_on =
            let a = advanced_of code e (looks_of s) r vars s.units in
            subst (λ o. IfGives Stopped (RanFrom (process_in_mote p s)) (let m = stepped_with o s code r p e in after_step calls code p e m.step m.remainder m.state)) (sym has)
            (stepped_on a.step a.remainder a.variables a.units (s.units, a.units, refl) (step_unanswered code e (looks_of s) r vars s.units))

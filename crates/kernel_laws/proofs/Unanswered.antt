-- A thread that gets no result: only the result of a post changes the thread.
use Rattle.std.proofs.Common.{ℕ, zero, suc, ◌≡◌, ◌-◌, Bool, true, false, ◌&&◌, if◌then◌else◌, List, None, refl, sym, subst}
use Rattle.std.specs.Prelude.{nat_lt, not, slice_index, ◌==◌}
use Rattle.program_tree.specs.declared.event.Event.{Event}
use Rattle.program_tree.specs.Tree.{Action, assign, wait_until, wait_while, yield, yield_until, spawn, restart, exit, pause, acquire, post, broadcast, Statement, does}
use Rattle.program_tree.specs.Code.{Code}
use Rattle.protothread.specs.declared.part.Part.{Part}
use Rattle.protothread.specs.declared.thread.LastAction.{LastAction}
use Rattle.protothread.specs.declared.thread.LastAction.TheVariants.{AtRest, UnderWay, Pausing, RunAway}
use Rattle.protothread.specs.declared.step.Op.{Op}
use Rattle.protothread.specs.declared.step.Op.TheVariants.{Post}
use Rattle.protothread.specs.declared.step.Step.{Step}
use Rattle.protothread.specs.declared.step.Step.TheVariants as step
use Rattle.protothread.specs.declared.answer.PtState.TheVariants.{Waiting, Yielded, Exited, Ended}
use Rattle.protothread.specs.Looks.{Looks}
use Rattle.protothread.specs.Value.{value, holds}
use Rattle.protothread.specs.Remainder.{Place, ended, at, within, settled, Remainder, thread_block, whole_of}
use Rattle.protothread.specs.Step.{Reached, goes_on, operates, answers, effect_of, performed, spawner_reached, reached, Advanced, continued, passed, advanced_of, answered_of}
use Rattle.protothread.proofs.Units.{called, follows, stepped}

-- the last action of a thread after this operation: a result is expected only after a post
abbrev pub IsUnanswered : Op → LastAction → Type 0
IsUnanswered (Post t e w) m = Unit {0}
IsUnanswered o m = m ≡ UnderWay None

abbrev pub StepUnanswered : Step → LastAction → Type 0
StepUnanswered (step.Op o) m = IsUnanswered o m
StepUnanswered s m = Unit {0}

abbrev pub AdvancedUnanswered : Advanced → Type 0
AdvancedUnanswered a = StepUnanswered a.step a.remainder.last_action

abbrev ReachedUnanswered : Reached → Type 0
ReachedUnanswered (operates o last_action p) = IsUnanswered o last_action
ReachedUnanswered r = Unit {0}

either_unanswered : (D : Type 0) (f : D → Reached) (b : Bool) (c d : D) → ReachedUnanswered (f c) → ReachedUnanswered (f d) → ReachedUnanswered (f (if b then c else d))
either_unanswered D f true c d h k = h
either_unanswered D f false c d h k = k

module _ (code : Code) (whole : List (Statement ℕ)) (y : Bool) (vars : List ℕ) (event : Event) (looks : Looks) (rest : List (Statement ℕ)) where
  unanswered_does : (a : Action ℕ) → ReachedUnanswered (performed code whole vars (does a) rest (effect_of code.number y vars event looks a))
  unanswered_does (assign i e) = tt
  unanswered_does (wait_until c) = either_unanswered _ (performed code whole vars (does (wait_until c)) rest) (holds (value vars event looks c)) _ _ tt tt
  unanswered_does (wait_while c) = either_unanswered _ (performed code whole vars (does (wait_while c)) rest) (not (holds (value vars event looks c))) _ _ tt tt
  unanswered_does yield = either_unanswered _ (performed code whole vars (does yield) rest) y _ _ tt tt
  unanswered_does (yield_until c) = either_unanswered _ (performed code whole vars (does (yield_until c)) rest) (y && holds (value vars event looks c)) _ _ tt tt
  unanswered_does (spawn t) = tt
  unanswered_does restart = tt
  unanswered_does exit = tt
  unanswered_does pause =
      either_unanswered _ (performed code whole vars (does pause) rest) y _ _ (either_unanswered _ (performed code whole vars (does pause) rest) (event.number == 0x85) _ _ tt tt) tt
  unanswered_does (acquire s) = either_unanswered _ (performed code whole vars (does (acquire s)) rest) (slice_index looks.counts s == 0) _ _ tt refl
  unanswered_does (post p e w into) = tt
  unanswered_does (broadcast e w into) = tt
  unanswered_does x = refl

unanswered_spawner : (t : ℕ) (rest : List (Statement ℕ)) (vars : List ℕ) (r : Reached) → ReachedUnanswered r → ReachedUnanswered (spawner_reached t rest vars r)
unanswered_spawner t rest vars (goes_on changed p) h = tt
unanswered_spawner t rest vars (operates o last_action p) h = h
unanswered_spawner t rest vars (answers Waiting p) h = tt
unanswered_spawner t rest vars (answers Yielded p) h = tt
unanswered_spawner t rest vars (answers Exited p) h = tt
unanswered_spawner t rest vars (answers Ended p) h = tt

unanswered_reached : (code : Code) (whole : List (Statement ℕ)) (vars : List ℕ) (event : Event) (looks : Looks) (p : Place) → ReachedUnanswered (reached code whole vars event looks p)
unanswered_reached code whole vars event looks (at y (does a) rest) =
    unanswered_does code whole y vars event looks rest a
unanswered_reached code whole vars event looks (within t p rest) =
    unanswered_spawner t rest vars (reached code (thread_block code t) vars event looks p) (unanswered_reached code (thread_block code t) vars event looks p)
unanswered_reached code whole vars event looks x = tt

module _ (code : Code) (part : Part) (event : Event) (looks : Looks) where
  unanswered_step : (units : ℕ) (p : Place) (vars : List ℕ) → AdvancedUnanswered (continued code part event looks p vars units)
  unanswered_step zero p vars =
      elim (settled p) as (λ q. AdvancedUnanswered (stepped code part event looks vars 0 q)) [
        | ended ↦ tt
        | at y s rest ↦ tt
        | within t q rest ↦ tt
      ]
  unanswered_step (suc units) p vars =
      let after : (r : Reached) → ReachedUnanswered r → AdvancedUnanswered (follows code part event looks vars units r) =
      λ r. elim r as (λ r. ReachedUnanswered r → AdvancedUnanswered (follows code part event looks vars units r)) [
        | goes_on changed q ↦ λ h. unanswered_step units q changed
        | operates o last_action q ↦ λ h. h
        | answers a q ↦ λ h. tt
      ] in
      elim (settled p) as (λ q. AdvancedUnanswered (stepped code part event looks vars (suc units) q)) [
        | ended ↦ tt
        | at y s rest ↦ after (reached code (whole_of code part) vars event looks (at y s rest)) (unanswered_reached code (whole_of code part) vars event looks (at y s rest))
        | within t q rest ↦ after (reached code (whole_of code part) vars event looks (within t q rest)) (unanswered_reached code (whole_of code part) vars event looks (within t q rest))
      ]

unanswered_from : (m : LastAction) (code : Code) (event : Event) (looks : Looks) (r : Remainder) (vars : List ℕ) (units : ℕ)
    → AdvancedUnanswered (advanced_of code event looks (record r { last_action = m }) vars units)
unfolding advanced_of
unanswered_from AtRest code event looks r vars units =
    elim (nat_lt units (passed r.place)) as (λ b. AdvancedUnanswered (called code event looks r vars units b)) [
      | true ↦ tt
      | false ↦ unanswered_step code r.part event looks (units - passed r.place) r.place vars
    ]
unanswered_from (UnderWay into) code event looks r vars units = unanswered_step code r.part event looks units r.place vars
unanswered_from Pausing code event looks r vars units = tt
unanswered_from RunAway code event looks r vars units = tt

-- after an operation other than a post, the thread gets no result
pub step_unanswered : (code : Code) (event : Event) (looks : Looks) (r : Remainder) (vars : List ℕ) (units : ℕ)
    → AdvancedUnanswered (advanced_of code event looks r vars units)
step_unanswered code event looks r vars units = unanswered_from r.last_action code event looks r vars units

abbrev IsSame : (answer : ℕ) → Remainder → List ℕ → Type 0
IsSame answer r vars = ((answered_of r vars answer).remainder ≡ r) × ((answered_of r vars answer).variables ≡ vars)

-- a result that isn't expected changes nothing
pub answer_is_unused : (r : Remainder) (vars : List ℕ) (answer : ℕ) → r.last_action ≡ UnderWay None → IsSame answer r vars
answer_is_unused r vars answer e = by r.last_action e
  where
    by : (m : LastAction) → m ≡ UnderWay None → IsSame answer (record r { last_action = m }) vars
    by m e = subst (λ m. IsSame answer (record r { last_action = m }) vars) (sym e) (refl, refl)

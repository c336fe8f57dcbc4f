-- A thread of a quiet block prints nothing and keeps the variables.
use Rattle.std.proofs.Common.{ℕ, zero, suc, ◌≡◌, ◌-◌, Bool, true, false, ◌&&◌, if◌then◌else◌, List, [], ◌∷◌, ◌++◌, Option, None, Some, slice_get, refl, ap, ◌∙◌}
use Rattle.std.specs.Prelude.{nat_lt, nat_le, not, slice_index, length, ◌==◌, ◌+◌}
use Rattle.program_tree.specs.declared.event.Event.{Event}
use Rattle.program_tree.specs.Tree.{Action, assign, print, wait_until, wait_while, yield, yield_until, spawn, restart, exit, pause, acquire, post, broadcast, Statement, does, branch, while, Body, end, next, Otherwise, nothing, otherwise, listed}
use Rattle.program_tree.specs.Code.{Code, callback_at}
use Rattle.protothread.specs.declared.part.Part.{Part}
use Rattle.protothread.specs.declared.part.Part.TheVariants.{OnPoll, OnExit, Callback}
use Rattle.protothread.specs.declared.thread.LastAction.{LastAction}
use Rattle.protothread.specs.declared.thread.LastAction.TheVariants.{AtRest, UnderWay, Pausing, RunAway}
use Rattle.protothread.specs.declared.step.Step.{Step}
use Rattle.protothread.specs.declared.step.Step.TheVariants as step
use Rattle.protothread.specs.Looks.{Looks}
use Rattle.protothread.specs.Value.{value, holds}
use Rattle.protothread.specs.Remainder.{Place, ended, at, within, before, Remainder, statements_of, fresh_of, whole_of}
use Rattle.protothread.specs.Step.{Reached, goes_on, operates, answers, effect_of, performed, reached, Advanced, continued, passed, advanced_of, answered_of, other_block}
use Rattle.protothread.proofs.Units.{called, follows, stepped}
use Rattle.kernel_laws.specs.Printed.{is_quiet_action, is_quiet, is_quiet_statement, is_quiet_other, are_quiet, is_quiet_block, IsQuietApart}
use Rattle.kernel_laws.proofs.BodyRuns.{IsNoPrint}

both : (a b : Bool) → (a && b) ≡ true → (a ≡ true) × (b ≡ true)
both true b e = (refl, e)
both false b e = absurd (cc)

-- lists of statements

abbrev pub all_quiet : List (Statement ℕ) → Bool
all_quiet [] = true
all_quiet (s ∷ ss) = is_quiet_statement s && all_quiet ss

listed_quiet : (b : Body ℕ) → all_quiet (listed b) ≡ is_quiet b
listed_quiet end = refl
listed_quiet (next s b) = ap (λ c. is_quiet_statement s && c) (listed_quiet b)

joined_quiet : (xs ys : List (Statement ℕ)) → all_quiet xs ≡ true → all_quiet ys ≡ true → all_quiet (xs ++ ys) ≡ true
joined_quiet [] ys h i = i
joined_quiet (x ∷ xs) ys h i = let q = both (is_quiet_statement x) (all_quiet xs) h in rw (q.0) (joined_quiet xs ys q.1 i)

other_quiet : (o : Otherwise ℕ) → is_quiet_other o ≡ true → all_quiet (other_block o) ≡ true
other_quiet nothing h = refl
other_quiet (otherwise b) h = listed_quiet b ∙ h

block_quiet : (b : Option (Body ℕ)) → is_quiet_block b ≡ true → all_quiet (statements_of b) ≡ true
block_quiet None h = refl
block_quiet (Some b) h = listed_quiet b ∙ h

one_quiet : (bs : List (Body ℕ)) (k : ℕ) → are_quiet bs ≡ true → is_quiet_block (slice_get bs k) ≡ true
one_quiet [] k h = refl
one_quiet (b ∷ bs) zero h = (both (is_quiet b) (are_quiet bs) h).0
one_quiet (b ∷ bs) (suc k) h = one_quiet bs k (both (is_quiet b) (are_quiet bs) h).1

pub poll_quiet : (code : Code) → IsQuietApart code → all_quiet (whole_of code OnPoll) ≡ true
poll_quiet code h = block_quiet code.on_poll h.at_poll

pub exit_quiet : (code : Code) → IsQuietApart code → all_quiet (whole_of code OnExit) ≡ true
exit_quiet code h = block_quiet code.on_exit h.at_exit

pub callback_quiet : (code : Code) (timer : ℕ) → IsQuietApart code → all_quiet (whole_of code (Callback timer)) ≡ true
callback_quiet code timer h = block_quiet (callback_at code timer) (by (nat_le (code.first_timer + length code.etimers) timer))
  where
    by : (b : Bool) → is_quiet_block (if b then slice_get code.callbacks (timer - (code.first_timer + length code.etimers)) else None) ≡ true
    by true = one_quiet code.callbacks _ h.in_callbacks
    by false = refl

-- the position and the last action of such a thread

abbrev pub IsQuietPlace : Place → Type 0
IsQuietPlace ended = Unit {0}
IsQuietPlace (at y s rest) = (is_quiet_statement s ≡ true) × (all_quiet rest ≡ true)
IsQuietPlace (within t p rest) = ⊥

abbrev pub IsQuietAction : LastAction → Type 0
IsQuietAction (UnderWay (Some i)) = ⊥
IsQuietAction m = Unit {0}

before_quiet : (y : Bool) (ss : List (Statement ℕ)) → all_quiet ss ≡ true → IsQuietPlace (before y ss)
before_quiet y [] h = tt
before_quiet y (s ∷ ss) h = both (is_quiet_statement s) (all_quiet ss) h

-- the remainder of a quiet thread
pub record IsQuietRest (code : Code) (r : Remainder) : Type 0 where
  pub whole : all_quiet (whole_of code r.part) ≡ true
  pub last_action : IsQuietAction r.last_action
  pub place : IsQuietPlace r.place

pub fresh_quiet : (code : Code) (part : Part) → all_quiet (whole_of code part) ≡ true → IsQuietRest code (fresh_of code part)
fresh_quiet code part h = record { whole = h; last_action = tt; place = before_quiet false (whole_of code part) h }

-- a statement

abbrev ReachedQuietly : (vars : List ℕ) → Reached → Type 0
ReachedQuietly vars (goes_on changed p) = (changed ≡ vars) × IsQuietPlace p
ReachedQuietly vars (operates o last_action p) = IsNoPrint o × IsQuietAction last_action × IsQuietPlace p
ReachedQuietly vars (answers a p) = IsQuietPlace p

either_quiet : (D : Type 0) (vars : List ℕ) (f : D → Reached) (b : Bool) (c d : D) → ReachedQuietly vars (f c) → ReachedQuietly vars (f d) → ReachedQuietly vars (f (if b then c else d))
either_quiet D vars f true c d h k = h
either_quiet D vars f false c d h k = k

module _ (code : Code) (whole : List (Statement ℕ)) (all : all_quiet whole ≡ true) (y : Bool) (vars : List ℕ) (event : Event) (looks : Looks) (rest : List (Statement ℕ)) (left : all_quiet rest ≡ true) where
  abbrev Done : Action ℕ → Reached
  Done a = performed code whole vars (does a) rest (effect_of code.number y vars event looks a)

  on : IsQuietPlace (before false rest)
  on = before_quiet false rest left

  done_quiet : (a : Action ℕ) → is_quiet_action a ≡ true → ReachedQuietly vars (Done a)
  done_quiet (assign i e) h = absurd (cc)
  done_quiet (print e) h = absurd (cc)
  done_quiet (wait_until c) h = either_quiet _ vars (performed code whole vars (does (wait_until c)) rest) (holds (value vars event looks c)) _ _ (refl, on) (refl, left)
  done_quiet (wait_while c) h = either_quiet _ vars (performed code whole vars (does (wait_while c)) rest) (not (holds (value vars event looks c))) _ _ (refl, on) (refl, left)
  done_quiet yield h = either_quiet _ vars (performed code whole vars (does yield) rest) y _ _ (refl, on) (refl, left)
  done_quiet (yield_until c) h = either_quiet _ vars (performed code whole vars (does (yield_until c)) rest) (y && holds (value vars event looks c)) _ _ (refl, on) (refl, left)
  done_quiet (spawn t) h = absurd (cc)
  done_quiet restart h = before_quiet false whole all
  done_quiet exit h = before_quiet false whole all
  done_quiet pause h =
      either_quiet _ vars (performed code whole vars (does pause) rest) y _ _ (either_quiet _ vars (performed code whole vars (does pause) rest) (event.number == 0x85) _ _ (refl, on) (refl, left)) (tt, tt, (refl, left))
  done_quiet (acquire s) h = either_quiet _ vars (performed code whole vars (does (acquire s)) rest) (slice_index looks.counts s == 0) _ _ (refl, left) (tt, tt, on)
  done_quiet (post p e w (Some i)) h = absurd (cc)
  done_quiet (broadcast e w (Some i)) h = absurd (cc)
  done_quiet x h = (tt, tt, on)

  chosen_quiet : (b : Bool) (xs ys : List (Statement ℕ)) → all_quiet xs ≡ true → all_quiet ys ≡ true → all_quiet (if b then xs else ys) ≡ true
  chosen_quiet true xs ys h i = h
  chosen_quiet false xs ys h i = i

  statement_quiet : (s : Statement ℕ) → is_quiet_statement s ≡ true → ReachedQuietly vars (reached code whole vars event looks (at y s rest))
  statement_quiet (does a) h = done_quiet a h
  statement_quiet (branch c a o) h =
      let q = both (is_quiet a) (is_quiet_other o) h in
      (refl, before_quiet false _ (joined_quiet (if holds (value vars event looks c) then listed a else other_block o) rest (chosen_quiet (holds (value vars event looks c)) (listed a) (other_block o) (listed_quiet a ∙ q.0) (other_quiet o q.1)) left))
  statement_quiet (while c a) h =
      (refl, before_quiet false _ (chosen_quiet (holds (value vars event looks c)) (listed a ++ while c a ∷ rest) rest (joined_quiet (listed a) (while c a ∷ rest) (listed_quiet a ∙ h) (rw h left)) left))

reached_quiet : (code : Code) (whole : List (Statement ℕ)) → all_quiet whole ≡ true → (vars : List ℕ) (event : Event) (looks : Looks) (p : Place) → IsQuietPlace p → ReachedQuietly vars (reached code whole vars event looks p)
reached_quiet code whole all vars event looks ended h = tt
reached_quiet code whole all vars event looks (at y s rest) h = statement_quiet code whole all y vars event looks rest h.1 s h.0
reached_quiet code whole all vars event looks (within t p rest) h = absurd h

-- a step

abbrev pub IsNoPrintStep : Step → Type 0
IsNoPrintStep (step.Op o) = IsNoPrint o
IsNoPrintStep s = Unit {0}

pub record AdvancesQuietly (code : Code) (vars : List ℕ) (a : Advanced) : Type 0 where
  pub step : IsNoPrintStep a.step
  pub variables : a.variables ≡ vars
  pub rest : IsQuietRest code a.remainder

module _ (code : Code) (part : Part) (all : all_quiet (whole_of code part) ≡ true) (event : Event) (looks : Looks) where
  ends_quietly : (vars : List ℕ) (units : ℕ) → AdvancesQuietly code vars (stepped code part event looks vars units ended)
  ends_quietly vars zero = record { step = tt; variables = refl; rest = fresh_quiet code part all }
  ends_quietly vars (suc units) = record { step = tt; variables = refl; rest = fresh_quiet code part all }

  goes_quietly : (units : ℕ) (p : Place) (vars : List ℕ) → IsQuietPlace p → AdvancesQuietly code vars (continued code part event looks p vars units)
  goes_quietly units ended vars h = first units
    where
      first : (n : ℕ) → AdvancesQuietly code vars (continued code part event looks ended vars n)
      first zero = ends_quietly vars zero
      first (suc n) = ends_quietly vars (suc n)
  goes_quietly zero (at y s rest) vars h = record { step = tt; variables = refl; rest = record { whole = all; last_action = tt; place = h } }
  goes_quietly (suc units) (at y s rest) vars h =
      let after : (r : Reached) → ReachedQuietly vars r → AdvancesQuietly code vars (follows code part event looks vars units r) =
      λ r. elim r as (λ r. ReachedQuietly vars r → AdvancesQuietly code vars (follows code part event looks vars units r)) [
        | goes_on changed q ↦ λ k. let a = goes_quietly units q changed k.1 in record { step = a.step; variables = a.variables ∙ k.0; rest = a.rest }
        | operates o last_action q ↦ λ k. record { step = k.0; variables = refl; rest = record { whole = all; last_action = k.1; place = k.2 } }
        | answers a q ↦ λ k. record { step = tt; variables = refl; rest = record { whole = all; last_action = tt; place = k } }
      ] in
      after (reached code (whole_of code part) vars event looks (at y s rest)) (reached_quiet code (whole_of code part) all vars event looks (at y s rest) h)
  goes_quietly units (within t p rest) vars h = absurd h

advances_from : (m : LastAction) (code : Code) (event : Event) (looks : Looks) (r : Remainder) (vars : List ℕ) (units : ℕ) → all_quiet (whole_of code r.part) ≡ true → IsQuietAction m → IsQuietPlace r.place
    → AdvancesQuietly code vars (advanced_of code event looks (record r { last_action = m }) vars units)
unfolding advanced_of
advances_from AtRest code event looks r vars units all m p =
    elim (nat_lt units (passed r.place)) as (λ b. AdvancesQuietly code vars (called code event looks r vars units b)) [
      | true ↦ record { step = tt; variables = refl; rest = record { whole = all; last_action = tt; place = p } }
      | false ↦ goes_quietly code r.part all event looks (units - passed r.place) r.place vars p
    ]
advances_from (UnderWay into) code event looks r vars units all m p = goes_quietly code r.part all event looks units r.place vars p
advances_from Pausing code event looks r vars units all m p = record { step = tt; variables = refl; rest = record { whole = all; last_action = tt; place = p } }
advances_from RunAway code event looks r vars units all m p = record { step = tt; variables = refl; rest = record { whole = all; last_action = tt; place = p } }

pub advances_quietly : (code : Code) (event : Event) (looks : Looks) (r : Remainder) (vars : List ℕ) (units : ℕ) → IsQuietRest code r → AdvancesQuietly code vars (advanced_of code event looks r vars units)
advances_quietly code event looks r vars units h = advances_from r.last_action code event looks r vars units h.whole h.last_action h.place

-- a result that is stored in no variable
abbrev AnsweredQuietly : Code → (vars : List ℕ) → (answer : ℕ) → Remainder → Type 0
AnsweredQuietly code vars answer r = IsQuietRest code (answered_of r vars answer).remainder × ((answered_of r vars answer).variables ≡ vars)

answered_from : (m : LastAction) (code : Code) (r : Remainder) (vars : List ℕ) (answer : ℕ) → all_quiet (whole_of code r.part) ≡ true → IsQuietAction m → IsQuietPlace r.place → AnsweredQuietly code vars answer (record r { last_action = m })
answered_from (UnderWay (Some i)) code r vars answer all m p = absurd m
answered_from x code r vars answer all m p = (record { whole = all; last_action = tt; place = p }, refl)

pub answered_quietly : (code : Code) (r : Remainder) (vars : List ℕ) (answer : ℕ) → IsQuietRest code r → AnsweredQuietly code vars answer r
answered_quietly code r vars answer h = answered_from r.last_action code r vars answer h.whole h.last_action h.place

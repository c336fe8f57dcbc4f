-- The places at which a step gives up control.
use Rattle.std.proofs.Common.{◌≡◌, ℕ, zero, suc, ◌-◌, ◌<◌, inl, inr, Bool, true, false, ◌&&◌, if◌then◌else◌, List, []}
use Rattle.std.proofs.Common.{◌∷◌, None, refl, arith}
use Rattle.std.specs.Prelude.{nat_lt, not, slice_index, ◌==◌}
use Rattle.program_tree.specs.declared.event.Event.{Event}
use Rattle.program_tree.specs.Tree.{Action, assign, print, send, wait_until, wait_while, yield, yield_until, spawn}
use Rattle.program_tree.specs.Tree.{restart, exit, pause, acquire, signal, post, broadcast, synch, poll, start, kill}
use Rattle.program_tree.specs.Tree.{set, reset, restart_timer, stop, Statement, does, branch, while}
use Rattle.program_tree.specs.Code.{Code}
use Rattle.protothread.specs.declared.part.Part.{Part}
use Rattle.protothread.specs.declared.thread.LastAction.{LastAction}
use Rattle.protothread.specs.declared.thread.LastAction.TheVariants.{AtRest, UnderWay, Pausing, RunAway}
use Rattle.protothread.specs.declared.effect.StatementEffect.TheVariants.{Pauses, Waits, Yields, Operates}
use Rattle.protothread.specs.declared.step.Op.{Op}
use Rattle.protothread.specs.declared.step.Step.TheVariants as step
use Rattle.protothread.specs.declared.answer.PtState.{PtState}
use Rattle.protothread.specs.declared.answer.PtState.TheVariants.{Waiting, Yielded, Exited, Ended}
use Rattle.protothread.specs.State.{state_number}
use Rattle.protothread.specs.Looks.{Looks}
use Rattle.protothread.specs.Value.{value, holds}
use Rattle.protothread.specs.Remainder.{Place, ended, at, within, before, settled, Remainder, thread_block, whole_of}
use Rattle.protothread.specs.Step.{Reached, goes_on, operates, answers, passes_where, effect_of, performed}
use Rattle.protothread.specs.Step.{spawner_reached, reached, continued, passed, advanced_of}
use Rattle.protothread.specs.Laws.{is_wait, IsHeld, IsSound, GivesUpAtAWait, ControlIsGivenUpAtWaits}
use Rattle.protothread.proofs.Units.{called, follows, stepped}

held_before : (code : Code) (whole : List (Statement ℕ)) → IsHeld code whole (before false whole)
held_before code [] = refl
held_before code (s ∷ rest) = inr refl

-- a thread that gives up control is held at its place
abbrev HeldBy : Code → (whole : List (Statement ℕ)) → Reached → Type 0
HeldBy code whole (operates o Pausing p) = IsHeld code whole p
HeldBy code whole (answers Waiting p) = IsHeld code whole p
HeldBy code whole (answers Yielded p) = IsHeld code whole p
HeldBy code whole r = Unit {0}

module _ (code : Code) (whole : List (Statement ℕ)) (vars : List ℕ) where
  waits_so : (s : Statement ℕ) (rest : List (Statement ℕ)) (b : Bool) → is_wait s ≡ true → HeldBy code whole (performed code whole vars s rest (passes_where b Waits))
  waits_so s rest true h = tt
  waits_so s rest false h = inl h

  yields_so : (s : Statement ℕ) (rest : List (Statement ℕ)) (b : Bool) → is_wait s ≡ true → HeldBy code whole (performed code whole vars s rest (passes_where b Yields))
  yields_so s rest true h = tt
  yields_so s rest false h = inl h

  pauses_so : (rest : List (Statement ℕ)) (b c : Bool) (o : Op) → HeldBy code whole (performed code whole vars (does pause) rest (if b then passes_where c Yields else Pauses o))
  pauses_so rest true c o = yields_so (does pause) rest c refl
  pauses_so rest false c o = inl refl

  acquires_so : (n : ℕ) (rest : List (Statement ℕ)) (b : Bool) (o : Op) → HeldBy code whole (performed code whole vars (does (acquire n)) rest (if b then Waits else Operates o None))
  acquires_so n rest true o = inl refl
  acquires_so n rest false o = tt

  held_action : (process : ℕ) (y : Bool) (event : Event) (looks : Looks) (rest : List (Statement ℕ)) (a : Action ℕ)
      → HeldBy code whole (performed code whole vars (does a) rest (effect_of process y vars event looks a))
  held_action process y event looks rest (assign i e) = tt
  held_action process y event looks rest (print e) = tt
  held_action process y event looks rest (send e) = tt
  held_action process y event looks rest (wait_until c) = waits_so _ rest (holds (value vars event looks c)) refl
  held_action process y event looks rest (wait_while c) = waits_so _ rest (not (holds (value vars event looks c))) refl
  held_action process y event looks rest yield = yields_so _ rest y refl
  held_action process y event looks rest (yield_until c) = yields_so _ rest (y && holds (value vars event looks c)) refl
  held_action process y event looks rest (spawn t) = tt
  held_action process y event looks rest restart = held_before code whole
  held_action process y event looks rest exit = tt
  held_action process y event looks rest pause = pauses_so rest y _ _
  held_action process y event looks rest (acquire s) = acquires_so s rest (slice_index looks.counts s == 0) _
  held_action process y event looks rest (signal s) = tt
  held_action process y event looks rest (post p e w into) = tt
  held_action process y event looks rest (broadcast e w into) = tt
  held_action process y event looks rest (synch p e w) = tt
  held_action process y event looks rest (poll p) = tt
  held_action process y event looks rest (start p) = tt
  held_action process y event looks rest (kill p) = tt
  held_action process y event looks rest (set t e) = tt
  held_action process y event looks rest (reset t) = tt
  held_action process y event looks rest (restart_timer t) = tt
  held_action process y event looks rest (stop t) = tt

  held_spawner : (t : ℕ) (rest : List (Statement ℕ)) (r : Reached) → HeldBy code (thread_block code t) r → HeldBy code whole (spawner_reached t rest vars r)
  held_spawner t rest (goes_on changed p) h = tt
  held_spawner t rest (operates o AtRest p) h = tt
  held_spawner t rest (operates o (UnderWay into) p) h = tt
  held_spawner t rest (operates o Pausing p) h = h
  held_spawner t rest (operates o RunAway p) h = tt
  held_spawner t rest (answers Waiting p) h = h
  held_spawner t rest (answers Yielded p) h = h
  held_spawner t rest (answers Exited p) h = tt
  held_spawner t rest (answers Ended p) h = tt

held : (code : Code) (whole : List (Statement ℕ)) (vars : List ℕ) (event : Event) (looks : Looks) (p : Place) → HeldBy code whole (reached code whole vars event looks p)
held code whole vars event looks ended = tt
held code whole vars event looks (at y (does a) rest) = held_action code whole vars code.number y event looks rest a
held code whole vars event looks (at y (branch c a o) rest) = tt
held code whole vars event looks (at y (while c a) rest) = tt
held code whole vars event looks (within t p rest) =
    held_spawner code whole vars t rest (reached code (thread_block code t) vars event looks p) (held code (thread_block code t) vars event looks p)

ended_high : (answer : PtState) → Ended ≡ answer → state_number answer < 2 → ⊥
ended_high Waiting e h = cc
ended_high Yielded e h = cc
ended_high Exited e h = absurd (omega arith)
ended_high Ended e h = absurd (omega arith)

module _ (code : Code) (part : Part) (event : Event) (looks : Looks) where
  finishes : (vars : List ℕ) (units : ℕ) → GivesUpAtAWait code (stepped code part event looks vars units ended)
  finishes vars zero = record { gives_up = λ answer h low. absurd (ended_high answer (let k : step.Done Ended ≡ step.Done answer = h in cc) low); stays_sound = λ h. absurd (cc) }
  finishes vars (suc units) = record { gives_up = λ answer h low. absurd (ended_high answer (let k : step.Done Ended ≡ step.Done answer = h in cc) low); stays_sound = λ h. absurd (cc) }

  answered : (a : PtState) (p : Place) (vars : List ℕ) (units : ℕ) → HeldBy code (whole_of code part) (answers a p)
      → GivesUpAtAWait code (follows code part event looks vars units (answers a p))
  answered Waiting p vars units h = record { gives_up = λ answer k low. (refl, h); stays_sound = λ k. absurd (cc) }
  answered Yielded p vars units h = record { gives_up = λ answer k low. (refl, h); stays_sound = λ k. absurd (cc) }
  answered Exited p vars units h = record { gives_up = λ answer k low. absurd (not_low answer (let l : step.Done Exited ≡ step.Done answer = k in cc) low); stays_sound = λ k. absurd (cc) }
    where
      not_low : (answer : PtState) → Exited ≡ answer → state_number answer < 2 → ⊥
      not_low Waiting e l = cc
      not_low Yielded e l = cc
      not_low Exited e l = absurd (omega arith)
      not_low Ended e l = absurd (omega arith)
  answered Ended p vars units h = record { gives_up = λ answer k low. absurd (ended_high answer (let l : step.Done Ended ≡ step.Done answer = k in cc) low); stays_sound = λ k. absurd (cc) }

  operated : (o : Op) (last_action : LastAction) (p : Place) (vars : List ℕ) (units : ℕ) → HeldBy code (whole_of code part) (operates o last_action p)
      → GivesUpAtAWait code (follows code part event looks vars units (operates o last_action p))
  operated o AtRest p vars units h = record { gives_up = λ answer k low. absurd (cc); stays_sound = λ k. absurd (cc) }
  operated o (UnderWay into) p vars units h = record { gives_up = λ answer k low. absurd (cc); stays_sound = λ k. absurd (cc) }
  operated o Pausing p vars units h = record { gives_up = λ answer k low. absurd (cc); stays_sound = λ k. h }
  operated o RunAway p vars units h = record { gives_up = λ answer k low. absurd (cc); stays_sound = λ k. absurd (cc) }

  ran_away : (p : Place) (vars : List ℕ) → GivesUpAtAWait code (record { step = step.Runaway; remainder = record { part = part; last_action = RunAway; place = p }; variables = vars; units = 0 })
  ran_away p vars = record { gives_up = λ answer k low. absurd (cc); stays_sound = λ k. absurd (cc) }

  held_step : (units : ℕ) (p : Place) (vars : List ℕ) → GivesUpAtAWait code (continued code part event looks p vars units)
  held_step zero p vars =
      elim (settled p) as (λ q. GivesUpAtAWait code (stepped code part event looks vars 0 q)) [
        | ended ↦ finishes vars 0
        | at y s rest ↦ ran_away (at y s rest) vars
        | within t q rest ↦ ran_away (within t q rest) vars
      ]
  held_step (suc units) p vars =
      let after : (r : Reached) → HeldBy code (whole_of code part) r → GivesUpAtAWait code (follows code part event looks vars units r) =
      λ r. elim r as (λ r. HeldBy code (whole_of code part) r → GivesUpAtAWait code (follows code part event looks vars units r)) [
        | goes_on changed q ↦ λ h. held_step units q changed
        | operates o last_action q ↦ λ h. operated o last_action q vars units h
        | answers a q ↦ λ h. answered a q vars units h
      ] in
      elim (settled p) as (λ q. GivesUpAtAWait code (stepped code part event looks vars (suc units) q)) [
        | ended ↦ finishes vars (suc units)
        | at y s rest ↦ after (reached code (whole_of code part) vars event looks (at y s rest)) (held code (whole_of code part) vars event looks (at y s rest))
        | within t q rest ↦ after (reached code (whole_of code part) vars event looks (within t q rest)) (held code (whole_of code part) vars event looks (within t q rest))
      ]

held_from : (m : LastAction) (code : Code) (event : Event) (looks : Looks) (r : Remainder) (vars : List ℕ) (units : ℕ) → IsSound code (record r { last_action = m })
    → GivesUpAtAWait code (advanced_of code event looks (record r { last_action = m }) vars units)
unfolding advanced_of
held_from AtRest code event looks r vars units sound =
    elim (nat_lt units (passed r.place)) as (λ b. GivesUpAtAWait code (called code event looks r vars units b)) [
      | true ↦ ran_away code r.part event looks r.place vars
      | false ↦ held_step code r.part event looks (units - passed r.place) r.place vars
    ]
held_from (UnderWay into) code event looks r vars units sound = held_step code r.part event looks units r.place vars
held_from Pausing code event looks r vars units sound =
    record { gives_up = λ answer h low. (refl, sound refl); stays_sound = λ h. absurd (cc) }
held_from RunAway code event looks r vars units sound =
    record { gives_up = λ answer h low. absurd (cc); stays_sound = λ h. absurd (cc) }

pub given_up_at_waits : ControlIsGivenUpAtWaits
given_up_at_waits code event looks r vars units sound = held_from r.last_action code event looks r vars units sound

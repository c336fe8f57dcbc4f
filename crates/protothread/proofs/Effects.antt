-- The effects of actions, for each kind of statement.
use Rattle.std.proofs.Common.{◌≡◌, ℕ, Bool, true, false, ◌&&◌, if◌then◌else◌, List, ◌++◌, ◌∷◌, None, refl, ap, sym}
use Rattle.std.proofs.Common.{◌∙◌, arith}
use Rattle.std.proofs.lemmas.Grind.{common_steps}
use Rattle.std.specs.Prelude.{not, ◌==◌, slice_index}
use Rattle.program_tree.specs.declared.event.Event.{Event}
use Rattle.program_tree.specs.Tree.{Expression, Action, assign, print, send, wait_until, wait_while, yield}
use Rattle.program_tree.specs.Tree.{yield_until, spawn, restart, exit, pause, acquire, signal, post, broadcast, synch}
use Rattle.program_tree.specs.Tree.{poll, start, kill, set, reset, restart_timer, stop, Statement, does, branch, while}
use Rattle.program_tree.specs.Tree.{Body, Otherwise, listed}
use Rattle.program_tree.specs.Code.{Code}
use Rattle.protothread.specs.declared.effect.StatementEffect.TheVariants.{Operates, Pauses, Waits, Yields}
use Rattle.protothread.specs.declared.step.Op.{Op}
use Rattle.protothread.specs.Looks.{Looks}
use Rattle.protothread.specs.Value.{value, holds}
use Rattle.protothread.specs.Remainder.{before}
use Rattle.protothread.specs.Step.{passes_where, effect_of, goes_on, statement_reached, other_block}
use Rattle.protothread.specs.Reach.{IsDoneBy}

waits_where : (s : Statement ℕ) (b : Bool) → IsDoneBy s (passes_where b Waits)
waits_where s true = tt
waits_where s false = tt

yields_where : (s : Statement ℕ) (b : Bool) → IsDoneBy s (passes_where b Yields)
yields_where s true = tt
yields_where s false = tt

pauses_where : (s : Statement ℕ) (b c : Bool) (o : Op) → IsDoneBy s (if b then passes_where c Yields else Pauses o)
pauses_where s true c o = yields_where s c
pauses_where s false c o = tt

takes_where : (s : Statement ℕ) (b : Bool) (o : Op) → IsDoneBy s (if b then Waits else Operates o None)
takes_where s true o = tt
takes_where s false o = tt

-- an effect that spawns a thread is that of a `spawn`
pub done_by_action : (process : ℕ) (y : Bool) (vars : List ℕ) (event : Event) (looks : Looks) (a : Action ℕ)
    → IsDoneBy (does a) (effect_of process y vars event looks a)
done_by_action process y vars event looks (assign i e) = tt
done_by_action process y vars event looks (print e) = tt
done_by_action process y vars event looks (send e) = tt
done_by_action process y vars event looks (wait_until c) = waits_where _ (holds (value vars event looks c))
done_by_action process y vars event looks (wait_while c) = waits_where _ (not (holds (value vars event looks c)))
done_by_action process y vars event looks yield = yields_where _ y
done_by_action process y vars event looks (yield_until c) = yields_where _ (y && holds (value vars event looks c))
done_by_action process y vars event looks (spawn t) = refl
done_by_action process y vars event looks restart = tt
done_by_action process y vars event looks exit = tt
done_by_action process y vars event looks pause = pauses_where _ y _ _
done_by_action process y vars event looks (acquire s) = takes_where _ (slice_index looks.counts s == 0) _
done_by_action process y vars event looks (signal s) = tt
done_by_action process y vars event looks (post p e w into) = tt
done_by_action process y vars event looks (broadcast e w into) = tt
done_by_action process y vars event looks (synch p e w) = tt
done_by_action process y vars event looks (poll p) = tt
done_by_action process y vars event looks (start p) = tt
done_by_action process y vars event looks (kill p) = tt
done_by_action process y vars event looks (set t e) = tt
done_by_action process y vars event looks (reset t) = tt
done_by_action process y vars event looks (restart_timer t) = tt
done_by_action process y vars event looks (stop t) = tt

-- any value except 0 is true
pub holds_true : (n : ℕ) → (n ≡ 0 → ⊥) → holds n ≡ true
holds_true n h = grind (arith, common_steps)

pub holds_false : (n : ℕ) → n ≡ 0 → holds n ≡ false
holds_false n h = ap holds h

-- the effects of the statements with blocks, depending on their conditions
module _ (code : Code) (home : List (Statement ℕ)) (y : Bool) (vars : List ℕ) (event : Event) (looks : Looks) (s : Statement ℕ) (rest : List (Statement ℕ)) where
  pub takes_then : (c : Expression ℕ) (a : Body ℕ) (o : Otherwise ℕ) → s ≡ branch c a o → holds (value vars event looks c) ≡ true
      → statement_reached code home y vars event looks s rest ≡ goes_on vars (before false (listed a ++ rest))
  takes_then c a o p q =
      ap (λ t. statement_reached code home y vars event looks t rest) p ∙ ap (λ b. goes_on vars (before false ((if b then listed a else other_block o) ++ rest))) q

  pub takes_else : (c : Expression ℕ) (a : Body ℕ) (o : Otherwise ℕ) → s ≡ branch c a o → holds (value vars event looks c) ≡ false
      → statement_reached code home y vars event looks s rest ≡ goes_on vars (before false (other_block o ++ rest))
  takes_else c a o p q =
      ap (λ t. statement_reached code home y vars event looks t rest) p ∙ ap (λ b. goes_on vars (before false ((if b then listed a else other_block o) ++ rest))) q

  pub takes_loop : (c : Expression ℕ) (a : Body ℕ) → s ≡ while c a → holds (value vars event looks c) ≡ true
      → statement_reached code home y vars event looks s rest ≡ goes_on vars (before false (listed a ++ s ∷ rest))
  takes_loop c a p q =
      ap (λ t. statement_reached code home y vars event looks t rest) p ∙ ap (λ b. goes_on vars (before false (if b then listed a ++ while c a ∷ rest else rest))) q
      ∙ ap (λ t. goes_on vars (before false (listed a ++ t ∷ rest))) (sym p)

  pub leaves_loop : (c : Expression ℕ) (a : Body ℕ) → s ≡ while c a → holds (value vars event looks c) ≡ false
      → statement_reached code home y vars event looks s rest ≡ goes_on vars (before false rest)
  leaves_loop c a p q =
      ap (λ t. statement_reached code home y vars event looks t rest) p ∙ ap (λ b. goes_on vars (before false (if b then listed a ++ while c a ∷ rest else rest))) q

-- The remainder of a protothread: the statements that it has yet to execute.
use Rattle.std.specs.Prelude.{ℕ, Bool, false, List, [], ◌∷◌, Option, None, Some, slice_get}
use Rattle.program_tree.specs.Tree.{Statement, Body, listed}
use Rattle.program_tree.specs.Code.{Code, callback_at}
use Rattle.protothread.specs.declared.part.Part.{Part}
use Rattle.protothread.specs.declared.part.Part.TheVariants as part
use Rattle.protothread.specs.declared.thread.LastAction.{LastAction}
use Rattle.protothread.specs.declared.thread.LastAction.TheVariants.{AtRest}

-- The position of a thread. The thread is at its end; or at a statement, which may have yielded, with the rest after
-- it (the statements of the innermost block first); or at the spawn of a thread, which has a position of its own, with
-- the rest after the spawn.
pub data Place : Type 0 where
  ended : Place
  at : (is_yielded : Bool) → Statement ℕ → (rest : List (Statement ℕ)) → Place
  within : (thread : ℕ) → Place → (rest : List (Statement ℕ)) → Place

-- the position before these statements
abbrev pub before : (is_yielded : Bool) → List (Statement ℕ) → Place
before yielded [] = ended
before yielded (s ∷ rest) = at yielded s rest

-- the position of a spawner; if the spawned thread is at its end, the spawner continues after the spawn
abbrev pub spawner_place : (thread : ℕ) → Place → (rest : List (Statement ℕ)) → Place
spawner_place thread ended rest = before false rest
spawner_place thread p rest = within thread p rest

-- the position after each spawned thread that is at its end has returned to its spawner
abbrev pub settled : Place → Place
settled (within t p rest) = spawner_place t (settled p) rest
settled p = p

-- the part that the thread runs; whether it is at rest, under way, after the post of a `pause`, or run away; and its
-- position
pub record Remainder : Type 0 where
  pub part : Part
  pub last_action : LastAction
  pub place : Place

-- a block that a code lacks is empty
abbrev pub statements_of : Option (Body ℕ) → List (Statement ℕ)
statements_of None = []
statements_of (Some b) = listed b

-- the statements of a thread of the process
abbrev pub thread_block : Code → (thread : ℕ) → List (Statement ℕ)
thread_block code thread = statements_of (slice_get code.thread_bodies thread)

-- the statements of a part of the code
abbrev pub whole_of : Code → Part → List (Statement ℕ)
whole_of code part.Body = listed code.body
whole_of code part.OnPoll = statements_of code.on_poll
whole_of code part.OnExit = statements_of code.on_exit
whole_of code (part.Callback timer) = statements_of (callback_at code timer)

-- a fresh thread: it is at rest, before the whole block
abbrev pub fresh_of : Code → Part → Remainder
fresh_of code part = record { part = part; last_action = AtRest; place = before false (whole_of code part) }

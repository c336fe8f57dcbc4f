-- The meaning of the places of a thread.
use Rattle.std.specs.Prelude.{ℕ, zero, suc, if◌then◌else◌, List, [], ◌∷◌, Option, None, Some, slice_get}
use Rattle.program_tree.specs.Tree.{Statement, Body, end}
use Rattle.program_tree.specs.Code.{Code, callback_at}
use Rattle.program_tree.specs.Flat.{rest_at}
use Rattle.protothread.specs.declared.calls.Call.{Call}
use Rattle.protothread.specs.declared.part.Part.{Part}
use Rattle.protothread.specs.declared.part.Part.TheVariants as part
use Rattle.protothread.specs.declared.answer.PtState.{PtState}
use Rattle.protothread.specs.declared.answer.PtState.TheVariants.{Waiting, Yielded}
use Rattle.protothread.specs.declared.thread.Thread.{Thread}
use Rattle.protothread.specs.Value.{holds}
use Rattle.protothread.specs.Remainder.{Place, within, before, Remainder}

-- a block that a code lacks is empty
abbrev pub body_or_end : Option (Body ℕ) → Body ℕ
body_or_end None = end
body_or_end (Some b) = b

-- the block of a part, and the block of a thread of the process
abbrev pub part_body : Code → Part → Body ℕ
part_body code part.Body = code.body
part_body code part.OnPoll = body_or_end code.on_poll
part_body code part.OnExit = body_or_end code.on_exit
part_body code (part.Callback timer) = body_or_end (callback_at code timer)

abbrev pub thread_body : Code → (thread : ℕ) → Body ℕ
thread_body code thread = body_or_end (slice_get code.thread_bodies thread)

-- the block of the innermost thread, given the block of the outermost
abbrev pub innermost : Code → Body ℕ → List Call → Body ℕ
innermost code b [] = b
innermost code b (c ∷ cs) = innermost code (thread_body code c.thread) cs

-- a spawned thread, and the rest after its spawn
pub record Caller : Type 0 where
  pub thread : ℕ
  pub rest : List (Statement ℕ)

-- the spawned threads, from the outermost to the innermost
abbrev pub callers_in : Code → Body ℕ → List Call → List Caller
callers_in code b [] = []
callers_in code b (c ∷ cs) = record {
  thread = c.thread;
  rest = rest_at b c.next;
} ∷ callers_in code (thread_body code c.thread) cs

-- the position of a thread, given the position of its innermost spawned thread
abbrev pub nested : List Caller → Place → Place
nested [] p = p
nested (c ∷ cs) p = within c.thread (nested cs p) c.rest

-- the answer of a thread that yields while this many spawned threads are nested in it
abbrev pub yielding : (spawns : ℕ) → PtState
yielding zero = Yielded
yielding (suc n) = Waiting

-- the block of the innermost thread, and the spawned threads
abbrev pub body_of_thread : Code → Thread → Body ℕ
body_of_thread code t = innermost code (part_body code t.part) t.calls

abbrev pub callers_of : Code → Thread → List Caller
callers_of code t = callers_in code (part_body code t.part) t.calls

-- the position of a thread: in the block of the innermost thread, before the rest at its place
abbrev pub thread_place : Code → Thread → Place
thread_place code t = nested (callers_of code t) (before t.is_yielded (rest_at (body_of_thread code t) t.position))

-- the remainder of a thread, given the code of its process
abbrev pub remainder_of : Code → Thread → Remainder
remainder_of code t = record { part = t.part; last_action = t.last_action; place = thread_place code t }

-- the place at which a thread continues after a test with this value
abbrev pub place_by : (value held failed : ℕ) → ℕ
place_by value held failed = if holds value then held else failed

-- The result of reading a part of a process's code block.
use Rattle.std.specs.Prelude.{◌≡◌, ℕ, List, [], ◌∷◌, ◌++◌, map, Option, Some, None, option_map}
use Rattle.program_tree.specs.Code.{Code}
use Rattle.program_tree.specs.Faults.{Scope}
use Rattle.program_tree.specs.Grammar.{Context, at_body, Mark, tokens, key, variable_marks, etimer_marks, ctimer_marks}
use Rattle.program_tree.specs.Grammar.{thread_marks, handler_marks, block_marks, code_marks}
use Rattle.program_reader.specs.Head.{with_all}
use Rattle.program_tree.specs.InScope.{NamesInScope, with_new, outside, name_in, number_in}
use Rattle.program_reader.specs.Machine as machine
use Rattle.program_reader.specs.Machine.{Symbol, Pending, tell, codes_form}
use Rattle.program_tree.specs.Numbers.{named_of, values_of, inside, code_in}
use Rattle.program_tree.specs.ShapeOf.{code_shape}
use Rattle.program_tree.specs.Shapes.{Name, Valued, Named, CodeShape}
use Rattle.program_reader.specs.Steps.{Extends, Numbered}
use Rattle.program_tree.specs.Tokens as token
use Rattle.program_tree.specs.Tokens.{Token}
use Rattle.program_tree.specs.Tree.{Class, Body, body_map}
use Rattle.program_tree.specs.declared.keyword.Keyword.{Keyword}
use Rattle.program_tree.specs.declared.keyword.Keyword.TheVariants as word

-- A block with each number replaced by its name. The block's numbers are correct if numbering these names results in
-- the same block.
abbrev pub written : NamesInScope → Body ℕ → Body Name
written n b = body_map (name_in n) b

abbrev pub IsNumbered : NamesInScope → Body ℕ → Type 0
IsNumbered n b = Numbered n (λ m. body_map (number_in m) (written m b)) b

abbrev pub AllNumbered : NamesInScope → List (Body ℕ) → Type 0
AllNumbered n [] = Unit {0}
AllNumbered n (b ∷ bs) = IsNumbered n b × AllNumbered n bs

abbrev pub MaybeNumbered : NamesInScope → Option (Body ℕ) → Type 0
MaybeNumbered n None = Unit {0}
MaybeNumbered n (Some b) = IsNumbered n b

abbrev pub all_written : NamesInScope → List (Name × (Body ℕ)) → List Named
all_written n items = map (λ p. (p.0, written n p.1)) items

-- a new callback timer or thread is read, with its block
pub record IsNamedBlock (c : Class) (y : Pending → Pending) (place : Name → Context) (tree : Body ℕ) (s s' : Scope)
    (old new : List Token) : Type 0 where
  pub name : Name
  pub added : s'.names ≡ with_new s.names c name
  pub starting : s'.starting ≡ s.starting
  pub numbered : IsNumbered s'.names tree
  pub spelled : (n : NamesInScope) → Extends s'.names n → (ms : List Mark) → tokens ms ≡ new
      → old ≡ token.Name name ∷ tokens (block_marks (place name) (written n tree) ms)
  pub goes_on : (f : Pending) → tell s (y f) old ≡ tell s' f new

-- the first callback timers or threads are read, and there may be more
pub record HasBlocks (c : Class) (y : Symbol) (marks : List Named → List Mark → List Mark) (trees : List (Body ℕ))
    (s s' : Scope) (old rest : List Token) : Type 0 where
  pub items : List (Name × (Body ℕ))
  pub blocks : trees ≡ values_of items
  pub added : s'.names ≡ with_all s.names c (named_of items)
  pub starting : s'.starting ≡ s.starting
  pub numbered : AllNumbered s'.names trees
  pub spelled : (n : NamesInScope) → Extends s'.names n → (more : List Named) (ms : List Mark)
      → tokens (marks more ms) ≡ rest
      → old ≡ tokens (marks (all_written n items ++ more) ms)
  pub goes_on : (f : Pending) → tell s (y ∷ f) old ≡ tell s' (y ∷ f) rest

-- all callback timers or threads are read
pub record ReadsBlocks (c : Class) (y z : Symbol) (marks : List Named → List Mark → List Mark) (trees : List (Body ℕ))
    (s s' : Scope) (old new : List Token) : Type 0 where
  pub items : List (Name × (Body ℕ))
  pub blocks : trees ≡ values_of items
  pub added : s'.names ≡ with_all s.names c (named_of items)
  pub starting : s'.starting ≡ s.starting
  pub numbered : AllNumbered s'.names trees
  pub spelled : (n : NamesInScope) → Extends s'.names n → (ms : List Mark) → tokens ms ≡ new
      → old ≡ tokens (marks (all_written n items) ms)
  pub goes_on : (f : Pending) → tell s (y ∷ f) old ≡ tell s' (z ∷ f) new

-- `onpoll` or `onexit` is read, if it is present
pub record ReadsHandler (k : Keyword) (y z : Symbol) (tree : Option (Body ℕ)) (s s' : Scope)
    (old new : List Token) : Type 0 where
  pub names : s'.names ≡ s.names
  pub starting : s'.starting ≡ s.starting
  pub numbered : MaybeNumbered s.names tree
  pub spelled : (n : NamesInScope) → Extends s.names n → (ms : List Mark) → tokens ms ≡ new
      → old ≡ tokens (handler_marks k (option_map (written n) tree) ms)
  pub goes_on : (f : Pending) → tell s (y ∷ f) old ≡ tell s' (z ∷ f) new

-- the body is read, but not the last brace after it
pub record ReadsBody (tree : Body ℕ) (s s' : Scope) (old new : List Token) : Type 0 where
  pub names : s'.names ≡ s.names
  pub starting : s'.starting ≡ s.starting
  pub numbered : IsNumbered s.names tree
  pub spelled : (n : NamesInScope) → Extends s.names n → (ms : List Mark) → tokens ms ≡ new
      → old ≡ token.Keyword word.Body ∷ tokens (block_marks at_body (written n tree) ms)
  pub goes_on : (f : Pending) → tell s (machine.from_body ∷ f) old ≡ tell s' (machine.last_brace ∷ f) new

-- the keyword, the name and the opening brace of a code are read
pub record ReadsOpening (x : Name) (s : Scope) (old new : List Token) : Type 0 where
  pub spelled : old ≡ token.Keyword word.Code ∷ token.Name x ∷ token.OpenBrace ∷ new
  pub goes_on : (xs : List Name) (f : Pending) → tell s (machine.codes x xs ∷ f) old
      ≡ tell s (machine.from_variables ∷ codes_form xs f) new

-- the code of a process is read
pub record ReadsCode (x : Name) (process : ℕ) (code : Code) (s s' : Scope) (old new : List Token) : Type 0 where
  pub shape : CodeShape
  pub tree : code ≡ code_in process (inside s.names shape) shape
  pub put_back : shape ≡ code_shape s.names code
  pub left : s'.names ≡ outside (inside s.names shape)
  pub starting : s'.starting ≡ s.starting
  pub spelled : (ms : List Mark) → tokens ms ≡ new → old ≡ tokens (code_marks (x, shape) ms)
  pub goes_on : (xs : List Name) (f : Pending) → tell s (machine.codes x xs ∷ f) old ≡ tell s' (codes_form xs f) new

-- the names in scope, with the code's own names replaced by these
abbrev pub with_own : NamesInScope → (variables timers threads : List Name) → NamesInScope
with_own n vs ts hs = record n { variables = vs; timers = ts; threads = hs }

-- The text between the braces of a code is read, up to its last brace: the names of the event timers and callback
-- timers, the first values, and the blocks.
pub record ReadsContent (own_etimers own_ctimers : List Name) (starts : List ℕ)
    (callbacks thread_bodies : List (Body ℕ)) (on_poll on_exit : Option (Body ℕ)) (body : Body ℕ)
    (s s' : Scope) (old new : List Token) : Type 0 where
  pub variables : List Valued
  pub etimers : List Name
  pub ctimers : List (Name × (Body ℕ))
  pub threads : List (Name × (Body ℕ))
  pub started : starts ≡ values_of variables
  pub first_timers : own_etimers ≡ etimers
  pub last_timers : own_ctimers ≡ named_of ctimers
  pub called : callbacks ≡ values_of ctimers
  pub threaded : thread_bodies ≡ values_of threads
  pub names : s'.names ≡ with_own s.names (named_of variables) (etimers ++ named_of ctimers) (named_of threads)
  pub starting : s'.starting ≡ s.starting
  pub callbacks_numbered : AllNumbered s'.names callbacks
  pub threads_numbered : AllNumbered s'.names thread_bodies
  pub on_poll_numbered : MaybeNumbered s'.names on_poll
  pub on_exit_numbered : MaybeNumbered s'.names on_exit
  pub body_numbered : IsNumbered s'.names body
  pub spelled : (n : NamesInScope) → Extends s'.names n → (ms : List Mark) → tokens ms ≡ new →
      old ≡ tokens (variable_marks variables (etimer_marks etimers
      (ctimer_marks (all_written n ctimers) (thread_marks (all_written n threads)
      (handler_marks word.OnPoll (option_map (written n) on_poll)
      (handler_marks word.OnExit (option_map (written n) on_exit)
      (key word.Body ∷ block_marks at_body (written n body) ms)))))))
  pub goes_on : (f : Pending) → tell s (machine.from_variables ∷ f) old ≡ tell s' (machine.last_brace ∷ f) new

-- The trees of a program, with names as they are written or with their numbers. The types of `src/tree.rt` represent
-- trees with numbers.
use Rattle.std.specs.Prelude.{ℕ, suc, ◌+◌, ◌≤◌, max, List, [], ◌∷◌, Option, option_map}
use Rattle.program_tree.specs.EventNames.{BroadcastEvent, PostedEvent, TestedEvent, cast_map, sent_map, any_map}
use Rattle.program_tree.specs.declared.tree.Operator.{Operator}

-- the class of a name
pub data Class : Type 0 where
  an_event : Class
  a_semaphore : Class
  a_process : Class
  a_variable : Class
  a_timer : Class
  a_thread : Class

-- an expression
pub data Expression (Name : Type 0) : Type 0 where
  number : (value : ℕ) → Expression Name
  variable : Name → Expression Name
  -- `data`, `from`, `now` and `self`
  word : Expression Name
  sender : Expression Name
  moment : Expression Name
  mote : Expression Name
  -- `is(E)`, `fired(T)`, `expired(T)`, `gone(P)`, `running(P)` and `count(S)`
  is : TestedEvent Name → Expression Name
  fired : Name → Expression Name
  expired : Name → Expression Name
  gone : Name → Expression Name
  running : Name → Expression Name
  count : Name → Expression Name
  negation : Expression Name → Expression Name
  binary : Operator → Expression Name → Expression Name → Expression Name
  deriving IsSet as Expression-set

-- a statement that has no block
pub data Action (Name : Type 0) : Type 0 where
  assign : Name → Expression Name → Action Name
  print : Expression Name → Action Name
  send : Expression Name → Action Name
  wait_until : Expression Name → Action Name
  wait_while : Expression Name → Action Name
  yield : Action Name
  yield_until : Expression Name → Action Name
  spawn : Name → Action Name
  restart : Action Name
  exit : Action Name
  pause : Action Name
  acquire : Name → Action Name
  signal : Name → Action Name
  -- the last operand of `post` and `broadcast` is the variable that gets the answer
  post : Name → PostedEvent Name → Expression Name → Option Name → Action Name
  broadcast : BroadcastEvent Name → Expression Name → Option Name → Action Name
  synch : Name → PostedEvent Name → Expression Name → Action Name
  poll : Name → Action Name
  start : Name → Action Name
  kill : Name → Action Name
  set : Name → Expression Name → Action Name
  reset : Name → Action Name
  restart_timer : Name → Action Name
  stop : Name → Action Name

mutual
  pub data Statement (Name : Type 0) : Type 0 where
    does : Action Name → Statement Name
    branch : Expression Name → Body Name → Otherwise Name → Statement Name
    while : Expression Name → Body Name → Statement Name
    deriving IsSet as Statement-set

  -- the statements of a block
  pub data Body (Name : Type 0) : Type 0 where
    end : Body Name
    next : Statement Name → Body Name → Body Name
    deriving IsSet as Body-set

  -- the part after the block of an `if`
  pub data Otherwise (Name : Type 0) : Type 0 where
    nothing : Otherwise Name
    otherwise : Body Name → Otherwise Name
    deriving IsSet as Otherwise-set

-- the statements of a block as a list
abbrev pub listed : {N : Type 0} → Body N → List (Statement N)
listed end = []
listed (next s b) = s ∷ listed b

-- the statements of the `else` block of an `if`
abbrev pub other_block : Otherwise ℕ → List (Statement ℕ)
other_block nothing = []
other_block (otherwise b) = listed b

-- the depth to which blocks are nested, with this block included
abbrev mutual
  pub height : {N : Type 0} → Body N → ℕ
  height end = 1
  height (next s b) = max (suc (inner_height s)) (height b)

  pub inner_height : {N : Type 0} → Statement N → ℕ
  inner_height (does a) = 0
  inner_height (branch e a o) = max (height a) (other_height o)
  inner_height (while e a) = height a

  pub other_height : {N : Type 0} → Otherwise N → ℕ
  other_height nothing = 0
  other_height (otherwise b) = height b

-- the number of statements in a block, including those of inner blocks
abbrev mutual
  pub size : {N : Type 0} → Body N → ℕ
  size end = 0
  size (next s b) = suc (inner_size s) + size b

  pub inner_size : {N : Type 0} → Statement N → ℕ
  inner_size (does a) = 0
  inner_size (branch e a o) = size a + other_size o
  inner_size (while e a) = size a

  pub other_size : {N : Type 0} → Otherwise N → ℕ
  other_size nothing = 0
  other_size (otherwise b) = size b

-- the number of statements in a statement: itself and the statements of its blocks
abbrev pub statement_size : {N : Type 0} → Statement N → ℕ
statement_size s = suc (inner_size s)

-- a block within the limits: blocks are nested at most 32 deep, and have at most 4,096 statements in all
pub record IsWithinLimits {N : Type 0} (b : Body N) : Type 0 where
  pub shallow : height b ≤ 32
  pub small : size b ≤ 4096

-- the same tree, with each name changed according to its class
abbrev pub expression_map : {A B : Type 0} → (Class → A → B) → Expression A → Expression B
expression_map f (number n) = number n
expression_map f (variable x) = variable (f a_variable x)
expression_map f word = word
expression_map f sender = sender
expression_map f moment = moment
expression_map f mote = mote
expression_map f (is e) = is (any_map (f an_event) e)
expression_map f (fired t) = fired (f a_timer t)
expression_map f (expired t) = expired (f a_timer t)
expression_map f (gone p) = gone (f a_process p)
expression_map f (running p) = running (f a_process p)
expression_map f (count s) = count (f a_semaphore s)
expression_map f (negation e) = negation (expression_map f e)
expression_map f (binary o a b) = binary o (expression_map f a) (expression_map f b)

abbrev pub action_map : {A B : Type 0} → (Class → A → B) → Action A → Action B
action_map f (assign x e) = assign (f a_variable x) (expression_map f e)
action_map f (print e) = print (expression_map f e)
action_map f (send e) = send (expression_map f e)
action_map f (wait_until e) = wait_until (expression_map f e)
action_map f (wait_while e) = wait_while (expression_map f e)
action_map f yield = yield
action_map f (yield_until e) = yield_until (expression_map f e)
action_map f (spawn t) = spawn (f a_thread t)
action_map f restart = restart
action_map f exit = exit
action_map f pause = pause
action_map f (acquire s) = acquire (f a_semaphore s)
action_map f (signal s) = signal (f a_semaphore s)
action_map f (post p e w i) =
    post (f a_process p) (sent_map (f an_event) e) (expression_map f w) (option_map (f a_variable) i)
action_map f (broadcast e w i) = broadcast (cast_map (f an_event) e) (expression_map f w) (option_map (f a_variable) i)
action_map f (synch p e w) = synch (f a_process p) (sent_map (f an_event) e) (expression_map f w)
action_map f (poll p) = poll (f a_process p)
action_map f (start p) = start (f a_process p)
action_map f (kill p) = kill (f a_process p)
action_map f (set t e) = set (f a_timer t) (expression_map f e)
action_map f (reset t) = reset (f a_timer t)
action_map f (restart_timer t) = restart_timer (f a_timer t)
action_map f (stop t) = stop (f a_timer t)

abbrev mutual
  pub statement_map : {A B : Type 0} → (Class → A → B) → Statement A → Statement B
  statement_map f (does a) = does (action_map f a)
  statement_map f (branch e a o) = branch (expression_map f e) (body_map f a) (otherwise_map f o)
  statement_map f (while e a) = while (expression_map f e) (body_map f a)

  pub body_map : {A B : Type 0} → (Class → A → B) → Body A → Body B
  body_map f end = end
  body_map f (next s b) = next (statement_map f s) (body_map f b)

  pub otherwise_map : {A B : Type 0} → (Class → A → B) → Otherwise A → Otherwise B
  otherwise_map f nothing = nothing
  otherwise_map f (otherwise b) = otherwise (body_map f b)

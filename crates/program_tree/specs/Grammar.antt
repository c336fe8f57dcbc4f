-- The grammar: each shape is spelled as tokens, and each token has a role.
use Rattle.std.specs.Prelude.{ℕ, ◌+◌, List, [], ◌∷◌, map, Bool, true, false, Option, Some, None, if◌then◌else◌, ◌&&◌}
use Rattle.program_tree.specs.Forms as form
use Rattle.program_tree.specs.Forms.{Operand, Form, ends, tells, takes, values, Beginning, action, beginning, waits}
use Rattle.program_tree.specs.Forms.{Word, no_value, alone, tells_of, word_of}
use Rattle.program_tree.specs.EventNames as event
use Rattle.program_tree.specs.EventNames.{BroadcastEvent, PostedEvent, TestedEvent}
use Rattle.program_tree.specs.Shapes.{Name, OperandShape, WordShape, FormShape, ActionShape, Valued, Named, CodeShape}
use Rattle.program_tree.specs.Shapes.{ProgramShape}
use Rattle.program_tree.specs.Tokens as token
use Rattle.program_tree.specs.Tokens.{Token}
use Rattle.program_tree.specs.Tree as tree
use Rattle.program_tree.specs.Tree.{Class, an_event, a_semaphore, a_process, a_variable, a_timer, a_thread, Expression}
use Rattle.program_tree.specs.Tree.{number, variable, sender, moment, mote, is, fired, expired, gone, running, count}
use Rattle.program_tree.specs.Tree.{negation, binary, Action, assign, print, send, wait_until, wait_while, yield}
use Rattle.program_tree.specs.Tree.{yield_until, spawn, restart, exit, pause, acquire, signal, post, broadcast, synch}
use Rattle.program_tree.specs.Tree.{poll, start, kill, set, reset, restart_timer, stop, Statement, does, branch, while}
use Rattle.program_tree.specs.Tree.{Body, end, next, Otherwise, nothing, otherwise}
use Rattle.program_tree.specs.declared.keyword.Keyword.{Keyword}
use Rattle.program_tree.specs.declared.keyword.Keyword.TheVariants as word

-- the context of a block or an expression: the number of levels around it, whether it is in a simple block, and the
-- thread whose block it is in
pub record Context : Type 0 where
  pub level : ℕ
  pub simple : Bool
  pub thread : Option Name

-- the context one level deeper
abbrev pub inner : Context → Context
inner c = record c { level = c.level + 1 }

-- the context of a body; the context of a callback, `onpoll` or `onexit`; and the context of a thread
abbrev pub at_body : Context
at_body = record { level = 0; simple = false; thread = None }

abbrev pub at_simple : Context
at_simple = record { level = 0; simple = true; thread = None }

abbrev pub at_thread : Name → Context
at_thread x = record { level = 0; simple = false; thread = Some x }

-- the role of a token
pub data Role : Type 0 where
  plain : Role
  -- a new name of this class
  new : Class → Name → Role
  -- the name of something of this class
  uses : Class → Name → Role
  -- the thread that a `spawn` names; `own` is the thread in whose block the `spawn` is, if there is one
  spawns : (own : Option Name) → Name → Role
  -- the name of a process in `autostart`
  starts : Name → Role
  value : (number : ℕ) → Role
  -- the sign that opens a level
  opens : (level : ℕ) → Role
  -- the last brace of a code
  leaves : Role

-- the part of a program that begins with this token
pub data Begun : Type 0 where
  none_begins : Begun
  statement : Begun
  -- a statement that isn't allowed in simple blocks, in a simple block
  wait : Begun

-- a token of a text, with its role there and with the part of the program that begins at it
pub record Mark : Type 0 where
  pub token : Token
  pub role : Role
  pub begins : Begun

-- the tokens of the marks
abbrev pub tokens : List Mark → List Token
tokens ms = map (λ m. m.token) ms

-- marks at which no statement begins: of a sign, a keyword, a name, a sign that opens a level, and a number
abbrev pub sign : Token → Mark
sign t = record { token = t; role = plain; begins = none_begins }

abbrev pub key : Keyword → Mark
key k = sign (token.Keyword k)

abbrev pub named : Name → Role → Mark
named x r = record { token = token.Name x; role = r; begins = none_begins }

abbrev pub opening : Token → (level : ℕ) → Mark
opening t level = record { token = t; role = opens level; begins = none_begins }

abbrev pub value_mark : ℕ → Mark
value_mark n = record { token = token.Number n; role = value n; begins = none_begins }

-- the first tokens of statements
abbrev pub target : Name → Mark
target x = record { token = token.Name x; role = uses a_variable x; begins = statement }

abbrev pub begins_with : Context → Keyword → Mark
begins_with c k = record {
  token = token.Keyword k;
  role = plain;
  begins = if c.simple && waits k then wait else statement;
}

-- The marks of each part in its context, and then the marks `after` the part.

-- the role of a name that refers to something of this class
abbrev pub used : Context → Class → Name → Role
used c a_thread x = spawns c.thread x
used c k x = uses k x

abbrev pub cast_mark : BroadcastEvent Name → Mark
cast_mark event.continue = key word.Continue
cast_mark event.msg = key word.Msg
cast_mark event.«com» = key word.Com
cast_mark event.packet = key word.Packet
cast_mark (event.declared x) = named x (uses an_event x)

abbrev pub sent_mark : PostedEvent Name → Mark
sent_mark (event.cast e) = cast_mark e
sent_mark event.exit = key word.Exit

abbrev pub any_mark : TestedEvent Name → Mark
any_mark (event.sent e) = sent_mark e
any_mark event.init = key word.Init
any_mark event.poll = key word.Poll
any_mark event.exited = key word.Exited
any_mark event.timer = key word.Timer

abbrev pub operand_mark : Context → (o : Operand) → OperandShape o → Mark
operand_mark c (form.name k) x = named x (used c k x)
operand_mark c form.cast e = cast_mark e
operand_mark c form.sent e = sent_mark e
operand_mark c form.any e = any_mark e

-- the operands after a keyword of an expression; their parentheses don't count as a level
abbrev pub word_marks : Context → (w : Word) → WordShape w → (after : List Mark) → List Mark
word_marks c no_value v after = absurd v
word_marks c alone v after = after
word_marks c (tells_of o) v after = sign token.Open ∷ operand_mark c o v ∷ sign token.Close ∷ after

abbrev pub value_marks : Context → (k : Keyword) → WordShape (word_of k) → (after : List Mark) → List Mark
value_marks c k v after = key k ∷ word_marks c (word_of k) v after

abbrev pub expression_marks : Context → Expression Name → (after : List Mark) → List Mark
expression_marks c (number n) after = value_mark n ∷ after
expression_marks c (variable x) after = named x (uses a_variable x) ∷ after
expression_marks c tree.word after = value_marks c word.Data tt after
expression_marks c sender after = value_marks c word.From tt after
expression_marks c moment after = value_marks c word.Now tt after
expression_marks c mote after = value_marks c word.Own tt after
expression_marks c (is e) after = value_marks c word.Is e after
expression_marks c (fired t) after = value_marks c word.Fired t after
expression_marks c (expired t) after = value_marks c word.Expired t after
expression_marks c (gone p) after = value_marks c word.Gone p after
expression_marks c (running p) after = value_marks c word.Running p after
expression_marks c (count s) after = value_marks c word.Count s after
expression_marks c (negation e) after = opening token.Bang (c.level + 1) ∷ expression_marks (inner c) e after
expression_marks c (binary o a b) after =
    opening token.Open (c.level + 1)
    ∷ expression_marks (inner c) a (sign (token.Op o) ∷ expression_marks (inner c) b (sign token.Close ∷ after))

abbrev pub into_marks : Option Name → (after : List Mark) → List Mark
into_marks None after = sign token.Semicolon ∷ after
into_marks (Some x) after = key word.Into ∷ named x (uses a_variable x) ∷ sign token.Semicolon ∷ after

-- the operands after the keyword of a statement
abbrev pub form_marks : Context → (f : Form) → FormShape f → (after : List Mark) → List Mark
form_marks c ends v after = sign token.Semicolon ∷ after
form_marks c tells v after = into_marks v after
form_marks c (takes o f) v after = operand_mark c o v.0 ∷ form_marks c f v.1 after
form_marks c (values f) v after = expression_marks c v.0 (form_marks c f v.1 after)

abbrev pub beginning_marks : Context → (b : Beginning) → ActionShape b → (after : List Mark) → List Mark
beginning_marks c (action f) v after = form_marks c f v after
beginning_marks c b v after = absurd v

abbrev pub keyword_marks : Context → (k : Keyword) → ActionShape (beginning k) → (after : List Mark) → List Mark
keyword_marks c k v after = begins_with c k ∷ beginning_marks c (beginning k) v after

abbrev pub action_marks : Context → Action Name → (after : List Mark) → List Mark
action_marks c (assign x e) after = target x ∷ sign token.Equals ∷ expression_marks c e (sign token.Semicolon ∷ after)
action_marks c (print e) after = keyword_marks c word.Print (e, tt) after
action_marks c (send e) after = keyword_marks c word.Send (e, tt) after
action_marks c (wait_until e) after = keyword_marks c word.WaitUntil (e, tt) after
action_marks c (wait_while e) after = keyword_marks c word.WaitWhile (e, tt) after
action_marks c yield after = keyword_marks c word.Yield tt after
action_marks c (yield_until e) after = keyword_marks c word.YieldUntil (e, tt) after
action_marks c (spawn t) after = keyword_marks c word.Spawn (t, tt) after
action_marks c restart after = keyword_marks c word.Restart tt after
action_marks c exit after = keyword_marks c word.Exit tt after
action_marks c pause after = keyword_marks c word.Pause tt after
action_marks c (acquire s) after = keyword_marks c word.Acquire (s, tt) after
action_marks c (signal s) after = keyword_marks c word.Signal (s, tt) after
action_marks c (post p e w i) after = keyword_marks c word.Post (p, (e, (w, i))) after
action_marks c (broadcast e w i) after = keyword_marks c word.Broadcast (e, (w, i)) after
action_marks c (synch p e w) after = keyword_marks c word.Synch (p, (e, (w, tt))) after
action_marks c (poll p) after = keyword_marks c word.Poll (p, tt) after
action_marks c (start p) after = keyword_marks c word.Start (p, tt) after
action_marks c (kill p) after = keyword_marks c word.Kill (p, tt) after
action_marks c (set t e) after = keyword_marks c word.Set (t, (e, tt)) after
action_marks c (reset t) after = keyword_marks c word.Reset (t, tt) after
action_marks c (restart_timer t) after = keyword_marks c word.RestartTimer (t, tt) after
action_marks c (stop t) after = keyword_marks c word.Stop (t, tt) after

abbrev mutual
  pub statement_marks : Context → Statement Name → (after : List Mark) → List Mark
  statement_marks c (does a) after = action_marks c a after
  statement_marks c (branch e a o) after =
      begins_with c word.If ∷ expression_marks c e
      (opening token.OpenBrace (c.level + 1) ∷ items_marks (inner c) a (else_marks c o after))
  statement_marks c (while e a) after =
      begins_with c word.While ∷ expression_marks c e
      (opening token.OpenBrace (c.level + 1) ∷ items_marks (inner c) a after)

  -- the statements of a block, and the block's closing brace
  pub items_marks : Context → Body Name → (after : List Mark) → List Mark
  items_marks c end after = sign token.CloseBrace ∷ after
  items_marks c (next s b) after = statement_marks c s (items_marks c b after)

  pub else_marks : Context → Otherwise Name → (after : List Mark) → List Mark
  else_marks c nothing after = after
  else_marks c (otherwise b) after =
      key word.Else ∷ opening token.OpenBrace (c.level + 1) ∷ items_marks (inner c) b after

abbrev pub block_marks : Context → Body Name → (after : List Mark) → List Mark
block_marks c b after = opening token.OpenBrace (c.level + 1) ∷ items_marks (inner c) b after

-- The marks of the parts of a code.

abbrev pub variable_marks : List Valued → (after : List Mark) → List Mark
variable_marks [] after = after
variable_marks (v ∷ vs) after =
    key word.Var ∷ (named v.0 (new a_variable v.0)
    ∷ (sign token.Equals ∷ (value_mark v.1 ∷ (sign token.Semicolon ∷ variable_marks vs after))))

abbrev pub etimer_marks : List Name → (after : List Mark) → List Mark
etimer_marks [] after = after
etimer_marks (x ∷ xs) after =
    key word.Etimer ∷ (named x (new a_timer x) ∷ (sign token.Semicolon ∷ etimer_marks xs after))

abbrev pub ctimer_marks : List Named → (after : List Mark) → List Mark
ctimer_marks [] after = after
ctimer_marks (t ∷ ts) after =
    key word.Ctimer ∷ (named t.0 (new a_timer t.0) ∷ block_marks at_simple t.1 (ctimer_marks ts after))

abbrev pub thread_marks : List Named → (after : List Mark) → List Mark
thread_marks [] after = after
thread_marks (t ∷ ts) after =
    key word.Thread ∷ (named t.0 (new a_thread t.0) ∷ block_marks (at_thread t.0) t.1 (thread_marks ts after))

-- `onpoll` or `onexit`
abbrev pub handler_marks : Keyword → Option (Body Name) → (after : List Mark) → List Mark
handler_marks k None after = after
handler_marks k (Some b) after = key k ∷ block_marks at_simple b after

-- the last brace of a code
abbrev pub leaving : Mark
leaving = record { token = token.CloseBrace; role = leaves; begins = none_begins }

abbrev pub body_marks : Body Name → (after : List Mark) → List Mark
body_marks b after = key word.Body ∷ block_marks at_body b (leaving ∷ after)

abbrev pub content_marks : CodeShape → (after : List Mark) → List Mark
content_marks c after =
    variable_marks c.variables (etimer_marks c.etimers (ctimer_marks c.ctimers (thread_marks c.threads
    (handler_marks word.OnPoll c.on_poll (handler_marks word.OnExit c.on_exit (body_marks c.body after))))))

-- the braces around a code don't count as a level
abbrev pub code_marks : Name × CodeShape → (after : List Mark) → List Mark
code_marks p after = key word.Code ∷ (sign (token.Name p.0) ∷ (sign token.OpenBrace ∷ content_marks p.1 after))

abbrev pub codes_marks : List (Name × CodeShape) → (after : List Mark) → List Mark
codes_marks [] after = after
codes_marks (p ∷ ps) after = code_marks p (codes_marks ps after)

-- The marks of the text before the codes.

abbrev pub event_marks : List Name → (after : List Mark) → List Mark
event_marks [] after = after
event_marks (x ∷ xs) after = key word.Event ∷ (named x (new an_event x) ∷ (sign token.Semicolon ∷ event_marks xs after))

abbrev pub semaphore_marks : List Valued → (after : List Mark) → List Mark
semaphore_marks [] after = after
semaphore_marks (v ∷ vs) after =
    key word.Semaphore ∷ (named v.0 (new a_semaphore v.0)
    ∷ (sign token.Equals ∷ (value_mark v.1 ∷ (sign token.Semicolon ∷ semaphore_marks vs after))))

-- the names of the process line after the first, each after a comma, and the semicolon of the line
abbrev pub process_marks : List (Name × CodeShape) → (after : List Mark) → List Mark
process_marks [] after = sign token.Semicolon ∷ after
process_marks (p ∷ ps) after = sign token.Comma ∷ (named p.0 (new a_process p.0) ∷ process_marks ps after)

-- the names of `autostart` after the first, each after a comma, and the semicolon of the list
abbrev pub starting_marks : List Name → (after : List Mark) → List Mark
starting_marks [] after = sign token.Semicolon ∷ after
starting_marks (x ∷ xs) after = sign token.Comma ∷ (named x (starts x) ∷ starting_marks xs after)

abbrev pub autostart_marks : List Name → (after : List Mark) → List Mark
autostart_marks [] after = after
autostart_marks (x ∷ xs) after = key word.Autostart ∷ (named x (starts x) ∷ starting_marks xs after)

abbrev pub receiver_marks : Option Name → (after : List Mark) → List Mark
receiver_marks None after = after
receiver_marks (Some x) after = key word.Receiver ∷ (named x (uses a_process x) ∷ (sign token.Semicolon ∷ after))

abbrev pub program_marks : ProgramShape → (after : List Mark) → List Mark
program_marks p after =
    event_marks p.events (semaphore_marks p.semaphores
    (key word.Process ∷ (named p.first.0 (new a_process p.first.0) ∷ process_marks p.others
    (autostart_marks p.autostart (receiver_marks p.receiver (codes_marks (p.first ∷ p.others) after))))))

-- The list of the symbols that are still to be read, and the effect of each token on this list. Only the proofs and
-- contracts inside this crate use the list: the grammar and its errors are defined without it. Each symbol derives at
-- least one token.
use Rattle.std.specs.Prelude.{ℕ, suc, ◌+◌, List, [], ◌∷◌, ◌++◌, length, Bool, if◌then◌else◌, Option, Some, None}
use Rattle.std.specs.Str.{bytes_eq}
use Rattle.program_tree.specs.Faults.{Scope, scope_after, breaks}
use Rattle.program_tree.specs.Forms as form
use Rattle.program_tree.specs.Forms.{Operand, Form, ends, tells, takes, values, Beginning, no_statement, action}
use Rattle.program_tree.specs.Forms.{branches, loops, goes_on, beginning, Word, no_value, alone, tells_of, word_of}
use Rattle.program_tree.specs.Grammar.{Context, inner, at_body, at_simple, at_thread, Mark, new, uses, starts, sign}
use Rattle.program_tree.specs.Grammar.{key, named, opening, value_mark, used, target, begins_with, leaving}
use Rattle.program_tree.specs.Shapes.{Name}
use Rattle.program_tree.specs.Tokens as token
use Rattle.program_tree.specs.Tokens.{Token}
use Rattle.program_tree.specs.Tree.{Class, an_event, a_semaphore, a_process, a_variable, a_timer, a_thread}
use Rattle.program_tree.specs.declared.keyword.Keyword.{Keyword}
use Rattle.program_tree.specs.declared.keyword.Keyword.TheVariants as word
use Rattle.program_tree.specs.declared.error.ReadErrorKind.{ReadErrorKind}
use Rattle.program_tree.specs.declared.error.ReadErrorKind.TheVariants.{BadToken, Unexpected, UnknownName, NameTwice}
use Rattle.program_tree.specs.declared.error.ReadErrorKind.TheVariants.{NumberTooLarge, WaitInSimpleBlock, TooDeep}
use Rattle.program_tree.specs.declared.error.ReadErrorKind.TheVariants.{TooMany, NoProcess, BadTarget}

-- a part of a text that is still to be read
pub data Symbol : Type 0 where
  semicolon : Symbol
  equals : Symbol
  open_sign : Symbol
  close : Symbol
  open_brace : Symbol
  operator : Symbol
  number : Symbol
  operand : Context → Operand → Symbol
  expression : Context → Symbol
  -- `;`, or `into`, a variable and `;`
  into_end : Context → Symbol
  block : Context → Symbol
  -- the statements of a block and its closing brace; and the same after the first block of an `if`
  items : Context → Symbol
  items_else : Context → Symbol
  -- a new name of a class
  new_name : Class → Symbol
  -- the name of a new thread, and its block
  new_thread : Symbol
  -- a code, from its keyword on, and after it the codes of these processes
  codes : Name → List Name → Symbol
  this_name : Name → Symbol
  -- the rest of a code: from the variables, the timers of one kind, the threads, `onpoll`, `onexit` or the body on
  from_variables : Symbol
  from_etimers : Symbol
  from_ctimers : Symbol
  from_threads : Symbol
  from_on_poll : Symbol
  from_on_exit : Symbol
  from_body : Symbol
  last_brace : Symbol
  -- the rest of a program: from the events, the semaphores or the first process on
  from_events : Symbol
  from_semaphores : Symbol
  first_process : Symbol
  -- the rest of a program, from the place after a name of the process line or from a further name on, with the
  -- processes named so far
  from_comma : Name → List Name → Symbol
  more_process : Name → List Name → Symbol
  -- the rest of a program, from `autostart` or `receiver` on
  from_autostart : Name → List Name → Symbol
  from_receiver : Name → List Name → Symbol
  starting : Symbol
  -- further names of `autostart`, and the semicolon
  more_starting : Symbol

-- the symbols that are still to be read, in order
abbrev pub Pending : Type 0
Pending = List Symbol

-- the token doesn't fit; or it has this mark, and these symbols are pending after it
pub data Step : Type 0 where
  unexpected_token : Step
  take : Mark → Pending → Step

-- The step at a token, for each kind of symbol; the symbols `f` are pending after this symbol.
abbrev pub cast_step : Pending → Token → Step
cast_step f (token.Name x) = take (named x (uses an_event x)) f
cast_step f (token.Keyword word.Continue) = take (key word.Continue) f
cast_step f (token.Keyword word.Msg) = take (key word.Msg) f
cast_step f (token.Keyword word.Com) = take (key word.Com) f
cast_step f (token.Keyword word.Packet) = take (key word.Packet) f
cast_step f t = unexpected_token

abbrev pub sent_step : Pending → Token → Step
sent_step f (token.Keyword word.Exit) = take (key word.Exit) f
sent_step f t = cast_step f t

abbrev pub any_step : Pending → Token → Step
any_step f (token.Keyword word.Init) = take (key word.Init) f
any_step f (token.Keyword word.Poll) = take (key word.Poll) f
any_step f (token.Keyword word.Exited) = take (key word.Exited) f
any_step f (token.Keyword word.Timer) = take (key word.Timer) f
any_step f t = sent_step f t

abbrev pub name_step : Context → Class → Pending → Token → Step
name_step c k f (token.Name x) = take (named x (used c k x)) f
name_step c k f t = unexpected_token

abbrev pub operand_step : Context → Operand → Pending → Token → Step
operand_step c (form.name k) f t = name_step c k f t
operand_step c form.cast f t = cast_step f t
operand_step c form.sent f t = sent_step f t
operand_step c form.any f t = any_step f t

abbrev pub word_step : Context → Keyword → Word → Pending → Step
word_step c k no_value f = unexpected_token
word_step c k alone f = take (key k) f
word_step c k (tells_of o) f = take (key k) (open_sign ∷ operand c o ∷ close ∷ f)

abbrev pub expression_step : Context → Pending → Token → Step
expression_step c f (token.Number n) = take (value_mark n) f
expression_step c f (token.Name x) = take (named x (uses a_variable x)) f
expression_step c f (token.Keyword k) = word_step c k (word_of k) f
expression_step c f token.Bang = take (opening token.Bang (c.level + 1)) (expression (inner c) ∷ f)
expression_step c f token.Open =
    take (opening token.Open (c.level + 1)) (expression (inner c) ∷ operator ∷ expression (inner c) ∷ close ∷ f)
expression_step c f t = unexpected_token

-- the symbols that a form requires
abbrev pub symbols_of : Context → Form → Pending → Pending
symbols_of c ends f = semicolon ∷ f
symbols_of c tells f = into_end c ∷ f
symbols_of c (takes o g) f = operand c o ∷ symbols_of c g f
symbols_of c (values g) f = expression c ∷ symbols_of c g f

abbrev pub begin_step : Context → Keyword → Beginning → Pending → Step
begin_step c k no_statement f = unexpected_token
begin_step c k (action g) f = take (begins_with c k) (symbols_of c g (items c ∷ f))
begin_step c k branches f = take (begins_with c k) (expression c ∷ block c ∷ items_else c ∷ f)
begin_step c k loops f = take (begins_with c k) (expression c ∷ block c ∷ items c ∷ f)
begin_step c k goes_on f = unexpected_token

abbrev pub items_step : Context → Pending → Token → Step
items_step c f token.CloseBrace = take (sign token.CloseBrace) f
items_step c f (token.Name x) = take (target x) (equals ∷ expression c ∷ semicolon ∷ items c ∷ f)
items_step c f (token.Keyword k) = begin_step c k (beginning k) f
items_step c f t = unexpected_token

abbrev pub else_step : Context → Keyword → Beginning → Pending → Step
else_step c k goes_on f = take (key k) (block c ∷ items c ∷ f)
else_step c k b f = begin_step c k b f

abbrev pub items_else_step : Context → Pending → Token → Step
items_else_step c f (token.Keyword k) = else_step c k (beginning k) f
items_else_step c f t = items_step c f t

-- The stages of a code. Each stage except the body may be absent.

abbrev pub body_step : Pending → Token → Step
body_step f (token.Keyword word.Body) = take (key word.Body) (block at_body ∷ last_brace ∷ f)
body_step f t = unexpected_token

abbrev pub on_exit_step : Pending → Token → Step
on_exit_step f (token.Keyword word.OnExit) = take (key word.OnExit) (block at_simple ∷ from_body ∷ f)
on_exit_step f t = body_step f t

abbrev pub on_poll_step : Pending → Token → Step
on_poll_step f (token.Keyword word.OnPoll) = take (key word.OnPoll) (block at_simple ∷ from_on_exit ∷ f)
on_poll_step f t = on_exit_step f t

abbrev pub threads_step : Pending → Token → Step
threads_step f (token.Keyword word.Thread) = take (key word.Thread) (new_thread ∷ from_threads ∷ f)
threads_step f t = on_poll_step f t

abbrev pub ctimers_step : Pending → Token → Step
ctimers_step f (token.Keyword word.Ctimer) = take (key word.Ctimer)
    (new_name a_timer ∷ block at_simple ∷ from_ctimers ∷ f)
ctimers_step f t = threads_step f t

abbrev pub etimers_step : Pending → Token → Step
etimers_step f (token.Keyword word.Etimer) = take (key word.Etimer) (new_name a_timer ∷ semicolon ∷ from_etimers ∷ f)
etimers_step f t = ctimers_step f t

abbrev pub variables_step : Pending → Token → Step
variables_step f (token.Keyword word.Var) = take (key word.Var)
    (new_name a_variable ∷ equals ∷ number ∷ semicolon ∷ from_variables ∷ f)
variables_step f t = etimers_step f t

-- the remaining codes
abbrev pub codes_form : List Name → Pending → Pending
codes_form [] f = f
codes_form (x ∷ xs) f = codes x xs ∷ f

abbrev pub codes_step : Name → List Name → Pending → Token → Step
codes_step x xs f (token.Keyword word.Code) =
    take (key word.Code) (this_name x ∷ open_brace ∷ from_variables ∷ codes_form xs f)
codes_step x xs f t = unexpected_token

-- The stages of a program.

abbrev pub receiver_step : Name → List Name → Pending → Token → Step
receiver_step x xs f (token.Keyword word.Receiver) =
    take (key word.Receiver) (operand at_body (form.name a_process) ∷ semicolon ∷ codes x xs ∷ f)
receiver_step x xs f t = codes_step x xs f t

abbrev pub autostart_step : Name → List Name → Pending → Token → Step
autostart_step x xs f (token.Keyword word.Autostart) =
    take (key word.Autostart) (starting ∷ more_starting ∷ from_receiver x xs ∷ f)
autostart_step x xs f t = receiver_step x xs f t

abbrev pub process_step : Pending → Token → Step
process_step f (token.Keyword word.Process) = take (key word.Process) (first_process ∷ f)
process_step f t = unexpected_token

abbrev pub semaphores_step : Pending → Token → Step
semaphores_step f (token.Keyword word.Semaphore) =
    take (key word.Semaphore) (new_name a_semaphore ∷ equals ∷ number ∷ semicolon ∷ from_semaphores ∷ f)
semaphores_step f t = process_step f t

abbrev pub events_step : Pending → Token → Step
events_step f (token.Keyword word.Event) = take (key word.Event) (new_name an_event ∷ semicolon ∷ from_events ∷ f)
events_step f t = semaphores_step f t

abbrev pub step : Pending → Token → Step
step [] t = unexpected_token
step (semicolon ∷ f) token.Semicolon = take (sign token.Semicolon) f
step (equals ∷ f) token.Equals = take (sign token.Equals) f
step (open_sign ∷ f) token.Open = take (sign token.Open) f
step (close ∷ f) token.Close = take (sign token.Close) f
step (open_brace ∷ f) token.OpenBrace = take (sign token.OpenBrace) f
step (operator ∷ f) (token.Op o) = take (sign (token.Op o)) f
step (number ∷ f) (token.Number n) = take (value_mark n) f
step (operand c o ∷ f) t = operand_step c o f t
step (expression c ∷ f) t = expression_step c f t
step (into_end c ∷ f) token.Semicolon = take (sign token.Semicolon) f
step (into_end c ∷ f) (token.Keyword word.Into) =
    take (key word.Into) (operand c (form.name a_variable) ∷ semicolon ∷ f)
step (block c ∷ f) token.OpenBrace = take (opening token.OpenBrace (c.level + 1)) (items (inner c) ∷ f)
step (items c ∷ f) t = items_step c f t
step (items_else c ∷ f) t = items_else_step c f t
step (new_name c ∷ f) (token.Name x) = take (named x (new c x)) f
step (new_thread ∷ f) (token.Name x) = take (named x (new a_thread x)) (block (at_thread x) ∷ f)
step (codes x xs ∷ f) t = codes_step x xs f t
step (this_name x ∷ f) (token.Name y) = if bytes_eq y x then take (sign (token.Name y)) f else unexpected_token
step (from_variables ∷ f) t = variables_step f t
step (from_etimers ∷ f) t = etimers_step f t
step (from_ctimers ∷ f) t = ctimers_step f t
step (from_threads ∷ f) t = threads_step f t
step (from_on_poll ∷ f) t = on_poll_step f t
step (from_on_exit ∷ f) t = on_exit_step f t
step (from_body ∷ f) t = body_step f t
step (last_brace ∷ f) token.CloseBrace = take leaving f
step (from_events ∷ f) t = events_step f t
step (from_semaphores ∷ f) t = semaphores_step f t
step (first_process ∷ f) (token.Name x) = take (named x (new a_process x)) (from_comma x [] ∷ f)
step (from_comma x xs ∷ f) token.Comma = take (sign token.Comma) (more_process x xs ∷ f)
step (from_comma x xs ∷ f) token.Semicolon = take (sign token.Semicolon) (from_autostart x xs ∷ f)
step (more_process x xs ∷ f) (token.Name y) = take (named y (new a_process y)) (from_comma x (xs ++ y ∷ []) ∷ f)
step (from_autostart x xs ∷ f) t = autostart_step x xs f t
step (from_receiver x xs ∷ f) t = receiver_step x xs f t
step (starting ∷ f) (token.Name x) = take (named x (starts x)) f
step (more_starting ∷ f) token.Comma = take (sign token.Comma) (starting ∷ more_starting ∷ f)
step (more_starting ∷ f) token.Semicolon = take (sign token.Semicolon) f
step (s ∷ f) t = unexpected_token

-- the text is a whole program, or has this first error; `left` is the number of tokens from the error's token on
pub data Verdict : Type 0 where
  whole : Verdict
  fault : ReadErrorKind → (left : ℕ) → Verdict

-- the error of a text that ends before this symbol
abbrev pub end_kind : Symbol → ReadErrorKind
end_kind from_events = NoProcess
end_kind from_semaphores = NoProcess
end_kind s = Unexpected

-- the verdict at the end of a text
abbrev pub at_end : Pending → Verdict
at_end [] = whole
at_end (s ∷ f) = fault (end_kind s) 0

-- the first of these rules that is broken
abbrev pub first_broken_of : (ReadErrorKind → Bool) → List ReadErrorKind → Option ReadErrorKind
first_broken_of broken [] = None
first_broken_of broken (k ∷ ks) = if broken k then Some k else first_broken_of broken ks

-- the rules on marks, in the order of their numbers
abbrev pub rules_on_marks : List ReadErrorKind
rules_on_marks = UnknownName ∷ NameTwice ∷ NumberTooLarge ∷ WaitInSimpleBlock ∷ TooDeep ∷ TooMany ∷ BadTarget ∷ []

-- the first rule that this mark breaks
abbrev pub first_broken : Scope → Mark → Option ReadErrorKind
first_broken s m = first_broken_of (λ k. breaks k s m) rules_on_marks

-- this error at the next token or, if there is none, the other verdict
abbrev pub fault_or : Option ReadErrorKind → (left : ℕ) → Verdict → Verdict
fault_or None left other = other
fault_or (Some k) left other = fault k left

-- the error of a token that doesn't fit
abbrev pub unfit_kind : Token → ReadErrorKind
unfit_kind token.Bad = BadToken
unfit_kind t = Unexpected

-- the error of the next token if it doesn't fit, or of the end of the text
abbrev pub unfit_at : Option Token → ReadErrorKind
unfit_at None = Unexpected
unfit_at (Some t) = unfit_kind t

-- the verdict at a token; `on` is the verdict on the tokens after it
abbrev pub verdict_after : Scope → (left : ℕ) → Token → Step → (Scope → Pending → Verdict) → Verdict
verdict_after s left t unexpected_token on = fault (unfit_kind t) left
verdict_after s left t (take m f) on = fault_or (first_broken s m) left (on (scope_after s m) f)

-- the verdict of the machine on the remaining tokens of a text, which it reads one by one
abbrev pub tell : Scope → Pending → List Token → Verdict
tell s f [] = at_end f
tell s f (t ∷ ts) = verdict_after s (suc (length ts)) t (step f t) (λ s' f'. tell s' f' ts)

-- the next token, if there is one
abbrev pub first : List Token → Option Token
first [] = None
first (t ∷ ts) = Some t

-- The texts that each symbol derives. Each step of the machine is a step of the grammar.
use Rattle.std.proofs.Common.{◌≡◌, ℕ, List, [], ◌∷◌, ◌++◌, refl, sym, ap, ◌∙◌, Bool, true, false, if◌then◌else◌}
use Rattle.std.proofs.Common.{Option, Some, None}
use Rattle.std.specs.Str.{bytes_eq}
use Rattle.program_tree.specs.Forms.{Operand, Form, ends, tells, takes, values, Beginning, no_statement, action}
use Rattle.program_tree.specs.Forms.{branches, loops, goes_on, beginning, Word, no_value, alone, tells_of, word_of}
use Rattle.program_tree.specs.Grammar.{Context, at_thread, Mark, new, starts, sign, key, named, value_mark, begins_with}
use Rattle.program_tree.specs.Grammar.{leaving, operand_mark, into_marks, word_marks, value_marks, expression_marks}
use Rattle.program_tree.specs.Grammar.{form_marks, beginning_marks, keyword_marks, action_marks, items_marks}
use Rattle.program_tree.specs.Grammar.{else_marks, block_marks, variable_marks, etimer_marks, ctimer_marks}
use Rattle.program_tree.specs.Grammar.{thread_marks, handler_marks, body_marks, code_marks, codes_marks, event_marks}
use Rattle.program_tree.specs.Grammar.{semaphore_marks, process_marks, starting_marks, autostart_marks, receiver_marks}
use Rattle.program_reader.specs.Machine.{Symbol, Pending, Step, unexpected_token, take, step, semicolon, equals, open_sign, close}
use Rattle.program_reader.specs.Machine.{open_brace, operator, number as number_symbol, operand, expression, into_end}
use Rattle.program_reader.specs.Machine.{block, items, items_else, new_name, new_thread, codes, this_name}
use Rattle.program_reader.specs.Machine.{from_variables, from_etimers, from_ctimers, from_threads, from_on_poll}
use Rattle.program_reader.specs.Machine.{from_on_exit, from_body, last_brace, from_events, from_semaphores}
use Rattle.program_reader.specs.Machine.{first_process, from_comma, more_process, from_autostart, from_receiver}
use Rattle.program_reader.specs.Machine.{starting, more_starting, symbols_of, codes_form, cast_step, sent_step}
use Rattle.program_reader.specs.Machine.{operand_step, word_step, begin_step, items_step, body_step, on_exit_step}
use Rattle.program_reader.specs.Machine.{on_poll_step, threads_step, ctimers_step, etimers_step, codes_step}
use Rattle.program_reader.specs.Machine.{receiver_step, process_step, semaphores_step}
use Rattle.program_tree.specs.Shapes.{Name, Valued, Named, CodeShape, OperandShape, WordShape, FormShape, ActionShape}
use Rattle.program_tree.specs.Tokens.{Token}
use Rattle.program_tree.specs.Tree.{a_thread, a_process, Expression, number, variable, sender, moment, mote, is, fired}
use Rattle.program_tree.specs.Tree.{expired, gone, running, count, negation, binary, Action, assign, print, send}
use Rattle.program_tree.specs.Tree.{wait_until, wait_while, yield, yield_until, spawn, restart, exit, pause, acquire}
use Rattle.program_tree.specs.Tree.{signal, post, broadcast, synch, poll, start, kill, set, reset, restart_timer, stop}
use Rattle.program_tree.specs.Tree.{does, branch, while, Body, end, next, Otherwise, nothing, otherwise}
use Rattle.program_tree.specs.declared.keyword.Keyword.{Keyword}
use Rattle.program_tree.specs.declared.tree.Operator.{Operator}
use Rattle.program_tree.specs.declared.tree.Operator.TheVariants.{Add}
use Rattle.program_tree.specs.EventNames as event
use Rattle.program_tree.specs.Forms as form
use Rattle.program_tree.specs.Tokens as token
use Rattle.program_tree.specs.Tree as tree
use Rattle.program_tree.specs.declared.keyword.Keyword.TheVariants as word
use Rattle.program_tree.proofs.NameLaws.{same_bytes}

-- The tables and the trees.

-- the action that a keyword forms with its operands, and the marks of this action
abbrev pub action_made : (k : Keyword) (v : ActionShape (beginning k))
    → (a : Action Name) × ((c : Context) (after : List Mark) → action_marks c a after ≡ keyword_marks c k v after)
action_made word.Print v = (print v.0, λ c after. refl)
action_made word.Send v = (send v.0, λ c after. refl)
action_made word.WaitUntil v = (wait_until v.0, λ c after. refl)
action_made word.WaitWhile v = (wait_while v.0, λ c after. refl)
action_made word.Yield v = (yield, λ c after. refl)
action_made word.YieldUntil v = (yield_until v.0, λ c after. refl)
action_made word.Spawn v = (spawn v.0, λ c after. refl)
action_made word.Restart v = (restart, λ c after. refl)
action_made word.Exit v = (exit, λ c after. refl)
action_made word.Pause v = (pause, λ c after. refl)
action_made word.Acquire v = (acquire v.0, λ c after. refl)
action_made word.Signal v = (signal v.0, λ c after. refl)
action_made word.Post v = (post v.0 v.1.0 v.1.1.0 v.1.1.1, λ c after. refl)
action_made word.Broadcast v = (broadcast v.0 v.1.0 v.1.1, λ c after. refl)
action_made word.Synch v = (synch v.0 v.1.0 v.1.1.0, λ c after. refl)
action_made word.Poll v = (poll v.0, λ c after. refl)
action_made word.Start v = (start v.0, λ c after. refl)
action_made word.Kill v = (kill v.0, λ c after. refl)
action_made word.Set v = (set v.0 v.1.0, λ c after. refl)
action_made word.Reset v = (reset v.0, λ c after. refl)
action_made word.RestartTimer v = (restart_timer v.0, λ c after. refl)
action_made word.Stop v = (stop v.0, λ c after. refl)
action_made k v = absurd v

-- the same for the value of a keyword
abbrev pub value_made : (k : Keyword) (v : WordShape (word_of k))
    → (e : Expression Name) × ((c : Context) (after : List Mark) → expression_marks c e after ≡ value_marks c k v after)
value_made word.Data v = (tree.word, λ c after. refl)
value_made word.From v = (sender, λ c after. refl)
value_made word.Now v = (moment, λ c after. refl)
value_made word.Own v = (mote, λ c after. refl)
value_made word.Is v = (is v, λ c after. refl)
value_made word.Fired v = (fired v, λ c after. refl)
value_made word.Expired v = (expired v, λ c after. refl)
value_made word.Gone v = (gone v, λ c after. refl)
value_made word.Running v = (running v, λ c after. refl)
value_made word.Count v = (count v, λ c after. refl)
value_made k v = absurd v

-- The parts that a symbol derives.

-- the codes of these processes
abbrev pub CodesOf : List Name → Type 0
CodesOf [] = Unit {0}
CodesOf (x ∷ xs) = CodeShape × (CodesOf xs)

abbrev pub FromExit : Type 0
FromExit = Option (Body Name) × (Body Name)

abbrev pub FromPoll : Type 0
FromPoll = Option (Body Name) × (FromExit)

abbrev pub FromThreads : Type 0
FromThreads = List Named × (FromPoll)

abbrev pub FromCtimers : Type 0
FromCtimers = List Named × (FromThreads)

abbrev pub FromEtimers : Type 0
FromEtimers = List Name × (FromCtimers)

abbrev pub FromVariables : Type 0
FromVariables = List Valued × (FromEtimers)

abbrev pub Process : Type 0
Process = Name × CodeShape

abbrev pub Codes : List Name → Type 0
Codes xs = CodeShape × (CodesOf xs)

abbrev pub FromReceiver : List Name → Type 0
FromReceiver xs = Option Name × (Codes xs)

abbrev pub FromAutostart : List Name → Type 0
FromAutostart xs = List Name × (FromReceiver xs)

abbrev pub FromComma : List Name → Type 0
FromComma xs = List Process × (FromAutostart xs)

-- the first process, the others, the processes that start at boot and the receiver
abbrev pub FromProcess : Type 0
FromProcess = Process × (List Process × (List Name × (Option Name)))

abbrev pub FromSemaphores : Type 0
FromSemaphores = List Valued × (FromProcess)

abbrev pub FromEvents : Type 0
FromEvents = List Name × (FromSemaphores)

abbrev pub PartOf : Symbol → Type 0
PartOf operator = Operator
PartOf number_symbol = ℕ
PartOf (operand c o) = OperandShape o
PartOf (expression c) = Expression Name
PartOf (into_end c) = Option Name
PartOf (block c) = Body Name
PartOf (items c) = Body Name
PartOf (items_else c) = Otherwise Name × (Body Name)
PartOf (new_name k) = Name
PartOf new_thread = Named
PartOf (codes x xs) = Codes xs
PartOf from_variables = FromVariables
PartOf from_etimers = FromEtimers
PartOf from_ctimers = FromCtimers
PartOf from_threads = FromThreads
PartOf from_on_poll = FromPoll
PartOf from_on_exit = FromExit
PartOf from_body = Body Name
PartOf from_events = FromEvents
PartOf from_semaphores = FromSemaphores
PartOf first_process = FromProcess
PartOf (from_comma x xs) = FromComma xs
PartOf (more_process x xs) = Process × (FromComma xs)
PartOf (from_autostart x xs) = FromAutostart xs
PartOf (from_receiver x xs) = FromReceiver xs
PartOf starting = Name
PartOf more_starting = List Name
PartOf _ = Unit {0}

abbrev pub codes_spelled : (xs : List Name) → CodesOf xs → List Mark → List Mark
codes_spelled [] cs rest = rest
codes_spelled (x ∷ xs) cs rest = code_marks (x, cs.0) (codes_spelled xs cs.1 rest)

abbrev pub exit_spelled : FromExit → List Mark → List Mark
exit_spelled p rest = handler_marks word.OnExit p.0 (body_marks p.1 rest)

abbrev pub poll_spelled : FromPoll → List Mark → List Mark
poll_spelled p rest = handler_marks word.OnPoll p.0 (exit_spelled p.1 rest)

abbrev pub threads_spelled : FromThreads → List Mark → List Mark
threads_spelled p rest = thread_marks p.0 (poll_spelled p.1 rest)

abbrev pub ctimers_spelled : FromCtimers → List Mark → List Mark
ctimers_spelled p rest = ctimer_marks p.0 (threads_spelled p.1 rest)

abbrev pub etimers_spelled : FromEtimers → List Mark → List Mark
etimers_spelled p rest = etimer_marks p.0 (ctimers_spelled p.1 rest)

abbrev pub variables_spelled : FromVariables → List Mark → List Mark
variables_spelled p rest = variable_marks p.0 (etimers_spelled p.1 rest)

abbrev pub receiver_spelled : Name → (xs : List Name) → FromReceiver xs → List Mark → List Mark
receiver_spelled x xs p rest = receiver_marks p.0 (codes_spelled (x ∷ xs) p.1 rest)

abbrev pub autostart_spelled : Name → (xs : List Name) → FromAutostart xs → List Mark → List Mark
autostart_spelled x xs p rest = autostart_marks p.0 (receiver_spelled x xs p.1 rest)

abbrev pub comma_spelled : Name → (xs : List Name) → FromComma xs → List Mark → List Mark
comma_spelled x xs p rest = process_marks p.0 (autostart_spelled x xs p.1 (codes_marks p.0 rest))

abbrev pub more_spelled : Name → (xs : List Name) → Process → FromComma xs → List Mark → List Mark
more_spelled x xs n p rest = named n.0 (new a_process n.0) ∷ process_marks p.0
    (autostart_spelled x xs p.1 (codes_marks (n ∷ p.0) rest))

abbrev pub process_spelled : FromProcess → List Mark → List Mark
process_spelled p rest =
    named p.0.0 (new a_process p.0.0) ∷ process_marks p.1.0
    (autostart_marks p.1.1.0 (receiver_marks p.1.1.1 (codes_marks (p.0 ∷ p.1.0) rest)))

abbrev pub semaphores_spelled : FromSemaphores → List Mark → List Mark
semaphores_spelled p rest = semaphore_marks p.0 (key word.Process ∷ process_spelled p.1 rest)

abbrev pub events_spelled : FromEvents → List Mark → List Mark
events_spelled p rest = event_marks p.0 (semaphores_spelled p.1 rest)

abbrev pub spell : (s : Symbol) → PartOf s → List Mark → List Mark
spell semicolon p rest = sign token.Semicolon ∷ rest
spell equals p rest = sign token.Equals ∷ rest
spell open_sign p rest = sign token.Open ∷ rest
spell close p rest = sign token.Close ∷ rest
spell open_brace p rest = sign token.OpenBrace ∷ rest
spell operator o rest = sign (token.Op o) ∷ rest
spell number_symbol n rest = value_mark n ∷ rest
spell (operand c o) v rest = operand_mark c o v ∷ rest
spell (expression c) e rest = expression_marks c e rest
spell (into_end c) i rest = into_marks i rest
spell (block c) b rest = block_marks c b rest
spell (items c) b rest = items_marks c b rest
spell (items_else c) p rest = else_marks c p.0 (items_marks c p.1 rest)
spell (new_name k) x rest = named x (new k x) ∷ rest
spell new_thread p rest = named p.0 (new a_thread p.0) ∷ block_marks (at_thread p.0) p.1 rest
spell (codes x xs) p rest = codes_spelled (x ∷ xs) p rest
spell (this_name x) p rest = sign (token.Name x) ∷ rest
spell from_variables p rest = variables_spelled p rest
spell from_etimers p rest = etimers_spelled p rest
spell from_ctimers p rest = ctimers_spelled p rest
spell from_threads p rest = threads_spelled p rest
spell from_on_poll p rest = poll_spelled p rest
spell from_on_exit p rest = exit_spelled p rest
spell from_body b rest = body_marks b rest
spell last_brace p rest = leaving ∷ rest
spell from_events p rest = events_spelled p rest
spell from_semaphores p rest = semaphores_spelled p rest
spell first_process p rest = process_spelled p rest
spell (from_comma x xs) p rest = comma_spelled x xs p rest
spell (more_process x xs) p rest = more_spelled x xs p.0 p.1 rest
spell (from_autostart x xs) p rest = autostart_spelled x xs p rest
spell (from_receiver x xs) p rest = receiver_spelled x xs p rest
spell starting x rest = named x (starts x) ∷ rest
spell more_starting xs rest = starting_marks xs rest

-- parts for the pending symbols, and their marks
abbrev pub Parts : Pending → Type 0
Parts [] = Unit {0}
Parts (s ∷ f) = PartOf s × (Parts f)

abbrev pub spell_all : (f : Pending) → Parts f → List Mark
spell_all [] ps = []
spell_all (s ∷ f) ps = spell s ps.0 (spell_all f ps.1)

-- there is at least one part for each symbol
pub some_operand : (o : Operand) → OperandShape o
some_operand (form.name k) = []
some_operand form.cast = event.continue
some_operand form.sent = event.exit
some_operand form.any = event.init

abbrev pub some_code : CodeShape
some_code = record {
  variables = [];
  etimers = [];
  ctimers = [];
  threads = [];
  on_poll = None;
  on_exit = None;
  body = end;
}

pub some_codes : (xs : List Name) → CodesOf xs
some_codes [] = tt
some_codes (x ∷ xs) = (some_code, some_codes xs)

abbrev pub some_program : FromProcess
some_program = (([], some_code), ([], ([], None)))

pub some_part : (s : Symbol) → PartOf s
some_part operator = Add
some_part number_symbol = 0
some_part (operand c o) = some_operand o
some_part (expression c) = number 0
some_part (into_end c) = None
some_part (block c) = end
some_part (items c) = end
some_part (items_else c) = (nothing, end)
some_part (new_name k) = []
some_part new_thread = ([], end)
some_part (codes x xs) = (some_code, some_codes xs)
some_part from_variables = ([], ([], ([], ([], (None, (None, end))))))
some_part from_etimers = ([], ([], ([], (None, (None, end)))))
some_part from_ctimers = ([], ([], (None, (None, end))))
some_part from_threads = ([], (None, (None, end)))
some_part from_on_poll = (None, (None, end))
some_part from_on_exit = (None, end)
some_part from_body = end
some_part from_events = ([], ([], some_program))
some_part from_semaphores = ([], some_program)
some_part first_process = some_program
some_part (from_comma x xs) = ([], ([], (None, (some_code, some_codes xs))))
some_part (more_process x xs) = (([], some_code), ([], ([], (None, (some_code, some_codes xs)))))
some_part (from_autostart x xs) = ([], (None, (some_code, some_codes xs)))
some_part (from_receiver x xs) = (None, (some_code, some_codes xs))
some_part starting = []
some_part more_starting = []
some_part _ = tt

pub some_parts : (f : Pending) → Parts f
some_parts [] = tt
some_parts (s ∷ f) = (some_part s, some_parts f)

-- Lists of symbols that the tables make.

abbrev pub form_split : (c : Context) (g : Form) (f : Pending) → Parts (symbols_of c g f) → FormShape g × (Parts f)
form_split c ends f ps = (tt, ps.1)
form_split c tells f ps = (ps.0, ps.1)
form_split c (takes o g) f ps = ((ps.0, (form_split c g f ps.1).0), (form_split c g f ps.1).1)
form_split c (values g) f ps = ((ps.0, (form_split c g f ps.1).0), (form_split c g f ps.1).1)

abbrev pub form_spelled : (c : Context) (g : Form) (f : Pending) (ps : Parts (symbols_of c g f))
    → form_marks c g (form_split c g f ps).0 (spell_all f (form_split c g f ps).1) ≡ spell_all (symbols_of c g f) ps
form_spelled c ends f ps = refl
form_spelled c tells f ps = refl
form_spelled c (takes o g) f ps = ap (λ ms. operand_mark c o ps.0 ∷ ms) (form_spelled c g f ps.1)
form_spelled c (values g) f ps = ap (λ ms. expression_marks c ps.0 ms) (form_spelled c g f ps.1)

abbrev pub codes_split : (xs : List Name) (f : Pending) → Parts (codes_form xs f) → CodesOf xs × (Parts f)
codes_split [] f ps = (tt, ps)
codes_split (x ∷ xs) f ps = ps

abbrev pub codes_split_spelled : (xs : List Name) (f : Pending) (ps : Parts (codes_form xs f))
    → codes_spelled xs (codes_split xs f ps).0 (spell_all f (codes_split xs f ps).1) ≡ spell_all (codes_form xs f) ps
codes_split_spelled [] f ps = refl
codes_split_spelled (x ∷ xs) f ps = refl

-- the codes of some processes, and one more code
abbrev pub all_but_last : (xs : List Name) (x : Name) → CodesOf (xs ++ x ∷ []) → CodesOf xs
all_but_last [] x cs = tt
all_but_last (y ∷ xs) x cs = (cs.0, all_but_last xs x cs.1)

abbrev pub last : (xs : List Name) (x : Name) → CodesOf (xs ++ x ∷ []) → CodeShape
last [] x cs = cs.0
last (y ∷ xs) x cs = last xs x cs.1

abbrev pub last_spelled : (xs : List Name) (x : Name) (cs : CodesOf (xs ++ x ∷ [])) (rest : List Mark)
    → codes_spelled xs (all_but_last xs x cs) (code_marks (x, last xs x cs) rest) ≡ codes_spelled (xs ++ x ∷ []) cs
    rest
last_spelled [] x cs rest = refl
last_spelled (y ∷ xs) x cs rest = ap (λ ms. code_marks (y, cs.0) ms) (last_spelled xs x cs.1 rest)

pub with_last : (xs : List Name) (x : Name) (cs : CodesOf xs) (c : CodeShape) → (ds : CodesOf (xs ++ x ∷ []))
    × (all_but_last xs x ds ≡ cs) × (last xs x ds ≡ c)
with_last [] x cs c = ((c, tt), refl, refl)
with_last (y ∷ xs) x cs c = let q = with_last xs x cs.1 c in ((cs.0, q.0), ap (λ z. (cs.0, z)) q.1, q.2)

-- A step back: parts for the symbols that are pending after a token, together with its mark, become parts for the
-- symbols before it.

abbrev pub Back : Pending → Token → Step → Type 0
Back f t unexpected_token = Unit {0}
Back f t (take m f') = (m.token ≡ t) × ((ps : Parts f') → (qs : Parts f) × (spell_all f qs ≡ m ∷ spell_all f' ps))

-- a symbol is skipped
abbrev pub passed : (y z : Symbol) (f : Pending) (up : PartOf z → PartOf y)
    → ((p : PartOf z) (rest : List Mark) → spell y (up p) rest ≡ spell z p rest) → (t : Token) (s : Step)
    → Back (z ∷ f) t s → Back (y ∷ f) t s
passed y z f up same t unexpected_token b = tt
passed y z f up same t (take m f') b =
    (b.0, λ ps. ((up (b.1 ps).0.0, (b.1 ps).0.1), same (b.1 ps).0.0 (spell_all f (b.1 ps).0.1) ∙ (b.1 ps).1))

abbrev pub back_cast : (c : Context) (f : Pending) (t : Token) → Back (operand c form.cast ∷ f) t (cast_step f t)
back_cast c f (token.Name x) = (refl, λ ps. ((event.declared x, ps), refl))
back_cast c f (token.Keyword word.Continue) = (refl, λ ps. ((event.continue, ps), refl))
back_cast c f (token.Keyword word.Msg) = (refl, λ ps. ((event.msg, ps), refl))
back_cast c f (token.Keyword word.Com) = (refl, λ ps. ((event.«com», ps), refl))
back_cast c f (token.Keyword word.Packet) = (refl, λ ps. ((event.packet, ps), refl))
back_cast c f t = tt

abbrev pub back_sent : (c : Context) (f : Pending) (t : Token) → Back (operand c form.sent ∷ f) t (sent_step f t)
back_sent c f (token.Keyword word.Exit) = (refl, λ ps. ((event.exit, ps), refl))
back_sent c f t = passed (operand c form.sent) (operand c form.cast) f event.cast (λ p rest. refl) t (cast_step f t)
    (back_cast c f t)

abbrev pub back_operand : (c : Context) (o : Operand) (f : Pending) (t : Token)
    → Back (operand c o ∷ f) t (operand_step c o f t)
back_operand c (form.name k) f (token.Name x) = (refl, λ ps. ((x, ps), refl))
back_operand c form.cast f t = back_cast c f t
back_operand c form.sent f t = back_sent c f t
back_operand c form.any f (token.Keyword word.Init) = (refl, λ ps. ((event.init, ps), refl))
back_operand c form.any f (token.Keyword word.Poll) = (refl, λ ps. ((event.poll, ps), refl))
back_operand c form.any f (token.Keyword word.Exited) = (refl, λ ps. ((event.exited, ps), refl))
back_operand c form.any f (token.Keyword word.Timer) = (refl, λ ps. ((event.timer, ps), refl))
back_operand c form.any f t = passed (operand c form.any) (operand c form.sent) f event.sent (λ p rest. refl) t
    (sent_step f t) (back_sent c f t)
back_operand c o f t = tt

abbrev pub back_word : (c : Context) (k : Keyword) (w : Word) (f : Pending)
    → ((v : WordShape w) → (e : Expression Name)
    × ((c : Context) (after : List Mark) → expression_marks c e after ≡ key k ∷ word_marks c w v after))
    → Back (expression c ∷ f) (token.Keyword k) (word_step c k w f)
back_word c k no_value f made = tt
back_word c k alone f made = (refl, λ ps. (((made tt).0, ps), (made tt).1 c (spell_all f ps)))
back_word c k (tells_of o) f made =
    (refl, λ ps. (((made ps.1.0).0, ps.1.1.1), (made ps.1.0).1 c (spell_all f ps.1.1.1)))

abbrev pub back_expression : (c : Context) (f : Pending) (t : Token)
    → Back (expression c ∷ f) t (step (expression c ∷ f) t)
back_expression c f (token.Number n) = (refl, λ ps. ((number n, ps), refl))
back_expression c f (token.Name x) = (refl, λ ps. ((variable x, ps), refl))
back_expression c f (token.Keyword k) = back_word c k (word_of k) f (value_made k)
back_expression c f token.Bang = (refl, λ ps. ((negation ps.0, ps.1), refl))
back_expression c f token.Open = (refl, λ ps. ((binary ps.1.0 ps.0 ps.1.1.0, ps.1.1.1.1), refl))
back_expression c f t = tt

abbrev pub IsPlain : Beginning → Type 0
IsPlain branches = ⊥
IsPlain loops = ⊥
IsPlain b = Unit {0}

abbrev pub back_action : (c : Context) (k : Keyword) (b : Beginning) (f : Pending)
    → ((v : ActionShape b) → (a : Action Name)
    × ((c : Context) (after : List Mark) → action_marks c a after ≡ begins_with c k ∷ beginning_marks c b v after))
    → IsPlain b → Back (items c ∷ f) (token.Keyword k) (begin_step c k b f)
back_action c k no_statement f made h = tt
back_action c k (action g) f made h = (
  refl,
  λ ps.
      let q = form_split c g (items c ∷ f) ps in (
        (next (does (made q.0).0) q.1.0, q.1.1),
        (made q.0).1 c (spell_all (items c ∷ f) q.1)
            ∙ ap (λ ms. begins_with c k ∷ ms) (form_spelled c g (items c ∷ f) ps),
      ),
)
back_action c k branches f made h = absurd h
back_action c k loops f made h = absurd h
back_action c k goes_on f made h = tt

abbrev pub back_items : (c : Context) (f : Pending) (t : Token) → Back (items c ∷ f) t (items_step c f t)
back_items c f token.CloseBrace = (refl, λ ps. ((end, ps), refl))
back_items c f (token.Name x) = (refl, λ ps. ((next (does (assign x ps.1.0)) ps.1.1.1.0, ps.1.1.1.1), refl))
back_items c f (token.Keyword word.If) =
    (refl, λ ps. ((next (branch ps.0 ps.1.0 ps.1.1.0.0) ps.1.1.0.1, ps.1.1.1), refl))
back_items c f (token.Keyword word.While) = (refl, λ ps. ((next (while ps.0 ps.1.0) ps.1.1.0, ps.1.1.1), refl))
back_items c f (token.Keyword k) = back_action c k (beginning k) f (action_made k) tt
back_items c f t = tt

abbrev pub back_items_else : (c : Context) (f : Pending) (t : Token)
    → Back (items_else c ∷ f) t (step (items_else c ∷ f) t)
back_items_else c f (token.Keyword word.Else) = (refl, λ ps. (((otherwise ps.0, ps.1.0), ps.1.1), refl))
back_items_else c f t = passed (items_else c) (items c) f (λ b. (nothing, b)) (λ p rest. refl) t (items_step c f t)
    (back_items c f t)

abbrev pub back_body : (f : Pending) (t : Token) → Back (from_body ∷ f) t (body_step f t)
back_body f (token.Keyword word.Body) = (refl, λ ps. ((ps.0, ps.1.1), refl))
back_body f t = tt

abbrev pub back_on_exit : (f : Pending) (t : Token) → Back (from_on_exit ∷ f) t (step (from_on_exit ∷ f) t)
back_on_exit f (token.Keyword word.OnExit) = (refl, λ ps. (((Some ps.0, ps.1.0), ps.1.1), refl))
back_on_exit f t = passed from_on_exit from_body f (λ p. (None, p)) (λ p rest. refl) t (body_step f t) (back_body f t)

abbrev pub back_on_poll : (f : Pending) (t : Token) → Back (from_on_poll ∷ f) t (step (from_on_poll ∷ f) t)
back_on_poll f (token.Keyword word.OnPoll) = (refl, λ ps. (((Some ps.0, ps.1.0), ps.1.1), refl))
back_on_poll f t = passed from_on_poll from_on_exit f (λ p. (None, p)) (λ p rest. refl) t (on_exit_step f t)
    (back_on_exit f t)

abbrev pub back_threads : (f : Pending) (t : Token) → Back (from_threads ∷ f) t (step (from_threads ∷ f) t)
back_threads f (token.Keyword word.Thread) = (refl, λ ps. (((ps.0 ∷ ps.1.0.0, ps.1.0.1), ps.1.1), refl))
back_threads f t = passed from_threads from_on_poll f (λ p. ([], p)) (λ p rest. refl) t (on_poll_step f t)
    (back_on_poll f t)

abbrev pub back_ctimers : (f : Pending) (t : Token) → Back (from_ctimers ∷ f) t (step (from_ctimers ∷ f) t)
back_ctimers f (token.Keyword word.Ctimer) = (refl, λ ps. ((((ps.0, ps.1.0) ∷ ps.1.1.0.0, ps.1.1.0.1), ps.1.1.1), refl))
back_ctimers f t = passed from_ctimers from_threads f (λ p. ([], p)) (λ p rest. refl) t (threads_step f t)
    (back_threads f t)

abbrev pub back_etimers : (f : Pending) (t : Token) → Back (from_etimers ∷ f) t (step (from_etimers ∷ f) t)
back_etimers f (token.Keyword word.Etimer) = (refl, λ ps. (((ps.0 ∷ ps.1.1.0.0, ps.1.1.0.1), ps.1.1.1), refl))
back_etimers f t = passed from_etimers from_ctimers f (λ p. ([], p)) (λ p rest. refl) t (ctimers_step f t)
    (back_ctimers f t)

abbrev pub back_variables : (f : Pending) (t : Token) → Back (from_variables ∷ f) t (step (from_variables ∷ f) t)
back_variables f (token.Keyword word.Var) =
    (refl, λ ps. ((((ps.0, ps.1.1.0) ∷ ps.1.1.1.1.0.0, ps.1.1.1.1.0.1), ps.1.1.1.1.1), refl))
back_variables f t = passed from_variables from_etimers f (λ p. ([], p)) (λ p rest. refl) t (etimers_step f t)
    (back_etimers f t)

abbrev pub code_from : FromVariables → CodeShape
code_from p = record {
  variables = p.0;
  etimers = p.1.0;
  ctimers = p.1.1.0;
  threads = p.1.1.1.0;
  on_poll = p.1.1.1.1.0;
  on_exit = p.1.1.1.1.1.0;
  body = p.1.1.1.1.1.1;
}

abbrev pub parts_of_code : CodeShape → FromVariables
parts_of_code c = (c.variables, (c.etimers, (c.ctimers, (c.threads, (c.on_poll, (c.on_exit, c.body))))))

abbrev pub back_codes : (x : Name) (xs : List Name) (f : Pending) (t : Token)
    → Back (codes x xs ∷ f) t (codes_step x xs f t)
back_codes x xs f (token.Keyword word.Code) = (
  refl,
  λ ps.
      let q = codes_split xs f ps.1.1.1 in (
        ((code_from ps.1.1.0, q.0), q.1),
        ap (λ ms. code_marks (x, code_from ps.1.1.0) ms)
            (codes_split_spelled xs f ps.1.1.1),
      ),
)
back_codes x xs f t = tt

abbrev pub back_receiver : (x : Name) (xs : List Name) (f : Pending) (t : Token)
    → Back (from_receiver x xs ∷ f) t (receiver_step x xs f t)
back_receiver x xs f (token.Keyword word.Receiver) = (refl, λ ps. (((Some ps.0, ps.1.1.0), ps.1.1.1), refl))
back_receiver x xs f t = passed (from_receiver x xs) (codes x xs) f (λ p. (None, p)) (λ p rest. refl) t
    (codes_step x xs f t) (back_codes x xs f t)

abbrev pub back_autostart : (x : Name) (xs : List Name) (f : Pending) (t : Token)
    → Back (from_autostart x xs ∷ f) t (step (from_autostart x xs ∷ f) t)
back_autostart x xs f (token.Keyword word.Autostart) = (refl, λ ps. (((ps.0 ∷ ps.1.0, ps.1.1.0), ps.1.1.1), refl))
back_autostart x xs f t = passed (from_autostart x xs) (from_receiver x xs) f (λ p. ([], p)) (λ p rest. refl) t
    (receiver_step x xs f t) (back_receiver x xs f t)

abbrev pub back_more : (x : Name) (xs : List Name) (y : Name) (f : Pending)
    (ps : Parts (from_comma x (xs ++ y ∷ []) ∷ f)) → (qs : Parts (more_process x xs ∷ f))
    × (spell_all (more_process x xs ∷ f) qs ≡ named y (new a_process y) ∷ spell_all (from_comma x (xs ++ y ∷ []) ∷ f)
    ps)
back_more x xs y f ps = (
  (
    ((y, last xs y ps.0.1.1.1.1), (ps.0.0, (ps.0.1.0, (ps.0.1.1.0, (ps.0.1.1.1.0, all_but_last xs y ps.0.1.1.1.1))))),
    ps.1,
  ),
  ap (λ ms. named y (new a_process y) ∷ process_marks ps.0.0
      (autostart_marks ps.0.1.0 (receiver_marks ps.0.1.1.0 (code_marks (x, ps.0.1.1.1.0) ms))))
      (last_spelled xs y ps.0.1.1.1.1 (codes_marks ps.0.0 (spell_all f ps.1))),
)

abbrev pub back_process : (f : Pending) (t : Token) → Back (from_semaphores ∷ f) t (process_step f t)
back_process f (token.Keyword word.Process) = (refl, λ ps. ((([], ps.0), ps.1), refl))
back_process f t = tt

abbrev pub back_semaphores : (f : Pending) (t : Token) → Back (from_semaphores ∷ f) t (semaphores_step f t)
back_semaphores f (token.Keyword word.Semaphore) =
    (refl, λ ps. ((((ps.0, ps.1.1.0) ∷ ps.1.1.1.1.0.0, ps.1.1.1.1.0.1), ps.1.1.1.1.1), refl))
back_semaphores f t = back_process f t

abbrev pub back_events : (f : Pending) (t : Token) → Back (from_events ∷ f) t (step (from_events ∷ f) t)
back_events f (token.Keyword word.Event) = (refl, λ ps. (((ps.0 ∷ ps.1.1.0.0, ps.1.1.0.1), ps.1.1.1), refl))
back_events f t = passed from_events from_semaphores f (λ p. ([], p)) (λ p rest. refl) t (semaphores_step f t)
    (back_semaphores f t)

abbrev pub back_this : (x : Name) (f : Pending) (y : Name) (b : Bool) → bytes_eq y x ≡ b
    → Back (this_name x ∷ f) (token.Name y) (if b then take (sign (token.Name y)) f else unexpected_token)
back_this x f y true e =
    (refl, λ ps. ((tt, ps), ap (λ z. sign (token.Name z) ∷ spell_all f ps) (sym (same_bytes y x e))))
back_this x f y false e = tt

abbrev pub back : (f : Pending) (t : Token) → Back f t (step f t)
back [] t = tt
back (semicolon ∷ f) token.Semicolon = (refl, λ ps. ((tt, ps), refl))
back (equals ∷ f) token.Equals = (refl, λ ps. ((tt, ps), refl))
back (open_sign ∷ f) token.Open = (refl, λ ps. ((tt, ps), refl))
back (close ∷ f) token.Close = (refl, λ ps. ((tt, ps), refl))
back (open_brace ∷ f) token.OpenBrace = (refl, λ ps. ((tt, ps), refl))
back (operator ∷ f) (token.Op o) = (refl, λ ps. ((o, ps), refl))
back (number_symbol ∷ f) (token.Number n) = (refl, λ ps. ((n, ps), refl))
back (operand c o ∷ f) t = back_operand c o f t
back (expression c ∷ f) t = back_expression c f t
back (into_end c ∷ f) token.Semicolon = (refl, λ ps. ((None, ps), refl))
back (into_end c ∷ f) (token.Keyword word.Into) = (refl, λ ps. ((Some ps.0, ps.1.1), refl))
back (block c ∷ f) token.OpenBrace = (refl, λ ps. (ps, refl))
back (items c ∷ f) t = back_items c f t
back (items_else c ∷ f) t = back_items_else c f t
back (new_name k ∷ f) (token.Name x) = (refl, λ ps. ((x, ps), refl))
back (new_thread ∷ f) (token.Name x) = (refl, λ ps. (((x, ps.0), ps.1), refl))
back (codes x xs ∷ f) t = back_codes x xs f t
back (this_name x ∷ f) (token.Name y) = back_this x f y (bytes_eq y x) refl
back (from_variables ∷ f) t = back_variables f t
back (from_etimers ∷ f) t = back_etimers f t
back (from_ctimers ∷ f) t = back_ctimers f t
back (from_threads ∷ f) t = back_threads f t
back (from_on_poll ∷ f) t = back_on_poll f t
back (from_on_exit ∷ f) t = back_on_exit f t
back (from_body ∷ f) t = back_body f t
back (last_brace ∷ f) token.CloseBrace = (refl, λ ps. ((tt, ps), refl))
back (from_events ∷ f) t = back_events f t
back (from_semaphores ∷ f) t = back_semaphores f t
back (first_process ∷ f) (token.Name x) =
    (refl, λ ps. ((((x, ps.0.1.1.1.0), (ps.0.0, (ps.0.1.0, ps.0.1.1.0))), ps.1), refl))
back (from_comma x xs ∷ f) token.Comma = (refl, λ ps. (((ps.0.0 ∷ ps.0.1.0, ps.0.1.1), ps.1), refl))
back (from_comma x xs ∷ f) token.Semicolon = (refl, λ ps. ((([], ps.0), ps.1), refl))
back (more_process x xs ∷ f) (token.Name y) = (refl, back_more x xs y f)
back (from_autostart x xs ∷ f) t = back_autostart x xs f t
back (from_receiver x xs ∷ f) t = back_receiver x xs f t
back (starting ∷ f) (token.Name x) = (refl, λ ps. ((x, ps), refl))
back (more_starting ∷ f) token.Comma = (refl, λ ps. ((ps.0 ∷ ps.1.0, ps.1.1), refl))
back (more_starting ∷ f) token.Semicolon = (refl, λ ps. (([], ps), refl))
back (s ∷ f) t = tt

-- In a program's marks, numbers have the role of numbers, and no `=` follows `!`.
use Rattle.std.proofs.Common.{List, [], ◌∷◌, Option, Some, None, refl}
use Rattle.program_tree.specs.Forms.{Operand, Form, ends, tells, takes, values}
use Rattle.program_tree.specs.EventNames.{BroadcastEvent, PostedEvent, TestedEvent}
use Rattle.program_tree.specs.Grammar.{Context, inner, at_body, at_simple, at_thread, Mark, tokens, sign, key, named}
use Rattle.program_tree.specs.Grammar.{new, leaving, cast_mark, sent_mark, any_mark, operand_mark, into_marks}
use Rattle.program_tree.specs.Grammar.{expression_marks, form_marks, action_marks, statement_marks, items_marks}
use Rattle.program_tree.specs.Grammar.{else_marks, block_marks, event_marks, semaphore_marks, variable_marks}
use Rattle.program_tree.specs.Grammar.{etimer_marks, ctimer_marks, thread_marks, handler_marks, body_marks}
use Rattle.program_tree.specs.Grammar.{content_marks, code_marks, codes_marks, starting_marks, autostart_marks}
use Rattle.program_tree.specs.Grammar.{receiver_marks, process_marks, program_marks}
use Rattle.program_tree.specs.Shapes.{Name, OperandShape, FormShape, Valued, Named, CodeShape, ProgramShape}
use Rattle.program_tree.specs.Tokens.{Token}
use Rattle.program_tree.specs.Tree.{a_process, a_timer, Expression, number, is, fired, expired, gone, running, count}
use Rattle.program_tree.specs.Tree.{negation, binary, Action, assign, print, send, wait_until, wait_while, yield}
use Rattle.program_tree.specs.Tree.{yield_until, restart, exit, pause, post, broadcast, synch, set, Statement, does}
use Rattle.program_tree.specs.Tree.{branch, while, Body, end, next, Otherwise, nothing, otherwise}
use Rattle.program_tree.specs.declared.keyword.Keyword.{Keyword}
use Rattle.program_tree.specs.Forms as form
use Rattle.program_tree.specs.EventNames as event
use Rattle.program_tree.specs.Tokens as token
use Rattle.program_tree.specs.declared.keyword.Keyword.TheVariants as word
use Rattle.mote_program.proofs.LexedAgain.{NoEquals}
use Rattle.mote_program.proofs.OwnTokens.{PlaysItsPart, AreFair}

-- a mark that is fair whatever follows it
abbrev IsFree : Mark → Type 0
IsFree m = PlaysItsPart m.token m.role × ((ts : List Token) → NoEquals m.token ts)

free : (m : Mark) (ms : List Mark) → IsFree m → AreFair ms → AreFair (m ∷ ms)
free m ms f h = (f.0, f.1 (tokens ms), h)

cast_free : (e : BroadcastEvent Name) → IsFree (cast_mark e)
cast_free event.continue = (tt, λ ts. tt)
cast_free e = (tt, λ ts. tt)

sent_free : (e : PostedEvent Name) → IsFree (sent_mark e)
sent_free (event.cast e) = cast_free e
sent_free event.exit = (tt, λ ts. tt)

any_free : (e : TestedEvent Name) → IsFree (any_mark e)
any_free (event.sent e) = sent_free e
any_free e = (tt, λ ts. tt)

operand_free : (c : Context) (o : Operand) (v : OperandShape o) → IsFree (operand_mark c o v)
operand_free c (form.name k) v = (tt, λ ts. tt)
operand_free c form.cast v = cast_free v
operand_free c form.sent v = sent_free v
operand_free c form.any v = any_free v

-- no expression begins with `=`
no_equals : (c : Context) (e : Expression Name) (ms : List Mark)
    → NoEquals token.Bang (tokens (expression_marks c e ms))
no_equals c (number n) ms = tt
no_equals c e ms = tt

expression_fair : (c : Context) (e : Expression Name) (ms : List Mark) → AreFair ms → AreFair (expression_marks c e ms)
expression_fair c (number n) ms h = (refl, tt, h)
expression_fair c (is e) ms h =
    let closed : AreFair (sign token.Close ∷ ms) = (tt, tt, h) in
    (tt, tt, (tt, tt, free (any_mark e) (sign token.Close ∷ ms) (any_free e) closed))
expression_fair c (negation e) ms h = (tt, no_equals (inner c) e ms, expression_fair (inner c) e ms h)
expression_fair c (binary o a b) ms h =
    let closed : AreFair (sign token.Close ∷ ms) = (tt, tt, h) in
    let right : AreFair (sign (token.Op o) ∷ expression_marks (inner c) b (sign token.Close ∷ ms)) =
    (tt, tt, expression_fair (inner c) b (sign token.Close ∷ ms) closed) in (
      tt,
      tt,
      expression_fair (inner c) a (sign (token.Op o) ∷ expression_marks (inner c) b (sign token.Close ∷ ms))
          right,
    )
expression_fair c (fired t) ms h = (tt, tt, (tt, tt, (tt, tt, (tt, tt, h))))
expression_fair c (expired t) ms h = (tt, tt, (tt, tt, (tt, tt, (tt, tt, h))))
expression_fair c (gone p) ms h = (tt, tt, (tt, tt, (tt, tt, (tt, tt, h))))
expression_fair c (running p) ms h = (tt, tt, (tt, tt, (tt, tt, (tt, tt, h))))
expression_fair c (count s) ms h = (tt, tt, (tt, tt, (tt, tt, (tt, tt, h))))
expression_fair c e ms h = (tt, tt, h)

into_fair : (i : Option Name) (ms : List Mark) → AreFair ms → AreFair (into_marks i ms)
into_fair None ms h = (tt, tt, h)
into_fair (Some x) ms h = (tt, tt, (tt, tt, (tt, tt, h)))

form_fair : (c : Context) (f : Form) (v : FormShape f) (ms : List Mark) → AreFair ms → AreFair (form_marks c f v ms)
form_fair c ends v ms h = (tt, tt, h)
form_fair c tells v ms h = into_fair v ms h
form_fair c (takes o f) v ms h = free (operand_mark c o v.0) (form_marks c f v.1 ms) (operand_free c o v.0)
    (form_fair c f v.1 ms h)
form_fair c (values f) v ms h = expression_fair c v.0 (form_marks c f v.1 ms) (form_fair c f v.1 ms h)

action_fair : (c : Context) (a : Action Name) (ms : List Mark) → AreFair ms → AreFair (action_marks c a ms)
action_fair c (assign x e) ms h =
    let ended : AreFair (sign token.Semicolon ∷ ms) = (tt, tt, h) in
    (tt, tt, (tt, tt, expression_fair c e (sign token.Semicolon ∷ ms) ended))
action_fair c (print e) ms h = (tt, tt, form_fair c (values ends) (e, tt) ms h)
action_fair c (send e) ms h = (tt, tt, form_fair c (values ends) (e, tt) ms h)
action_fair c (wait_until e) ms h = (tt, tt, form_fair c (values ends) (e, tt) ms h)
action_fair c (wait_while e) ms h = (tt, tt, form_fair c (values ends) (e, tt) ms h)
action_fair c (yield_until e) ms h = (tt, tt, form_fair c (values ends) (e, tt) ms h)
action_fair c (post p e w i) ms h = (
  tt,
  tt,
  form_fair c (takes (form.name a_process) (takes form.sent (values tells)))
      (p, (e, (w, i))) ms h,
)
action_fair c (broadcast e w i) ms h = (tt, tt, form_fair c (takes form.cast (values tells)) (e, (w, i)) ms h)
action_fair c (synch p e w) ms h = (
  tt,
  tt,
  form_fair c (takes (form.name a_process) (takes form.sent (values ends)))
      (p, (e, (w, tt))) ms h,
)
action_fair c (set t e) ms h = (tt, tt, form_fair c (takes (form.name a_timer) (values ends)) (t, (e, tt)) ms h)
action_fair c yield ms h = (tt, tt, (tt, tt, h))
action_fair c restart ms h = (tt, tt, (tt, tt, h))
action_fair c exit ms h = (tt, tt, (tt, tt, h))
action_fair c pause ms h = (tt, tt, (tt, tt, h))
action_fair c a ms h = (tt, tt, (tt, tt, (tt, tt, h)))

mutual
  statement_fair : (c : Context) (s : Statement Name) (ms : List Mark) → AreFair ms → AreFair (statement_marks c s ms)
  statement_fair c (does a) ms h = action_fair c a ms h
  statement_fair c (branch e a o) ms h =
      let block : AreFair (block_marks c a (else_marks c o ms)) =
      (tt, tt, items_fair (inner c) a (else_marks c o ms) (else_fair c o ms h)) in
      (tt, tt, expression_fair c e (block_marks c a (else_marks c o ms)) block)
  statement_fair c (while e a) ms h =
      let block : AreFair (block_marks c a ms) = (tt, tt, items_fair (inner c) a ms h) in
      (tt, tt, expression_fair c e (block_marks c a ms) block)

  items_fair : (c : Context) (b : Body Name) (ms : List Mark) → AreFair ms → AreFair (items_marks c b ms)
  items_fair c end ms h = (tt, tt, h)
  items_fair c (next s b) ms h = statement_fair c s (items_marks c b ms) (items_fair c b ms h)

  else_fair : (c : Context) (o : Otherwise Name) (ms : List Mark) → AreFair ms → AreFair (else_marks c o ms)
  else_fair c nothing ms h = h
  else_fair c (otherwise b) ms h = (tt, tt, (tt, tt, items_fair (inner c) b ms h))

block_fair : (c : Context) (b : Body Name) (ms : List Mark) → AreFair ms → AreFair (block_marks c b ms)
block_fair c b ms h = (tt, tt, items_fair (inner c) b ms h)

events_fair : (xs : List Name) (ms : List Mark) → AreFair ms → AreFair (event_marks xs ms)
events_fair [] ms h = h
events_fair (x ∷ xs) ms h = (tt, tt, (tt, tt, (tt, tt, events_fair xs ms h)))

etimers_fair : (xs : List Name) (ms : List Mark) → AreFair ms → AreFair (etimer_marks xs ms)
etimers_fair [] ms h = h
etimers_fair (x ∷ xs) ms h = (tt, tt, (tt, tt, (tt, tt, etimers_fair xs ms h)))

semaphores_fair : (vs : List Valued) (ms : List Mark) → AreFair ms → AreFair (semaphore_marks vs ms)
semaphores_fair [] ms h = h
semaphores_fair (v ∷ vs) ms h = (tt, tt, (tt, tt, (tt, tt, (refl, tt, (tt, tt, semaphores_fair vs ms h)))))

variables_fair : (vs : List Valued) (ms : List Mark) → AreFair ms → AreFair (variable_marks vs ms)
variables_fair [] ms h = h
variables_fair (v ∷ vs) ms h = (tt, tt, (tt, tt, (tt, tt, (refl, tt, (tt, tt, variables_fair vs ms h)))))

ctimers_fair : (bs : List Named) (ms : List Mark) → AreFair ms → AreFair (ctimer_marks bs ms)
ctimers_fair [] ms h = h
ctimers_fair (b ∷ bs) ms h = (tt, tt, (tt, tt, block_fair at_simple b.1 (ctimer_marks bs ms) (ctimers_fair bs ms h)))

threads_fair : (bs : List Named) (ms : List Mark) → AreFair ms → AreFair (thread_marks bs ms)
threads_fair [] ms h = h
threads_fair (b ∷ bs) ms h =
    (tt, tt, (tt, tt, block_fair (at_thread b.0) b.1 (thread_marks bs ms) (threads_fair bs ms h)))

handler_fair : (k : Keyword) (b : Option (Body Name)) (ms : List Mark) → AreFair ms → AreFair (handler_marks k b ms)
handler_fair k None ms h = h
handler_fair k (Some b) ms h = (tt, tt, block_fair at_simple b ms h)

code_fair : (p : Name × CodeShape) (ms : List Mark) → AreFair ms → AreFair (code_marks p ms)
code_fair p ms h =
    let last : AreFair (leaving ∷ ms) = (tt, tt, h) in
    let body : AreFair (body_marks p.1.body ms) = (tt, tt, block_fair at_body p.1.body (leaving ∷ ms) last) in
    let runs = handler_fair word.OnPoll p.1.on_poll (handler_marks word.OnExit p.1.on_exit (body_marks p.1.body ms))
    (handler_fair word.OnExit p.1.on_exit (body_marks p.1.body ms) body) in
    let content : AreFair (content_marks p.1 ms) =
    variables_fair p.1.variables (etimer_marks p.1.etimers
    (ctimer_marks p.1.ctimers (thread_marks p.1.threads
    (handler_marks word.OnPoll p.1.on_poll (handler_marks word.OnExit p.1.on_exit (body_marks p.1.body ms))))))
    (etimers_fair p.1.etimers (ctimer_marks p.1.ctimers
    (thread_marks p.1.threads (handler_marks word.OnPoll p.1.on_poll
    (handler_marks word.OnExit p.1.on_exit (body_marks p.1.body ms)))))
    (ctimers_fair p.1.ctimers (thread_marks p.1.threads
    (handler_marks word.OnPoll p.1.on_poll (handler_marks word.OnExit p.1.on_exit (body_marks p.1.body ms))))
    (threads_fair p.1.threads (handler_marks word.OnPoll p.1.on_poll
    (handler_marks word.OnExit p.1.on_exit (body_marks p.1.body ms))) runs))) in
    (tt, tt, (tt, tt, (tt, tt, content)))

codes_fair : (ps : List (Name × CodeShape)) (ms : List Mark) → AreFair ms → AreFair (codes_marks ps ms)
codes_fair [] ms h = h
codes_fair (p ∷ ps) ms h = code_fair p (codes_marks ps ms) (codes_fair ps ms h)

line_fair : (ps : List (Name × CodeShape)) (ms : List Mark) → AreFair ms → AreFair (process_marks ps ms)
line_fair [] ms h = (tt, tt, h)
line_fair (p ∷ ps) ms h = (tt, tt, (tt, tt, line_fair ps ms h))

starting_fair : (xs : List Name) (ms : List Mark) → AreFair ms → AreFair (starting_marks xs ms)
starting_fair [] ms h = (tt, tt, h)
starting_fair (x ∷ xs) ms h = (tt, tt, (tt, tt, starting_fair xs ms h))

autostart_fair : (xs : List Name) (ms : List Mark) → AreFair ms → AreFair (autostart_marks xs ms)
autostart_fair [] ms h = h
autostart_fair (x ∷ xs) ms h = (tt, tt, (tt, tt, starting_fair xs ms h))

receiver_fair : (r : Option Name) (ms : List Mark) → AreFair ms → AreFair (receiver_marks r ms)
receiver_fair None ms h = h
receiver_fair (Some x) ms h = (tt, tt, (tt, tt, (tt, tt, h)))

pub program_fair : (p : ProgramShape) → AreFair (program_marks p [])
program_fair p =
    let m4 : List Mark = codes_marks (p.first ∷ p.others) [] in
    let m3 : List Mark = receiver_marks p.receiver m4 in
    let m2 : List Mark = autostart_marks p.autostart m3 in
    let behind : AreFair m2 = autostart_fair p.autostart m3
    (receiver_fair p.receiver m4 (codes_fair (p.first ∷ p.others) [] tt)) in
    let line : AreFair (key word.Process ∷ named p.first.0 (new a_process p.first.0) ∷ process_marks p.others m2) =
    (tt, tt, (tt, tt, line_fair p.others m2 behind)) in
    events_fair p.events (semaphore_marks p.semaphores (key word.Process ∷ named p.first.0 (new a_process p.first.0)
    ∷ process_marks p.others m2)) (semaphores_fair p.semaphores
    (key word.Process ∷ named p.first.0 (new a_process p.first.0) ∷ process_marks p.others m2) line)

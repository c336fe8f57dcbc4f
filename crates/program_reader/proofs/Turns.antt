-- The marks of the remaining text begin with the one mark that the step has. So tokens have only one list of marks,
-- and marks have only one shape.
use Rattle.std.proofs.Common.{◌≡◌, List, [], ◌∷◌, ◌++◌, refl, sym, ap, subst, ◌∙◌, Bool, true, false, if◌then◌else◌}
use Rattle.std.proofs.Common.{Some, None}
use Rattle.std.specs.Str.{bytes_eq}
use Rattle.program_tree.specs.Forms.{Operand}
use Rattle.program_tree.specs.Grammar.{Context, Mark, sign, operand_mark, expression_marks, items_marks, code_marks}
use Rattle.program_tree.specs.Grammar.{codes_marks, process_marks, autostart_marks, receiver_marks, tokens}
use Rattle.program_reader.specs.Machine.{Pending, Step, unexpected_token, take, step, semicolon, equals, open_sign, close}
use Rattle.program_reader.specs.Machine.{open_brace, operator, number as number_symbol, operand, expression, into_end}
use Rattle.program_reader.specs.Machine.{block, items, items_else, new_name, new_thread, codes, this_name}
use Rattle.program_reader.specs.Machine.{from_variables, from_etimers, from_ctimers, from_threads, from_on_poll}
use Rattle.program_reader.specs.Machine.{from_on_exit, from_body, last_brace, from_events, from_semaphores}
use Rattle.program_reader.specs.Machine.{first_process, from_comma, more_process, from_autostart, from_receiver}
use Rattle.program_reader.specs.Machine.{starting, more_starting}
use Rattle.program_tree.specs.Shapes.{Name, OperandShape}
use Rattle.program_tree.specs.Tokens.{Token}
use Rattle.program_tree.specs.Tree.{Expression, number, variable, sender, moment, mote, is, fired, expired, gone}
use Rattle.program_tree.specs.Tree.{running, count, negation, binary, assign, print, send, wait_until, wait_while}
use Rattle.program_tree.specs.Tree.{yield, yield_until, spawn, restart, exit, pause, acquire, signal, post, broadcast}
use Rattle.program_tree.specs.Tree.{synch, poll, start, kill, set, reset, restart_timer, stop, does, branch, while}
use Rattle.program_tree.specs.Tree.{Body, end, next, nothing, otherwise}
use Rattle.program_tree.specs.EventNames as event
use Rattle.program_tree.specs.Forms as form
use Rattle.program_tree.specs.Tokens as token
use Rattle.program_tree.specs.Tree as tree
use Rattle.program_reader.proofs.Language.{Parts, spell_all, Back, back, back_this, CodesOf, Process, FromComma}
use Rattle.program_reader.proofs.Language.{codes_spelled, all_but_last, last, last_spelled, with_last, parts_of_code}
use Rattle.program_reader.proofs.Language.{more_spelled}
use Rattle.program_tree.proofs.NameLaws.{bytes_same}

-- a step forward: the marks begin with the mark that the step has, and continue with the marks of parts for its
-- symbols
abbrev pub On : Mark → List Mark → Step → Type 0
On m ms unexpected_token = ⊥
On m ms (take m' f') = (m' ≡ m) × (ps : Parts f') × (spell_all f' ps ≡ ms)

abbrev pub IsDone : Pending → Type 0
IsDone [] = Unit {0}
IsDone (s ∷ f) = ⊥

abbrev pub Forth : Pending → List Mark → Type 0
Forth f [] = IsDone f
Forth f (m ∷ ms) = On m ms (step f m.token)

-- the same, if a step back leads to the parts again
abbrev pub Again : (f : Pending) (m : Mark) → List Mark → Parts f → (s : Step) → Back f m.token s → Type 0
Again f m ms ps unexpected_token b = ⊥
Again f m ms ps (take m' f') b = (m' ≡ m) × (ps' : Parts f') × (spell_all f' ps' ≡ ms) × ((b.1 ps').0 ≡ ps)

abbrev pub Turns : (f : Pending) → Parts f → List Mark → Type 0
Turns f ps [] = IsDone f
Turns f ps (m ∷ ms) = Again f m ms ps (step f m.token) (back f m.token)

turns_operand : (c : Context) (o : Operand) (f : Pending) (v : OperandShape o) (ps : Parts f)
    → Turns (operand c o ∷ f) (v, ps) (operand_mark c o v ∷ spell_all f ps)
turns_operand c (form.name k) f v ps = (refl, ps, refl, refl)
turns_operand c form.cast f event.continue ps = (refl, ps, refl, refl)
turns_operand c form.cast f e ps = (refl, ps, refl, refl)
turns_operand c form.sent f (event.cast event.continue) ps = (refl, ps, refl, refl)
turns_operand c form.sent f (event.cast e) ps = (refl, ps, refl, refl)
turns_operand c form.sent f event.exit ps = (refl, ps, refl, refl)
turns_operand c form.any f (event.sent (event.cast event.continue)) ps = (refl, ps, refl, refl)
turns_operand c form.any f (event.sent (event.cast e)) ps = (refl, ps, refl, refl)
turns_operand c form.any f e ps = (refl, ps, refl, refl)

turns_expression : (c : Context) (f : Pending) (e : Expression Name) (ps : Parts f)
    → Turns (expression c ∷ f) (e, ps) (expression_marks c e (spell_all f ps))
turns_expression c f (number n) ps = (refl, ps, refl, refl)
turns_expression c f (variable x) ps = (refl, ps, refl, refl)
turns_expression c f tree.word ps = (refl, ps, refl, refl)
turns_expression c f sender ps = (refl, ps, refl, refl)
turns_expression c f moment ps = (refl, ps, refl, refl)
turns_expression c f mote ps = (refl, ps, refl, refl)
turns_expression c f (is e) ps = (refl, (tt, (e, (tt, ps))), refl, refl)
turns_expression c f (fired t) ps = (refl, (tt, (t, (tt, ps))), refl, refl)
turns_expression c f (expired t) ps = (refl, (tt, (t, (tt, ps))), refl, refl)
turns_expression c f (gone p) ps = (refl, (tt, (p, (tt, ps))), refl, refl)
turns_expression c f (running p) ps = (refl, (tt, (p, (tt, ps))), refl, refl)
turns_expression c f (count s) ps = (refl, (tt, (s, (tt, ps))), refl, refl)
turns_expression c f (negation e) ps = (refl, (e, ps), refl, refl)
turns_expression c f (binary o a b) ps = (refl, (a, (o, (b, (tt, ps)))), refl, refl)

turns_items : (c : Context) (f : Pending) (b : Body Name) (ps : Parts f)
    → Turns (items c ∷ f) (b, ps) (items_marks c b (spell_all f ps))
turns_items c f end ps = (refl, ps, refl, refl)
turns_items c f (next (does (assign x e)) b) ps = (refl, (tt, (e, (tt, (b, ps)))), refl, refl)
turns_items c f (next (does (print e)) b) ps = (refl, (e, (tt, (b, ps))), refl, refl)
turns_items c f (next (does (send e)) b) ps = (refl, (e, (tt, (b, ps))), refl, refl)
turns_items c f (next (does (wait_until e)) b) ps = (refl, (e, (tt, (b, ps))), refl, refl)
turns_items c f (next (does (wait_while e)) b) ps = (refl, (e, (tt, (b, ps))), refl, refl)
turns_items c f (next (does yield) b) ps = (refl, (tt, (b, ps)), refl, refl)
turns_items c f (next (does (yield_until e)) b) ps = (refl, (e, (tt, (b, ps))), refl, refl)
turns_items c f (next (does (spawn t)) b) ps = (refl, (t, (tt, (b, ps))), refl, refl)
turns_items c f (next (does restart) b) ps = (refl, (tt, (b, ps)), refl, refl)
turns_items c f (next (does exit) b) ps = (refl, (tt, (b, ps)), refl, refl)
turns_items c f (next (does pause) b) ps = (refl, (tt, (b, ps)), refl, refl)
turns_items c f (next (does (acquire s)) b) ps = (refl, (s, (tt, (b, ps))), refl, refl)
turns_items c f (next (does (signal s)) b) ps = (refl, (s, (tt, (b, ps))), refl, refl)
turns_items c f (next (does (post p e w i)) b) ps = (refl, (p, (e, (w, (i, (b, ps))))), refl, refl)
turns_items c f (next (does (broadcast e w i)) b) ps = (refl, (e, (w, (i, (b, ps)))), refl, refl)
turns_items c f (next (does (synch p e w)) b) ps = (refl, (p, (e, (w, (tt, (b, ps))))), refl, refl)
turns_items c f (next (does (poll p)) b) ps = (refl, (p, (tt, (b, ps))), refl, refl)
turns_items c f (next (does (start p)) b) ps = (refl, (p, (tt, (b, ps))), refl, refl)
turns_items c f (next (does (kill p)) b) ps = (refl, (p, (tt, (b, ps))), refl, refl)
turns_items c f (next (does (set t e)) b) ps = (refl, (t, (e, (tt, (b, ps)))), refl, refl)
turns_items c f (next (does (reset t)) b) ps = (refl, (t, (tt, (b, ps))), refl, refl)
turns_items c f (next (does (restart_timer t)) b) ps = (refl, (t, (tt, (b, ps))), refl, refl)
turns_items c f (next (does (stop t)) b) ps = (refl, (t, (tt, (b, ps))), refl, refl)
turns_items c f (next (branch e a o) b) ps = (refl, (e, (a, ((o, b), ps))), refl, refl)
turns_items c f (next (while e a) b) ps = (refl, (e, (a, (b, ps))), refl, refl)

turns_nothing : (c : Context) (f : Pending) (b : Body Name) (ps : Parts f)
    → Turns (items_else c ∷ f) ((nothing, b), ps) (items_marks c b (spell_all f ps))
turns_nothing c f end ps = (refl, ps, refl, refl)
turns_nothing c f (next (does (assign x e)) b) ps = (refl, (tt, (e, (tt, (b, ps)))), refl, refl)
turns_nothing c f (next (does (print e)) b) ps = (refl, (e, (tt, (b, ps))), refl, refl)
turns_nothing c f (next (does (send e)) b) ps = (refl, (e, (tt, (b, ps))), refl, refl)
turns_nothing c f (next (does (wait_until e)) b) ps = (refl, (e, (tt, (b, ps))), refl, refl)
turns_nothing c f (next (does (wait_while e)) b) ps = (refl, (e, (tt, (b, ps))), refl, refl)
turns_nothing c f (next (does yield) b) ps = (refl, (tt, (b, ps)), refl, refl)
turns_nothing c f (next (does (yield_until e)) b) ps = (refl, (e, (tt, (b, ps))), refl, refl)
turns_nothing c f (next (does (spawn t)) b) ps = (refl, (t, (tt, (b, ps))), refl, refl)
turns_nothing c f (next (does restart) b) ps = (refl, (tt, (b, ps)), refl, refl)
turns_nothing c f (next (does exit) b) ps = (refl, (tt, (b, ps)), refl, refl)
turns_nothing c f (next (does pause) b) ps = (refl, (tt, (b, ps)), refl, refl)
turns_nothing c f (next (does (acquire s)) b) ps = (refl, (s, (tt, (b, ps))), refl, refl)
turns_nothing c f (next (does (signal s)) b) ps = (refl, (s, (tt, (b, ps))), refl, refl)
turns_nothing c f (next (does (post p e w i)) b) ps = (refl, (p, (e, (w, (i, (b, ps))))), refl, refl)
turns_nothing c f (next (does (broadcast e w i)) b) ps = (refl, (e, (w, (i, (b, ps)))), refl, refl)
turns_nothing c f (next (does (synch p e w)) b) ps = (refl, (p, (e, (w, (tt, (b, ps))))), refl, refl)
turns_nothing c f (next (does (poll p)) b) ps = (refl, (p, (tt, (b, ps))), refl, refl)
turns_nothing c f (next (does (start p)) b) ps = (refl, (p, (tt, (b, ps))), refl, refl)
turns_nothing c f (next (does (kill p)) b) ps = (refl, (p, (tt, (b, ps))), refl, refl)
turns_nothing c f (next (does (set t e)) b) ps = (refl, (t, (e, (tt, (b, ps)))), refl, refl)
turns_nothing c f (next (does (reset t)) b) ps = (refl, (t, (tt, (b, ps))), refl, refl)
turns_nothing c f (next (does (restart_timer t)) b) ps = (refl, (t, (tt, (b, ps))), refl, refl)
turns_nothing c f (next (does (stop t)) b) ps = (refl, (t, (tt, (b, ps))), refl, refl)
turns_nothing c f (next (branch e a o) b) ps = (refl, (e, (a, ((o, b), ps))), refl, refl)
turns_nothing c f (next (while e a) b) ps = (refl, (e, (a, (b, ps))), refl, refl)

turns_this : (x : Name) (f : Pending) (ps : Parts (this_name x ∷ f)) (b : Bool) (e : bytes_eq x x ≡ b)
    → Again (this_name x ∷ f) (sign (token.Name x)) (spell_all f ps.1) ps (if b then take (sign (token.Name x)) f else
    unexpected_token) (back_this x f x b e)
turns_this x f ps true e = (refl, ps.1, refl, refl)
turns_this x f ps false e = absurd (cc (e, bytes_same x))

more_last : (x : Name) (xs : List Name) (n : Process) (p : FromComma xs) (f : Pending) (ps : Parts f)
    → (ds : CodesOf (xs ++ n.0 ∷ [])) × (all_but_last xs n.0 ds ≡ p.1.1.1.1) × (last xs n.0 ds ≡ n.1) →
    Turns (more_process x xs ∷ f) ((n, p), ps) (more_spelled x xs n p (spell_all f ps))
more_last x xs n p f ps q = (
  refl,
  ((p.0, (p.1.0, (p.1.1.0, (p.1.1.1.0, q.0)))), ps),
  ap (λ ms. process_marks p.0 (autostart_marks p.1.0 (receiver_marks p.1.1.0 (code_marks (x, p.1.1.1.0) ms))))
      (sym (last_spelled xs n.0 q.0 (codes_marks p.0 (spell_all f ps)))
      ∙ ap (λ cs. codes_spelled xs cs (code_marks (n.0, last xs n.0 q.0) (codes_marks p.0 (spell_all f ps)))) q.1
      ∙ ap (λ c. codes_spelled xs p.1.1.1.1 (code_marks (n.0, c) (codes_marks p.0 (spell_all f ps)))) q.2),
  ap (λ c. (((n.0, c), (p.0, (p.1.0, (p.1.1.0, (p.1.1.1.0, all_but_last xs n.0 q.0))))), ps)) q.2
      ∙ ap (λ cs. ((n, (p.0, (p.1.0, (p.1.1.0, (p.1.1.1.0, cs))))), ps)) q.1,
)

pub turns : (f : Pending) (ps : Parts f) → Turns f ps (spell_all f ps)
turns [] ps = tt
turns (semicolon ∷ f) ps = (refl, ps.1, refl, refl)
turns (equals ∷ f) ps = (refl, ps.1, refl, refl)
turns (open_sign ∷ f) ps = (refl, ps.1, refl, refl)
turns (close ∷ f) ps = (refl, ps.1, refl, refl)
turns (open_brace ∷ f) ps = (refl, ps.1, refl, refl)
turns (operator ∷ f) ps = (refl, ps.1, refl, refl)
turns (number_symbol ∷ f) ps = (refl, ps.1, refl, refl)
turns (last_brace ∷ f) ps = (refl, ps.1, refl, refl)
turns (operand c o ∷ f) ps = turns_operand c o f ps.0 ps.1
turns (expression c ∷ f) ps = turns_expression c f ps.0 ps.1
turns (into_end c ∷ f) (None, ps) = (refl, ps, refl, refl)
turns (into_end c ∷ f) (Some x, ps) = (refl, (x, (tt, ps)), refl, refl)
turns (block c ∷ f) ps = (refl, ps, refl, refl)
turns (items c ∷ f) ps = turns_items c f ps.0 ps.1
turns (items_else c ∷ f) ((nothing, b), ps) = turns_nothing c f b ps
turns (items_else c ∷ f) ((otherwise a, b), ps) = (refl, (a, (b, ps)), refl, refl)
turns (new_name k ∷ f) ps = (refl, ps.1, refl, refl)
turns (new_thread ∷ f) ps = (refl, (ps.0.1, ps.1), refl, refl)
turns (codes x [] ∷ f) ((c, cs), ps) = (refl, (tt, (tt, (parts_of_code c, ps))), refl, refl)
turns (codes x (y ∷ xs) ∷ f) ((c, cs), ps) = (refl, (tt, (tt, (parts_of_code c, (cs, ps)))), refl, refl)
turns (this_name x ∷ f) ps = turns_this x f ps (bytes_eq x x) refl
turns (from_variables ∷ f) ((v ∷ vs, p), ps) = (refl, (v.0, (tt, (v.1, (tt, ((vs, p), ps))))), refl, refl)
turns (from_variables ∷ f) (([], (x ∷ xs, p)), ps) = (refl, (x, (tt, ((xs, p), ps))), refl, refl)
turns (from_variables ∷ f) (([], ([], (t ∷ ts, p))), ps) = (refl, (t.0, (t.1, ((ts, p), ps))), refl, refl)
turns (from_variables ∷ f) (([], ([], ([], (t ∷ ts, p)))), ps) = (refl, (t, ((ts, p), ps)), refl, refl)
turns (from_variables ∷ f) (([], ([], ([], ([], (Some b, p))))), ps) = (refl, (b, (p, ps)), refl, refl)
turns (from_variables ∷ f) (([], ([], ([], ([], (None, (Some b, p)))))), ps) = (refl, (b, (p, ps)), refl, refl)
turns (from_variables ∷ f) (([], ([], ([], ([], (None, (None, b)))))), ps) = (refl, (b, (tt, ps)), refl, refl)
turns (from_etimers ∷ f) ((x ∷ xs, p), ps) = (refl, (x, (tt, ((xs, p), ps))), refl, refl)
turns (from_etimers ∷ f) (([], (t ∷ ts, p)), ps) = (refl, (t.0, (t.1, ((ts, p), ps))), refl, refl)
turns (from_etimers ∷ f) (([], ([], (t ∷ ts, p))), ps) = (refl, (t, ((ts, p), ps)), refl, refl)
turns (from_etimers ∷ f) (([], ([], ([], (Some b, p)))), ps) = (refl, (b, (p, ps)), refl, refl)
turns (from_etimers ∷ f) (([], ([], ([], (None, (Some b, p))))), ps) = (refl, (b, (p, ps)), refl, refl)
turns (from_etimers ∷ f) (([], ([], ([], (None, (None, b))))), ps) = (refl, (b, (tt, ps)), refl, refl)
turns (from_ctimers ∷ f) ((t ∷ ts, p), ps) = (refl, (t.0, (t.1, ((ts, p), ps))), refl, refl)
turns (from_ctimers ∷ f) (([], (t ∷ ts, p)), ps) = (refl, (t, ((ts, p), ps)), refl, refl)
turns (from_ctimers ∷ f) (([], ([], (Some b, p))), ps) = (refl, (b, (p, ps)), refl, refl)
turns (from_ctimers ∷ f) (([], ([], (None, (Some b, p)))), ps) = (refl, (b, (p, ps)), refl, refl)
turns (from_ctimers ∷ f) (([], ([], (None, (None, b)))), ps) = (refl, (b, (tt, ps)), refl, refl)
turns (from_threads ∷ f) ((t ∷ ts, p), ps) = (refl, (t, ((ts, p), ps)), refl, refl)
turns (from_threads ∷ f) (([], (Some b, p)), ps) = (refl, (b, (p, ps)), refl, refl)
turns (from_threads ∷ f) (([], (None, (Some b, p))), ps) = (refl, (b, (p, ps)), refl, refl)
turns (from_threads ∷ f) (([], (None, (None, b))), ps) = (refl, (b, (tt, ps)), refl, refl)
turns (from_on_poll ∷ f) ((Some b, p), ps) = (refl, (b, (p, ps)), refl, refl)
turns (from_on_poll ∷ f) ((None, (Some b, p)), ps) = (refl, (b, (p, ps)), refl, refl)
turns (from_on_poll ∷ f) ((None, (None, b)), ps) = (refl, (b, (tt, ps)), refl, refl)
turns (from_on_exit ∷ f) ((Some b, p), ps) = (refl, (b, (p, ps)), refl, refl)
turns (from_on_exit ∷ f) ((None, b), ps) = (refl, (b, (tt, ps)), refl, refl)
turns (from_body ∷ f) (b, ps) = (refl, (b, (tt, ps)), refl, refl)
turns (from_events ∷ f) ((x ∷ xs, p), ps) = (refl, (x, (tt, ((xs, p), ps))), refl, refl)
turns (from_events ∷ f) (([], (v ∷ vs, p)), ps) = (refl, (v.0, (tt, (v.1, (tt, ((vs, p), ps))))), refl, refl)
turns (from_events ∷ f) (([], ([], p)), ps) = (refl, (p, ps), refl, refl)
turns (from_semaphores ∷ f) ((v ∷ vs, p), ps) = (refl, (v.0, (tt, (v.1, (tt, ((vs, p), ps))))), refl, refl)
turns (from_semaphores ∷ f) (([], p), ps) = (refl, (p, ps), refl, refl)
turns (first_process ∷ f) (p, ps) = (refl, ((p.1.0, (p.1.1.0, (p.1.1.1, (p.0.1, tt)))), ps), refl, refl)
turns (from_comma x xs ∷ f) ((n ∷ others, p), ps) = (refl, ((n, (others, p)), ps), refl, refl)
turns (from_comma x xs ∷ f) (([], p), ps) = (refl, (p, ps), refl, refl)
turns (more_process x xs ∷ f) ((n, p), ps) = more_last x xs n p f ps (with_last xs n.0 p.1.1.1.1 n.1)
turns (from_autostart x xs ∷ f) ((y ∷ ys, p), ps) = (refl, (y, (ys, (p, ps))), refl, refl)
turns (from_autostart x xs ∷ f) (([], (Some y, p)), ps) = (refl, (y, (tt, (p, ps))), refl, refl)
turns (from_autostart x [] ∷ f) (([], (None, (c, cs))), ps) = (refl, (tt, (tt, (parts_of_code c, ps))), refl, refl)
turns (from_autostart x (z ∷ xs) ∷ f) (([], (None, (c, cs))), ps) =
    (refl, (tt, (tt, (parts_of_code c, (cs, ps)))), refl, refl)
turns (from_receiver x xs ∷ f) ((Some y, p), ps) = (refl, (y, (tt, (p, ps))), refl, refl)
turns (from_receiver x [] ∷ f) ((None, (c, cs)), ps) = (refl, (tt, (tt, (parts_of_code c, ps))), refl, refl)
turns (from_receiver x (z ∷ xs) ∷ f) ((None, (c, cs)), ps) = (refl, (tt, (tt, (parts_of_code c, (cs, ps)))), refl, refl)
turns (starting ∷ f) ps = (refl, ps.1, refl, refl)
turns (more_starting ∷ f) ([], ps) = (refl, ps, refl, refl)
turns (more_starting ∷ f) (x ∷ xs, ps) = (refl, (x, (xs, ps)), refl, refl)

weaker : (f : Pending) (m : Mark) (ms : List Mark) (ps : Parts f) (s : Step) (b : Back f m.token s)
    → Again f m ms ps s b → On m ms s
weaker f m ms ps unexpected_token b h = h
weaker f m ms ps (take m' f') b h = (h.0, h.1, h.2)

forth_at : (f : Pending) (ps : Parts f) (ms : List Mark) → Turns f ps ms → Forth f ms
forth_at f ps [] h = h
forth_at f ps (m ∷ ms) h = weaker f m ms ps (step f m.token) (back f m.token) h

pub forth : (f : Pending) (ps : Parts f) → Forth f (spell_all f ps)
forth f ps = forth_at f ps (spell_all f ps) (turns f ps)

both_same : (f : Pending) (m : Mark) (ms : List Mark) (ps qs : Parts f) (s : Step) (b : Back f m.token s) →
    ((g : Pending) (xs ys : Parts g) → spell_all g xs ≡ ms → spell_all g ys ≡ ms → xs ≡ ys) → Again f m ms ps s b
    → Again f m ms qs s b → ps ≡ qs
both_same f m ms ps qs unexpected_token b ih p q = absurd p
both_same f m ms ps qs (take m' f') b ih p q = sym p.3 ∙ ap (λ xs. (b.1 xs).0) (ih f' p.1 q.1 p.2 q.2) ∙ q.3

-- parts of the remaining text that have the same marks are the same
pub same_parts : (ms : List Mark) (f : Pending) (ps qs : Parts f) → spell_all f ps ≡ ms → spell_all f qs ≡ ms → ps ≡ qs
same_parts [] [] ps qs p q = refl
same_parts [] (s ∷ f) ps qs p q = absurd (subst (λ zs. Turns (s ∷ f) ps zs) p (turns (s ∷ f) ps))
same_parts (m ∷ ms) f ps qs p q =
    both_same f m ms ps qs (step f m.token) (back f m.token) (λ g xs ys. same_parts ms g xs ys)
    (subst (λ zs. Turns f ps zs) p (turns f ps)) (subst (λ zs. Turns f qs zs) q (turns f qs))

head_mark : (f : Pending) (m : Mark) (ms : List Mark) (ps : Parts f) (t : Token) (s : Step) → spell_all f ps ≡ m ∷ ms
    → m.token ≡ t → step f t ≡ s → On m ms s
head_mark f m ms ps t s e k h = subst (λ v. On m ms v) h
    (subst (λ v. On m ms (step f v)) k (subst (λ zs. Forth f zs) e (forth f ps)))

heads : (f : Pending) (m n : Mark) (ms ns : List Mark) (s : Step)
    → ((g : Pending) (xs ys : Parts g) → spell_all g xs ≡ ms → spell_all g ys ≡ ns → ms ≡ ns) → On m ms s → On n ns s
    → m ∷ ms ≡ n ∷ ns
heads f m n ms ns unexpected_token ih p q = absurd p
heads f m n ms ns (take m' f') ih p q = let a = ih f' p.1 q.1 p.2 q.2 in let b : m ≡ n = sym p.0 ∙ q.0 in cc (a, b)

-- tokens have only one list of marks
pub same_marks : (ms ns : List Mark) (f : Pending) (ps qs : Parts f) → spell_all f ps ≡ ms → spell_all f qs ≡ ns
    → tokens ms ≡ tokens ns → ms ≡ ns
same_marks [] [] f ps qs p q e = refl
same_marks [] (n ∷ ns) f ps qs p q e = absurd cc
same_marks (m ∷ ms) [] f ps qs p q e = absurd cc
same_marks (m ∷ ms) (n ∷ ns) f ps qs p q e =
    let t : m.token ≡ n.token = cc in
    let rest : tokens ms ≡ tokens ns = cc in
    heads f m n ms ns (step f n.token) (λ g xs ys a b. same_marks ms ns g xs ys a b rest)
    (head_mark f m ms ps n.token (step f n.token) p t refl) (head_mark f n ns qs n.token (step f n.token) q refl refl)

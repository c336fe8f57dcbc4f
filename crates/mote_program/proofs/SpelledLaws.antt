-- The tokens of a program's parts are those of its marks.
use Rattle.std.proofs.Common.{◌≡◌, ◌<◌, List, [], ◌∷◌, ◌++◌, map, length, drop, get_or, Option, Some, None, refl, ap}
use Rattle.std.proofs.Common.{sym, ◌∙◌, append_assoc, arith}
use Rattle.std.specs.List.{flat_map, zip}
use Rattle.std.proofs.Math.Logic.{∥∥₁_elim}
use Rattle.std.proofs.lemmas.List.{append-nil, length-map}
use Rattle.std.specs.Coded.{Coded-set, coded_list, coded_ℕ}
use Rattle.program_tree.specs.Canonical.{canonical_text}
use Rattle.program_tree.specs.Code.{Tree}
use Rattle.program_tree.specs.Grammar.{Context, inner, at_simple, at_thread, Mark, tokens, sign, into_marks}
use Rattle.program_tree.specs.Grammar.{expression_marks, action_marks, statement_marks, items_marks, else_marks}
use Rattle.program_tree.specs.Grammar.{block_marks, event_marks, semaphore_marks, variable_marks, etimer_marks}
use Rattle.program_tree.specs.Grammar.{ctimer_marks, thread_marks, handler_marks, body_marks, code_marks, codes_marks}
use Rattle.program_tree.specs.Grammar.{starting_marks, autostart_marks, receiver_marks, process_marks, program_marks}
use Rattle.program_tree.specs.Numbers.{named_of, codes_of, program_names}
use Rattle.program_tree.specs.Made.{IsOfText, WasRead}
use Rattle.program_tree.specs.ShapeOf.{names_of_tree, code_shape, codes_of_tree, no_code, shape_of, tokens_of_tree}
use Rattle.program_tree.specs.ShapeOf.{text_of_tree}
use Rattle.program_tree.specs.Shapes.{Name, Valued, Named, CodeShape, ProgramShape}
use Rattle.program_tree.specs.Tree.{Expression, negation, binary, Action, assign, print, send, wait_until, wait_while}
use Rattle.program_tree.specs.Tree.{yield_until, post, broadcast, synch, set, Statement, does, branch, while, Body}
use Rattle.program_tree.specs.Tree.{end, next, Otherwise, nothing, otherwise}
use Rattle.program_tree.specs.declared.keyword.Keyword.{Keyword}
use Rattle.program_tree.specs.Tokens as token
use Rattle.program_tree.specs.declared.keyword.Keyword.TheVariants as word
use Rattle.mote_program.specs.Spelled.{cast_token, sent_token, expression_tokens, into_tokens, action_tokens}
use Rattle.mote_program.specs.Spelled.{statement_tokens, items_tokens, else_tokens, listed_tokens, valued_tokens}
use Rattle.mote_program.specs.Spelled.{named_tokens, handler_tokens, declared_tokens, runs_tokens, code_tokens}
use Rattle.mote_program.specs.Spelled.{comma_tokens, autostart_tokens, receiver_tokens, head_tokens, spelled_tokens}
use Rattle.program_tree.proofs.CountLaws.{length-codes_in}
use Rattle.program_tree.specs.Grammar.{key, named, new}
use Rattle.program_tree.specs.Tree.{a_process}
use Rattle.program_tree.specs.Tokens.{Token}

pub expression_spelled : (c : Context) (e : Expression Name) (ms : List Mark) → tokens (expression_marks c e ms)
    ≡ expression_tokens e ++ tokens ms
expression_spelled c (negation e) ms = ap (λ ts. token.Bang ∷ ts) (expression_spelled (inner c) e ms)
expression_spelled c (binary o a b) ms =
    rw (
      expression_spelled (inner c) a (sign (token.Op o) ∷ expression_marks (inner c) b (sign token.Close ∷ ms)),
      expression_spelled (inner c) b (sign token.Close ∷ ms),
    ) (simp append_assoc)
expression_spelled c e ms = refl

into_spelled : (i : Option Name) (ms : List Mark) → tokens (into_marks i ms) ≡ into_tokens i ++ tokens ms
into_spelled None ms = refl
into_spelled (Some x) ms = refl

ended : (c : Context) (e : Expression Name) (ms : List Mark)
    → tokens (expression_marks c e (sign token.Semicolon ∷ ms)) ≡ (expression_tokens e ++ (token.Semicolon ∷ []))
    ++ tokens ms
ended c e ms = simp (expression_spelled, append_assoc)

answer_end : (c : Context) (e : Expression Name) (i : Option Name) (ms : List Mark)
    → tokens (expression_marks c e (into_marks i ms)) ≡ (expression_tokens e ++ into_tokens i) ++ tokens ms
answer_end c e i ms = simp (expression_spelled, into_spelled, append_assoc)

action_spelled : (c : Context) (a : Action Name) (ms : List Mark) → tokens (action_marks c a ms) ≡ action_tokens a
    ++ tokens ms
action_spelled c (assign x e) ms = ap (λ ts. token.Name x ∷ token.Equals ∷ ts) (ended c e ms)
action_spelled c (print e) ms = ap (λ ts. token.Keyword word.Print ∷ ts) (ended c e ms)
action_spelled c (send e) ms = ap (λ ts. token.Keyword word.Send ∷ ts) (ended c e ms)
action_spelled c (wait_until e) ms = ap (λ ts. token.Keyword word.WaitUntil ∷ ts) (ended c e ms)
action_spelled c (wait_while e) ms = ap (λ ts. token.Keyword word.WaitWhile ∷ ts) (ended c e ms)
action_spelled c (yield_until e) ms = ap (λ ts. token.Keyword word.YieldUntil ∷ ts) (ended c e ms)
action_spelled c (post p e w i) ms = ap (λ ts. token.Keyword word.Post ∷ token.Name p ∷ sent_token e ∷ ts)
    (answer_end c w i ms)
action_spelled c (broadcast e w i) ms = ap (λ ts. token.Keyword word.Broadcast ∷ cast_token e ∷ ts) (answer_end c w i ms)
action_spelled c (synch p e w) ms = ap (λ ts. token.Keyword word.Synch ∷ token.Name p ∷ sent_token e ∷ ts)
    (ended c w ms)
action_spelled c (set t e) ms = ap (λ ts. token.Keyword word.Set ∷ token.Name t ∷ ts) (ended c e ms)
action_spelled c a ms = refl

mutual
  statement_spelled : (c : Context) (s : Statement Name) (ms : List Mark) → tokens (statement_marks c s ms)
      ≡ statement_tokens s ++ tokens ms
  statement_spelled c (does a) ms = action_spelled c a ms
  statement_spelled c (branch e a o) ms =
      rw (
        expression_spelled c e (block_marks c a (else_marks c o ms)),
        items_spelled (inner c) a (else_marks c o ms),
        else_spelled c o ms,
      ) (simp append_assoc)
  statement_spelled c (while e a) ms =
      rw (expression_spelled c e (block_marks c a ms), items_spelled (inner c) a ms) (simp append_assoc)

  items_spelled : (c : Context) (b : Body Name) (ms : List Mark) → tokens (items_marks c b ms) ≡ items_tokens b
      ++ tokens ms
  items_spelled c end ms = refl
  items_spelled c (next s b) ms =
      rw (statement_spelled c s (items_marks c b ms), items_spelled c b ms) (simp append_assoc)

  else_spelled : (c : Context) (o : Otherwise Name) (ms : List Mark) → tokens (else_marks c o ms) ≡ else_tokens o
      ++ tokens ms
  else_spelled c nothing ms = refl
  else_spelled c (otherwise b) ms = ap (λ ts. token.Keyword word.Else ∷ token.OpenBrace ∷ ts)
      (items_spelled (inner c) b ms)

events_spelled : (xs : List Name) (ms : List Mark) → tokens (event_marks xs ms) ≡ flat_map (listed_tokens word.Event)
    xs ++ tokens ms
events_spelled [] ms = refl
events_spelled (x ∷ xs) ms = ap (λ ts. token.Keyword word.Event ∷ token.Name x ∷ token.Semicolon ∷ ts)
    (events_spelled xs ms)

etimers_spelled : (xs : List Name) (ms : List Mark)
    → tokens (etimer_marks xs ms) ≡ flat_map (listed_tokens word.Etimer) xs ++ tokens ms
etimers_spelled [] ms = refl
etimers_spelled (x ∷ xs) ms = ap (λ ts. token.Keyword word.Etimer ∷ token.Name x ∷ token.Semicolon ∷ ts)
    (etimers_spelled xs ms)

semaphores_spelled : (vs : List Valued) (ms : List Mark) → tokens (semaphore_marks vs ms)
    ≡ flat_map (valued_tokens word.Semaphore) vs ++ tokens ms
semaphores_spelled [] ms = refl
semaphores_spelled (v ∷ vs) ms = ap (λ ts. token.Keyword word.Semaphore ∷ token.Name v.0 ∷ token.Equals ∷ token.Number
    v.1 ∷ token.Semicolon ∷ ts) (semaphores_spelled vs ms)

variables_spelled : (vs : List Valued) (ms : List Mark) → tokens (variable_marks vs ms)
    ≡ flat_map (valued_tokens word.Var) vs ++ tokens ms
variables_spelled [] ms = refl
variables_spelled (v ∷ vs) ms = ap (λ ts. token.Keyword word.Var ∷ token.Name v.0 ∷ token.Equals ∷ token.Number v.1
    ∷ token.Semicolon ∷ ts) (variables_spelled vs ms)

ctimers_spelled : (bs : List Named) (ms : List Mark)
    → tokens (ctimer_marks bs ms) ≡ flat_map (named_tokens word.Ctimer) bs ++ tokens ms
ctimers_spelled [] ms = refl
ctimers_spelled (b ∷ bs) ms =
    rw (items_spelled (inner at_simple) b.1 (ctimer_marks bs ms), ctimers_spelled bs ms) (simp append_assoc)

threads_spelled : (bs : List Named) (ms : List Mark)
    → tokens (thread_marks bs ms) ≡ flat_map (named_tokens word.Thread) bs ++ tokens ms
threads_spelled [] ms = refl
threads_spelled (b ∷ bs) ms =
    rw (items_spelled (inner (at_thread b.0)) b.1 (thread_marks bs ms), threads_spelled bs ms) (simp append_assoc)

handler_spelled : (k : Keyword) (b : Option (Body Name)) (ms : List Mark) → tokens (handler_marks k b ms)
    ≡ handler_tokens k b ++ tokens ms
handler_spelled k None ms = refl
handler_spelled k (Some b) ms = ap (λ ts. token.Keyword k ∷ token.OpenBrace ∷ ts) (items_spelled (inner at_simple) b ms)

body_spelled : (b : Body Name) (ms : List Mark)
    → tokens (body_marks b ms) ≡ (token.Keyword word.Body
    ∷ ((token.OpenBrace ∷ items_tokens b) ++ (token.CloseBrace ∷ []))) ++ tokens ms
body_spelled b ms = simp (items_spelled, append_assoc)

runs_spelled : (c : CodeShape) (ms : List Mark)
    → tokens (handler_marks word.OnPoll c.on_poll (handler_marks word.OnExit c.on_exit (body_marks c.body ms)))
    ≡ runs_tokens c ++ tokens ms
runs_spelled c ms = simp (handler_spelled, body_spelled, append_assoc)

declared_spelled : (c : CodeShape) (ms : List Mark)
    → tokens (variable_marks c.variables (etimer_marks c.etimers (ctimer_marks c.ctimers (thread_marks c.threads ms))))
    ≡ declared_tokens c ++ tokens ms
declared_spelled c ms =
    simp (variables_spelled, etimers_spelled, ctimers_spelled, threads_spelled, append_assoc)

code_spelled : (p : Name × CodeShape) (ms : List Mark) → tokens (code_marks p ms) ≡ code_tokens p ++ tokens ms
code_spelled p ms =
    rw (
      declared_spelled p.1 (handler_marks word.OnPoll p.1.on_poll
          (handler_marks word.OnExit p.1.on_exit (body_marks p.1.body ms))),
      runs_spelled p.1 ms,
    ) (simp append_assoc)

codes_spelled : (ps : List (Name × CodeShape)) (ms : List Mark) → tokens (codes_marks ps ms) ≡ flat_map code_tokens ps
    ++ tokens ms
codes_spelled [] ms = refl
codes_spelled (p ∷ ps) ms = code_spelled p (codes_marks ps ms) ∙ ap (λ ts. code_tokens p ++ ts) (codes_spelled ps ms)
    ∙ sym (append_assoc (code_tokens p) (flat_map code_tokens ps) (tokens ms))

line_spelled : (ps : List (Name × CodeShape)) (ms : List Mark)
    → tokens (process_marks ps ms) ≡ (flat_map comma_tokens (named_of ps) ++ (token.Semicolon ∷ [])) ++ tokens ms
line_spelled [] ms = refl
line_spelled (p ∷ ps) ms = ap (λ ts. token.Comma ∷ token.Name p.0 ∷ ts) (line_spelled ps ms)

starting_spelled : (xs : List Name) (ms : List Mark) → tokens (starting_marks xs ms)
    ≡ (flat_map comma_tokens xs ++ (token.Semicolon ∷ [])) ++ tokens ms
starting_spelled [] ms = refl
starting_spelled (x ∷ xs) ms = ap (λ ts. token.Comma ∷ token.Name x ∷ ts) (starting_spelled xs ms)

autostart_spelled : (xs : List Name) (ms : List Mark) → tokens (autostart_marks xs ms) ≡ autostart_tokens xs
    ++ tokens ms
autostart_spelled [] ms = refl
autostart_spelled (x ∷ xs) ms = ap (λ ts. token.Keyword word.Autostart ∷ token.Name x ∷ ts) (starting_spelled xs ms)

receiver_spelled : (r : Option Name) (ms : List Mark) → tokens (receiver_marks r ms) ≡ receiver_tokens r ++ tokens ms
receiver_spelled None ms = refl
receiver_spelled (Some x) ms = refl

-- the tokens of a program whose process line has these names
program_spelled : (p : ProgramShape) (names : List Name) → names ≡ p.first.0 ∷ named_of p.others
    → tokens (program_marks p []) ≡ head_tokens p.events p.semaphores names p.autostart p.receiver
    ++ flat_map code_tokens (p.first ∷ p.others)
program_spelled p names same =
    let m4 : List Mark = codes_marks (p.first ∷ p.others) [] in
    let m3 : List Mark = receiver_marks p.receiver m4 in
    let m2 : List Mark = autostart_marks p.autostart m3 in
    let k : List Token = flat_map code_tokens (p.first ∷ p.others) in
    let r : List Token = receiver_tokens p.receiver in
    let a : List Token = autostart_tokens p.autostart in
    let l : List Token = flat_map comma_tokens (named_of p.others) ++ (token.Semicolon ∷ []) in
    let s : List Token = flat_map (valued_tokens word.Semaphore) p.semaphores in
    let e : List Token = flat_map (listed_tokens word.Event) p.events in
    let m1 : List Mark = key word.Process ∷ named p.first.0 (new a_process p.first.0) ∷ process_marks p.others m2 in
    let codes : tokens m4 ≡ k = codes_spelled (p.first ∷ p.others) [] ∙ append-nil k in
    let after : tokens m2 ≡ (a ++ r) ++ k = autostart_spelled p.autostart m3
    ∙ ap (λ ts. a ++ ts) (receiver_spelled p.receiver m4 ∙ ap (λ ts. r ++ ts) codes) ∙ sym (append_assoc a r k) in
    let line : tokens (process_marks p.others m2) ≡ (l ++ (a ++ r)) ++ k =
    line_spelled p.others m2 ∙ ap (λ ts. l ++ ts) after ∙ sym (append_assoc l (a ++ r) k) in
    let first : List Token → List Token = λ ts. token.Keyword word.Process ∷ token.Name p.first.0 ∷ ts in
    events_spelled p.events (semaphore_marks p.semaphores m1)
    ∙ ap (λ ts. e ++ ts) (semaphores_spelled p.semaphores m1 ∙ ap (λ ts. s ++ first ts) line
    ∙ sym (append_assoc s (first (l ++ (a ++ r))) k))
    ∙ sym (append_assoc e (s ++ first (l ++ (a ++ r))) k)
    ∙ ap (λ ns. head_tokens p.events p.semaphores ns p.autostart p.receiver ++ k) (sym same)

head_tail : {A : Type 0} (zs : List A) (d : A) → 0 < length zs → get_or zs 0 d ∷ drop 1 zs ≡ zs
head_tail [] d h = absurd (omega arith)
head_tail (z ∷ zs) d h = refl

zip_some : {X Y : Type 0} (xs : List X) (ys : List Y) → 0 < length xs → 0 < length ys → 0 < length (zip xs ys)
zip_some [] ys h k = absurd (omega arith)
zip_some (x ∷ xs) [] h k = absurd (omega arith)
zip_some (x ∷ xs) (y ∷ ys) h k = omega arith

-- a tree that was read has a process
some_process : (t : Tree) → IsOfText t → 0 < length t.processes
some_process t w = omega (arith, ap (λ (z : Tree). length z.processes) w.numbered)

some_code : (t : Tree) → IsOfText t → 0 < length t.codes
some_code t w =
    omega (
      arith,
      ap (λ (z : Tree). length z.codes) w.numbered,
      length-codes_in 0 (program_names (shape_of t))
          (codes_of (shape_of t)),
    )

line_is : (t : Tree) → IsOfText t → t.processes ≡ (shape_of t).first.0 ∷ named_of (shape_of t).others
line_is t w = ap (λ (z : Tree). z.processes) w.numbered

pub tree_spelled : (t : Tree) → IsOfText t → tokens_of_tree t ≡ spelled_tokens t
tree_spelled t w =
    program_spelled (shape_of t) t.processes (line_is t w)
    ∙ ap (λ ps. head_tokens t.events (shape_of t).semaphores t.processes (shape_of t).autostart (shape_of t).receiver
    ++ flat_map code_tokens ps)
    (head_tail (codes_of_tree t) no_code (zip_some t.processes (map (code_shape (names_of_tree t)) t.codes)
    (some_process t w) (omega (arith, some_code t w, length-map t.codes (code_shape (names_of_tree t))))))

-- the text is the same
pub text_spelled : (t : Tree) → WasRead t → canonical_text (spelled_tokens t) ≡ text_of_tree t
text_spelled t w = ∥∥₁_elim w (Coded-set (coded_list coded_ℕ) (canonical_text (spelled_tokens t)) (text_of_tree t))
    (λ r. ap canonical_text (sym (tree_spelled t r)))

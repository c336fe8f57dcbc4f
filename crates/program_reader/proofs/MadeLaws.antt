-- The text of a process, made from the parts of its code that were read.
use Rattle.std.proofs.Common.{◌≡◌, ℕ, ◌+◌, List, [], ◌∷◌, ◌++◌, length, map, Option, Some, None, option_map, refl, ap}
use Rattle.std.proofs.Common.{sym, subst, ◌∙◌, ◌≤◌, arith}
use Rattle.std.proofs.lemmas.List.{length-append, length-map}
use Rattle.std.specs.List.{zip}
use Rattle.program_tree.specs.Code.{Code}
use Rattle.program_reader.specs.CodeParts.{written, all_written, AllNumbered, MaybeNumbered, with_own, ReadsOpening}
use Rattle.program_reader.specs.CodeParts.{ReadsContent, ReadsCode}
use Rattle.program_tree.specs.Faults.{Scope}
use Rattle.program_tree.specs.Grammar.{leaving}
use Rattle.program_reader.specs.Head.{with_names}
use Rattle.program_tree.specs.InScope.{NamesInScope, outside}
use Rattle.program_reader.specs.Machine.{Pending, tell, codes_form, last_brace}
use Rattle.program_tree.specs.Numbers.{named_of, values_of, block_in, inside, code_in}
use Rattle.program_tree.specs.ShapeOf.{code_shape}
use Rattle.program_tree.specs.Shapes.{Name, Valued, CodeShape}
use Rattle.program_tree.specs.Tokens.{Token}
use Rattle.program_tree.specs.Tree.{Body}
use Rattle.program_tree.specs.Tokens as token
use Rattle.program_tree.specs.declared.keyword.Keyword.TheVariants as word
use Rattle.program_reader.proofs.ExtendLaws.{extends_itself}

named_again : (n : NamesInScope) (items : List (Name × (Body ℕ))) → named_of (all_written n items) ≡ named_of items
named_again n [] = refl
named_again n (p ∷ ps) = ap (λ z. p.0 ∷ z) (named_again n ps)

all_again : (n : NamesInScope) (items : List (Name × (Body ℕ))) (trees : List (Body ℕ)) → trees ≡ values_of items
    → AllNumbered n trees → map (block_in n) (values_of (all_written n items)) ≡ trees
all_again n items trees e h = go items (subst (λ z. AllNumbered n z) e h) ∙ sym e
  where
    go : (ps : List (Name × (Body ℕ))) → AllNumbered n (values_of ps) → map (block_in n) (values_of (all_written n ps))
        ≡ values_of ps
    go [] k = refl
    go (p ∷ ps) k = ap (λ z. z ∷ map (block_in n) (values_of (all_written n ps))) (k.0 n (extends_itself n))
        ∙ ap (λ z. p.1 ∷ z) (go ps k.1)

maybe_again : (n : NamesInScope) (b : Option (Body ℕ)) → MaybeNumbered n b
    → option_map (block_in n) (option_map (written n) b) ≡ b
maybe_again n None h = refl
maybe_again n (Some b) h = ap Some (h n (extends_itself n))

-- the shape of a code
abbrev shape_from : NamesInScope → List Valued → List Name → List (Name × (Body ℕ)) → List (Name × (Body ℕ))
    → (on_poll on_exit : Option (Body ℕ)) → Body ℕ → CodeShape
shape_from n vs es cs ts on_poll on_exit body = record {
  variables = vs;
  etimers = es;
  ctimers = all_written n cs;
  threads = all_written n ts;
  on_poll = option_map (written n) on_poll;
  on_exit = option_map (written n) on_exit;
  body = written n body;
}

abbrev pub made : (process first_timer : ℕ) (variables : List Name) (starts : List ℕ) (es cs : List Name)
    (callbacks : List (Body ℕ)) (threads : List Name) (thread_bodies : List (Body ℕ))
    (on_poll on_exit : Option (Body ℕ)) (body : Body ℕ) → Code
made process first_timer variables starts es cs callbacks threads thread_bodies on_poll on_exit body = record {
  number = process;
  variables = variables;
  starts = starts;
  first_timer = first_timer;
  etimers = es;
  ctimers = cs;
  callbacks = callbacks;
  threads = threads;
  thread_bodies = thread_bodies;
  on_poll = on_poll;
  on_exit = on_exit;
  body = body;
}

pub same_made : {k f f' : ℕ} {v v' : List Name} {starts : List ℕ} {e e' c c' : List Name} {callbacks : List (Body ℕ)}
    {t t' : List Name} {thread_bodies : List (Body ℕ)} {on_poll on_exit : Option (Body ℕ)} {body : Body ℕ} → v ≡ v'
    → f ≡ f' → e ≡ e' → c ≡ c' → t ≡ t'
    → made k f v starts e c callbacks t thread_bodies on_poll on_exit body ≡ made k f' v' starts e' c' callbacks t'
    thread_bodies on_poll on_exit body
same_made hv hf he hc ht = cc

-- a list of pairs, split into names and values, and zipped again
pub zipped : {T : Type 0} (ps : List (Name × T)) → zip (named_of ps) (values_of ps) ≡ ps
zipped [] = refl
zipped (p ∷ ps) = ap (λ z. p ∷ z) (zipped ps)

zipped_written : (n : NamesInScope) (ps : List (Name × (Body ℕ))) → zip (named_of ps) (map (written n) (values_of ps))
    ≡ all_written n ps
zipped_written n [] = refl
zipped_written n (p ∷ ps) = ap (λ z. (p.0, written n p.1) ∷ z) (zipped_written n ps)

-- a shape is the shape of its code, with the names put back
names_put_back : (n m : NamesInScope) (k : ℕ) (vs : List Valued) (es : List Name) (cs ts : List (Name × (Body ℕ)))
    (on_poll on_exit : Option (Body ℕ)) (body : Body ℕ)
    → m ≡ with_own n (named_of vs) (es ++ named_of cs) (named_of ts)
    → shape_from m vs es cs ts on_poll on_exit body
    ≡ code_shape n (made k m.first_timer (named_of vs) (values_of vs) es (named_of cs) (values_of cs) (named_of ts)
    (values_of ts) on_poll on_exit body)
names_put_back n m k vs es cs ts on_poll on_exit body e =
    let w : NamesInScope = with_own n (named_of vs) (es ++ named_of cs) (named_of ts) in
    rw e (cc (zipped vs, zipped_written w cs, zipped_written w ts))

pub code_read : (x : Name) (k : ℕ) (code : Code) (es cs : List Name) (starts : List ℕ)
    (callbacks thread_bodies : List (Body ℕ)) (on_poll on_exit : Option (Body ℕ)) (body : Body ℕ) (s s' s'' : Scope)
    (t0 t1 t2 new : List Token)
    → ReadsOpening x s t0 t1 → ReadsContent es cs starts callbacks thread_bodies on_poll on_exit body s s' t1 t2
    → t2 ≡ token.CloseBrace ∷ new → ((f : Pending)
    → tell s' (last_brace ∷ f) t2 ≡ tell (with_names s' (outside s'.names)) f new)
    → s'' ≡ with_names s' (outside s'.names) → code ≡ made k s'.names.first_timer s'.names.variables starts es cs
    callbacks s'.names.threads thread_bodies on_poll on_exit body
    → ReadsCode x k code s s'' t0 new
code_read x k code es cs starts callbacks thread_bodies on_poll on_exit body s s' s'' t0 t1 t2 new o r split last left
    is =
    let shape = shape_from s'.names r.variables r.etimers r.ctimers r.threads on_poll on_exit body in
    let full : s'.names ≡ inside s.names shape =
    r.names ∙ ap (λ z. with_own s.names (named_of r.variables) (r.etimers ++ z) (named_of r.threads))
    (sym (named_again s'.names r.ctimers))
    ∙ ap (λ z. with_own s.names (named_of r.variables) (r.etimers ++ named_of (all_written s'.names r.ctimers)) z)
    (sym (named_again s'.names r.threads)) in
    let same : made k s'.names.first_timer s'.names.variables starts es cs callbacks s'.names.threads thread_bodies
    on_poll on_exit body ≡ code_in k s'.names shape =
    cc (
      ap (λ (n : NamesInScope). n.variables) full,
      ap (λ (n : NamesInScope). n.threads) full,
      r.started,
      r.first_timers,
      r.last_timers,
      named_again s'.names r.ctimers,
      all_again s'.names r.ctimers callbacks r.called r.callbacks_numbered,
      all_again s'.names r.threads thread_bodies r.threaded r.threads_numbered,
      maybe_again s'.names on_poll r.on_poll_numbered,
      maybe_again s'.names on_exit r.on_exit_numbered,
      r.body_numbered s'.names (extends_itself s'.names),
    ) in
    let bare : code ≡ made k s'.names.first_timer (named_of r.variables) (values_of r.variables) r.etimers
    (named_of r.ctimers) (values_of r.ctimers) (named_of r.threads) (values_of r.threads) on_poll on_exit body =
    cc (
      is,
      ap (λ (n : NamesInScope). n.variables) r.names,
      ap (λ (n : NamesInScope). n.threads) r.names,
      r.started,
      r.first_timers,
      r.last_timers,
      r.called,
      r.threaded,
    ) in
    record {
      shape = shape;
      tree = is ∙ same ∙ ap (λ z. code_in k z shape) full;
      put_back =
          names_put_back s.names s'.names k r.variables r.etimers r.ctimers r.threads on_poll on_exit body r.names
          ∙ ap (code_shape s.names) (sym bare);
      left = ap (λ z. z.names) left ∙ ap outside full;
      starting = ap (λ z. z.starting) left ∙ r.starting;
      spelled = λ ms e. o.spelled ∙ ap (λ ts. token.Keyword word.Code ∷ token.Name x ∷ token.OpenBrace ∷ ts)
          (r.spelled s'.names (extends_itself s'.names) (leaving ∷ ms)
          (sym (split ∙ ap (λ ts. token.CloseBrace ∷ ts) (sym e))));
      goes_on = λ xs f. o.goes_on xs f ∙ r.goes_on (codes_form xs f) ∙ last (codes_form xs f)
          ∙ ap (λ z. tell z (codes_form xs f) new) (sym left);
    }

pub paired : (xs : List Name) (ys : List ℕ) (items : List (Name × ℕ)) → xs ≡ named_of items → ys ≡ values_of items
    → length ys ≡ length xs
paired xs ys items e f = ap length f ∙ length-map items (λ p. p.1) ∙ sym (length-map items (λ p. p.0))
    ∙ sym (ap length e)

pub blocks_paired : (xs : List Name) (ys : List (Body ℕ)) (items : List (Name × (Body ℕ))) → xs ≡ named_of items
    → ys ≡ values_of items → length ys ≡ length xs
blocks_paired xs ys items e f = ap length f ∙ length-map items (λ p. p.1) ∙ sym (length-map items (λ p. p.0))
    ∙ sym (ap length e)

-- after a code's names are out of scope, no class has more names than allowed

pub few_none : (most : ℕ) (xs : List Name) → xs ≡ [] → length xs ≤ most
few_none most xs e = omega (arith, ap length e)

pub few_timers_left : (first e c : ℕ) (es cs es' cs' ees ccs : List Name) → first + length es + length cs ≤ 64
    → ees ≡ es → ccs ≡ cs → e ≡ length ees → c ≡ length ccs → es' ≡ [] → cs' ≡ []
    → first + e + c + length es' + length cs' ≤ 64
few_timers_left first e c es cs es' cs' ees ccs h i j k l m n =
    omega (arith, h, ap length i, ap length j, k, l, ap length m, ap length n)

-- the scope outside the code
pub scope_left : (s : Scope) (e c : ℕ) (vs ts es cs es' cs' ees ccs : List Name) → s.names.timers ≡ es ++ cs
    → ees ≡ es → ccs ≡ cs → e ≡ length ees → c ≡ length ccs → vs ≡ [] → es' ≡ [] → cs' ≡ [] → ts ≡ []
    → record s {
      names = record s.names {
        variables = vs;
        first_timer = s.names.first_timer + e + c;
        timers = es' ++ cs';
        threads = ts;
      };
    } ≡ with_names s (outside s.names)
scope_left s e c vs ts es cs es' cs' ees ccs all i j k l v m n t =
    let first : s.names.first_timer + e + c ≡ s.names.first_timer + length s.names.timers =
    omega (arith, ap length all, length-append es cs, ap length i, ap length j, k, l) in
    rw (first, v, m, n, t) refl

pub ruleset code_steps = (paired, blocks_paired)

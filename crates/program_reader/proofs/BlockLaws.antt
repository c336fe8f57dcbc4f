-- Blocks with their own names, `onpoll`, `onexit` and the body.
use Rattle.std.proofs.Common.{◌≡◌, ◌≤◌, ◌<◌, ◌+◌, nat_lt, ℕ, suc, List, [], ◌∷◌, ◌++◌, length, Bool, true, false, Some}
use Rattle.std.proofs.Common.{None, refl, ap, sym, subst, ◌∙◌, append_assoc, arith, slice_index_or, map}
use Rattle.std.proofs.lemmas.Bool.{lt-ltb, ltb-true, ltb-false, and_from, and_parts}
use Rattle.std.proofs.lemmas.List.{map-append, append-nil, length-append}
use Rattle.std.specs.Str.{bytes_eq}
use Rattle.program_reader.specs.CodeParts.{IsNamedBlock, HasBlocks, ReadsBlocks, ReadsHandler, ReadsBody, IsNumbered}
use Rattle.program_reader.specs.CodeParts.{AllNumbered, written, all_written}
use Rattle.program_tree.specs.Faults.{Scope}
use Rattle.program_tree.specs.Grammar.{Context, Mark, tokens, at_simple, at_thread, at_body, block_marks}
use Rattle.program_reader.specs.Head.{with_names, with_all, IsNew}
use Rattle.program_tree.specs.InScope.{NamesInScope, with_new}
use Rattle.program_reader.specs.Machine.{Symbol, Pending, Verdict, tell, fault, fault_or, first, unfit_at, new_name}
use Rattle.program_reader.specs.Machine.{new_thread, from_on_poll, from_on_exit, from_body}
use Rattle.program_tree.specs.InScope.{place_in_names}
use Rattle.program_tree.specs.Numbers.{named_of}
use Rattle.program_tree.specs.Scope.{Within, block_fits, threads_fit, earlier_threads}
use Rattle.program_tree.specs.Shapes.{Name, Named}
use Rattle.program_reader.specs.Steps.{Reads, Extends, Finds, Fits, fixed, read_scope}
use Rattle.program_reader.specs.declared.scope.Scope.{Scope as ScopeRead}
use Rattle.program_tree.specs.FlatBlock.{tree_in}
use Rattle.program_tree.specs.declared.flat_block.FlatBlock.{FlatBlock}
use Rattle.program_tree.specs.Tokens.{Token}
use Rattle.program_tree.specs.Tree.{Class, a_thread, Body, height, size, IsWithinLimits}
use Rattle.program_tree.specs.declared.keyword.Keyword.{Keyword}
use Rattle.program_reader.specs.Machine as machine
use Rattle.program_tree.specs.Tokens as token
use Rattle.program_tree.specs.declared.keyword.Keyword.TheVariants as word
use Rattle.program_reader.proofs.ExtendLaws.{fixed_names, fixed_starting, extends_new, extends_on, all_numbered_on}
use Rattle.program_reader.proofs.ExtendLaws.{all_numbered-append}
use Rattle.program_reader.proofs.HeadLaws.{new_goes}
use Rattle.program_reader.proofs.ListLaws.{with_all-append, shorter_behind}
use Rattle.program_tree.proofs.NameLaws.{place_below, name_at, bytes_same}
use Rattle.program_reader.proofs.Stages.{no_on_poll, no_on_exit}

pub within_limits : (b : Body ℕ) (before after : ℕ) → height b ≤ 32 → size b + before ≤ after → after ≤ 4096
    → IsWithinLimits b
within_limits b before after h k l = record { shallow = h; small = omega arith }

-- a name and its block
pub block_read : {c : Class} {y : Pending → Pending} {place : Name → Context} {x : Name} {t : Body ℕ}
    {old m0 new : List Token} (s : Scope) (a b : ScopeRead) → IsNew c s (read_scope a) x old m0
    → Reads (read_scope a) (read_scope b) (machine.block (place x)) (λ n ms. block_marks (place x) (written n t) ms) m0 new
    → fixed b ≡ fixed a → IsNumbered (read_scope a).names t
    → ((f : Pending) → tell s (y f) old ≡ tell (read_scope a) (machine.block (place x) ∷ f) m0)
    → IsNamedBlock c y place t s (read_scope b) old new
block_read {x = x} {t = t} s a b r k e numbered steps =
    let names = fixed_names b a e in
    record {
      name = x;
      added = names ∙ ap (λ z. z.names) r.added;
      starting = fixed_starting b a e ∙ ap (λ z. z.starting) r.added;
      numbered = subst (λ z. IsNumbered z t) (sym names) numbered;
      spelled = λ n e ms h. r.spelled ∙ ap (λ ts. token.Name x ∷ ts)
          (k.spelled n (subst (λ z. Extends z n) names e) ms h);
      goes_on = λ f. steps f ∙ k.goes_on f;
    }

pub ruleset ctimer_steps = (within_limits, new_goes)

-- threads

pub thread_goes : (s m : Scope) (x : Name) (old m0 : List Token) (f : Pending) → IsNew a_thread s m x old m0
    → tell s (new_thread ∷ f) old ≡ tell m (machine.block (at_thread x) ∷ f) m0
thread_goes s m x old m0 f r =
    ap (tell s (new_thread ∷ f)) r.spelled ∙ ap (λ o. fault_or o (suc (length m0))
    (tell (with_names s (with_new s.names a_thread x)) (machine.block (at_thread x) ∷ f) m0)) r.sound
    ∙ ap (λ z. tell z (machine.block (at_thread x) ∷ f) m0) (sym r.added)

pub thread_fails : (s : Scope) (f : Pending) (old : List Token) (v : Verdict)
    → ((more : Pending) → tell s (new_name a_thread ∷ more) old ≡ v) → tell s (new_thread ∷ f) old ≡ v
thread_fails s f (token.Name x ∷ ts) v h = h (machine.block (at_thread x) ∷ f)
thread_fails s f ts v h = h []

pub thread_block_fails : (s m : Scope) (x : Name) (f : Pending) (old m0 : List Token) (v : Verdict)
    → IsNew a_thread s m x old m0 → ((more : Pending) → tell m (machine.block (at_thread x) ∷ more) m0 ≡ v)
    → tell s (new_thread ∷ f) old ≡ v
thread_block_fails s m x f old m0 v r h = thread_goes s m x old m0 f r ∙ h f

last_at : (xs : List Name) (x : Name) → slice_index_or (xs ++ x ∷ []) (length xs) [] ≡ x
last_at [] x = refl
last_at (y ∷ ys) x = last_at ys x

-- a thread that is found in the block of the last thread is an earlier one
last_or_earlier : (xs : List Name) (x y : Name) (i : ℕ) → place_in_names (xs ++ x ∷ []) y ≡ Some i → bytes_eq x y ≡ false
    → i < length xs
last_or_earlier xs x y i e other =
    let below : i < length (xs ++ x ∷ []) = place_below (xs ++ x ∷ []) y i e in
    go (nat_lt i (length xs)) refl below
  where
    go : (b : Bool) → nat_lt i (length xs) ≡ b → i < length (xs ++ x ∷ []) → i < length xs
    go true h below = ltb-true i (length xs) h
    go false h below =
        let most : length xs ≤ i = ltb-false i (length xs) h in
        let is : i ≡ length xs = omega (arith, length-append xs (x ∷ [])) in
        let same : x ≡ y = sym (last_at xs x) ∙ ap (λ k. slice_index_or (xs ++ x ∷ []) k []) (sym is)
        ∙ name_at (xs ++ x ∷ []) y i e in
        absurd (cc (other, ap (bytes_eq x) same, bytes_same x))

covers_earlier : (n : NamesInScope) (x : Name) (xs : List Name) (c : Class) (y : Name) (i : ℕ) → n.threads ≡ xs ++ x ∷ []
    → Finds n (Some x) c y i → earlier_threads (length xs) c i ≡ true
covers_earlier n x xs a_thread y i e f = lt-ltb i (length xs)
    (last_or_earlier xs x y i (ap (λ z. place_in_names z y) (sym e) ∙ f.found) f.other)
covers_earlier n x xs c y i e f = refl

pub spawns_earlier : (n : NamesInScope) (x : Name) (xs : List Name) (b : Body ℕ) → n.threads ≡ xs ++ x ∷ []
    → Fits n (Some x) (λ w. block_fits w b) → block_fits (earlier_threads (length xs)) b ≡ true
spawns_earlier n x xs b e h = h (earlier_threads (length xs)) (λ c y i f. covers_earlier n x xs c y i e f)

pub ruleset thread_steps = (within_limits)

-- one named block after another

pub no_blocks : (c : Class) (y : Symbol) (marks : List Named → List Mark → List Mark) (s : Scope) (old : List Token)
    → HasBlocks c y marks [] s s old old
no_blocks c y marks s old = record {
  items = [];
  blocks = refl;
  added = refl;
  starting = refl;
  numbered = tt;
  spelled = λ n e more ms h. sym h;
  goes_on = λ f. refl;
}

pub one_block : {c : Class} {y : Symbol} {g : Pending → Pending} {place : Name → Context} {k : Keyword}
    {marks : List Named → List Mark → List Mark} {trees trees' : List (Body ℕ)} {t : Body ℕ} {s m s' : Scope}
    {old rest m0 new : List Token} → HasBlocks c y marks trees s m old rest → rest ≡ token.Keyword k ∷ m0
    → IsNamedBlock c g place t m s' m0 new → trees' ≡ trees ++ t ∷ []
    → ((x : Name) (b : Body Name) (more : List Named) (ms : List Mark) → tokens (marks ((x, b) ∷ more) ms)
    ≡ token.Keyword k ∷ token.Name x ∷ tokens (block_marks (place x) b (marks more ms)))
    → ((f : Pending) → tell m (y ∷ f) (token.Keyword k ∷ m0) ≡ tell m (g (y ∷ f)) m0)
    → HasBlocks c y marks trees' s s' old new
one_block {c} {y} {g} {place} {k} {marks} {trees} {trees'} {t} {s} {m} {s'} h split r push spells steps =
    let grown : Extends m.names s'.names = subst (λ z. Extends m.names z) (sym r.added)
    (extends_new m.names c r.name) in
    record {
      items = h.items ++ (r.name, t) ∷ [];
      blocks = push ∙ ap (λ z. z ++ t ∷ []) h.blocks ∙ sym (map-append (λ p. p.1) h.items ((r.name, t) ∷ []));
      added =
          r.added ∙ ap (λ z. with_new z c r.name) h.added ∙ sym (with_all-append s.names c (named_of h.items) r.name)
          ∙ ap (with_all s.names c) (sym (map-append (λ p. p.0) h.items ((r.name, t) ∷ [])));
      starting = r.starting ∙ h.starting;
      numbered = subst (λ z. AllNumbered s'.names z) (sym push)
          (all_numbered-append s'.names trees t (all_numbered_on m.names s'.names trees grown h.numbered) r.numbered);
      spelled = λ n e more ms z.
          h.spelled n (extends_on m.names s'.names n grown e) ((r.name, written n t) ∷ more) ms
          (spells r.name (written n t) more ms ∙ ap (λ ts. token.Keyword k ∷ ts)
          (sym (r.spelled n e (marks more ms) z)) ∙ sym split)
          ∙ ap (λ v. tokens (marks v ms)) (sym (append_assoc (all_written n h.items) ((r.name, written n t) ∷ []) more))
          ∙ ap (λ v. tokens (marks (v ++ more) ms)) (sym
          (map-append (λ p. (p.0, written n p.1)) h.items ((r.name, t) ∷ [])));
      goes_on = λ f. h.goes_on f ∙ ap (tell m (y ∷ f)) split ∙ steps f ∙ r.goes_on (y ∷ f);
    }

pub all_blocks : {c : Class} {y z : Symbol} {marks : List Named → List Mark → List Mark} {trees : List (Body ℕ)}
    {s s' : Scope} {old rest new : List Token} → HasBlocks c y marks trees s s' old rest
    → ((ms : List Mark) → marks [] ms ≡ ms) → ((f : Pending) → tell s' (y ∷ f) rest ≡ tell s' (z ∷ f) rest)
    → new ≡ rest → ReadsBlocks c y z marks trees s s' old new
all_blocks {z = z} {marks = marks} {s' = s'} h none passed same = record {
  items = h.items;
  blocks = h.blocks;
  added = h.added;
  starting = h.starting;
  numbered = h.numbered;
  spelled = λ n e ms k. h.spelled n e [] ms (ap tokens (none ms) ∙ k ∙ same) ∙ ap (λ v. tokens (marks v ms))
      (append-nil (all_written n h.items));
  goes_on = λ f. h.goes_on f ∙ passed f ∙ ap (tell s' (z ∷ f)) (sym same);
}

pub blocks_fail : {c : Class} {y : Symbol} {marks : List Named → List Mark → List Mark} {trees : List (Body ℕ)}
    {s m : Scope} {old rest m0 : List Token} {k : Keyword} {v : Verdict} (more : Pending)
    → HasBlocks c y marks trees s m old rest → rest ≡ token.Keyword k ∷ m0
    → tell m (y ∷ more) (token.Keyword k ∷ m0) ≡ v → tell s (y ∷ more) old ≡ v
blocks_fail {y = y} {m = m} more h split e = h.goes_on more ∙ ap (tell m (y ∷ more)) split ∙ e

pub pushed : (bs bs' : List FlatBlock) (b : FlatBlock) → bs' ≡ bs ++ b ∷ []
    → map tree_in bs' ≡ map tree_in bs ++ tree_in b ∷ []
pushed bs bs' b e = ap (map tree_in) e ∙ map-append tree_in bs (b ∷ [])

pub ruleset blocks_steps = (no_blocks, shorter_behind)

-- each thread spawns only earlier threads
fit-append : (w : ℕ → Within) (k : ℕ) (bs : List (Body ℕ)) (b : Body ℕ) → threads_fit w k bs ≡ true
    → block_fits (w (k + length bs)) b ≡ true → threads_fit w k (bs ++ b ∷ []) ≡ true
fit-append w k [] b h f = and_from _ _ (ap (λ i. block_fits (w i) b) (omega arith) ∙ f) refl
fit-append w k (c ∷ bs) b h f =
    let p = and_parts (block_fits (w k) c) (threads_fit w (k + 1) bs) h in
    and_from _ _ p.0 (fit-append w (k + 1) bs b p.1 (ap (λ i. block_fits (w i) b) (omega arith) ∙ f))

pub earlier_more : (bs bs' : List (Body ℕ)) (b : Body ℕ) (k : ℕ) → threads_fit earlier_threads 0 bs ≡ true
    → k ≡ length bs → block_fits (earlier_threads k) b ≡ true → bs' ≡ bs ++ b ∷ [] → threads_fit earlier_threads 0 bs'
    ≡ true
earlier_more bs bs' b k h e f push = ap (threads_fit earlier_threads 0) push ∙ fit-append earlier_threads 0 bs b h
    (ap (λ i. block_fits (earlier_threads i) b) (sym e') ∙ f)
  where
    e' : k ≡ 0 + length bs
    e' = omega (arith, e)

-- `onpoll` and `onexit`

no_handler : (k : Keyword) (y z : Symbol) (s : Scope) (old new : List Token)
    → ((f : Pending) → tell s (y ∷ f) old ≡ tell s (z ∷ f) old) → new ≡ old → ReadsHandler k y z None s s old new
no_handler k y z s old new passed same = record {
  names = refl;
  starting = refl;
  numbered = tt;
  spelled = λ n e ms h. sym same ∙ sym h;
  goes_on = λ f. passed f ∙ ap (tell s (z ∷ f)) (sym same);
}

pub handler_read : {k : Keyword} {y z : Symbol} {t : Body ℕ} {old m0 new : List Token} (a b : ScopeRead)
    → old ≡ token.Keyword k ∷ m0
    → Reads (read_scope a) (read_scope b) (machine.block at_simple) (λ n ms. block_marks at_simple (written n t) ms) m0 new
    → fixed b ≡ fixed a → IsNumbered (read_scope a).names t → ((f : Pending)
    → tell (read_scope a) (y ∷ f) (token.Keyword k ∷ m0) ≡ tell (read_scope a) (machine.block at_simple ∷ z ∷ f) m0)
    → ReadsHandler k y z (Some t) (read_scope a) (read_scope b) old new
handler_read {k = k} {y = y} {z = z} a b split r e numbered steps = record {
  names = fixed_names b a e;
  starting = fixed_starting b a e;
  numbered = numbered;
  spelled = λ n e ms h. split ∙ ap (λ ts. token.Keyword k ∷ ts) (r.spelled n e ms h);
  goes_on = λ f. ap (tell (read_scope a) (y ∷ f)) split ∙ steps f ∙ r.goes_on (z ∷ f);
}

pub no_on_poll_read : (s : Scope) (old new : List Token) → (first old ≡ Some (token.Keyword word.OnPoll) → ⊥)
    → new ≡ old → ReadsHandler word.OnPoll from_on_poll from_on_exit None s s old new
no_on_poll_read s old new other = no_handler _ from_on_poll from_on_exit s old new (λ f. no_on_poll s f old other)

pub no_on_exit_read : (s : Scope) (old new : List Token) → (first old ≡ Some (token.Keyword word.OnExit) → ⊥)
    → new ≡ old → ReadsHandler word.OnExit from_on_exit from_body None s s old new
no_on_exit_read s old new other = no_handler _ from_on_exit from_body s old new (λ f. no_on_exit s f old other)

pub on_poll_fails : (s : Scope) (old m0 : List Token) (v : Verdict) (more : Pending)
    → old ≡ token.Keyword word.OnPoll ∷ m0 → ((more : Pending) → tell s (machine.block at_simple ∷ more) m0 ≡ v)
    → tell s (from_on_poll ∷ more) old ≡ v
on_poll_fails s old m0 v more split e = ap (tell s (from_on_poll ∷ more)) split ∙ e (from_on_exit ∷ more)

pub on_exit_fails : (s : Scope) (old m0 : List Token) (v : Verdict) (more : Pending)
    → old ≡ token.Keyword word.OnExit ∷ m0 → ((more : Pending) → tell s (machine.block at_simple ∷ more) m0 ≡ v)
    → tell s (from_on_exit ∷ more) old ≡ v
on_exit_fails s old m0 v more split e = ap (tell s (from_on_exit ∷ more)) split ∙ e (from_body ∷ more)

pub ruleset on_poll_steps = (no_on_poll_read, within_limits, on_poll_fails)

pub ruleset on_exit_steps = (no_on_exit_read, within_limits, on_exit_fails)

-- the body

pub unfit_body : (s : Scope) (more : Pending) (old : List Token) → (first old ≡ Some (token.Keyword word.Body) → ⊥)
    → tell s (from_body ∷ more) old ≡ fault (unfit_at (first old)) (length old)
unfit_body s more (token.Keyword word.Body ∷ ts) h = absurd (h refl)
unfit_body s more ts h = refl

pub body_read : {t : Body ℕ} {old m0 new : List Token} (a b : ScopeRead) → old ≡ token.Keyword word.Body ∷ m0
    → Reads (read_scope a) (read_scope b) (machine.block at_body) (λ n ms. block_marks at_body (written n t) ms) m0 new
    → fixed b ≡ fixed a → IsNumbered (read_scope a).names t → ReadsBody t (read_scope a) (read_scope b) old new
body_read a b split r e numbered = record {
  names = fixed_names b a e;
  starting = fixed_starting b a e;
  numbered = numbered;
  spelled = λ n e ms h. split ∙ ap (λ ts. token.Keyword word.Body ∷ ts) (r.spelled n e ms h);
  goes_on = λ f. ap (tell (read_scope a) (from_body ∷ f)) split ∙ r.goes_on (machine.last_brace ∷ f);
}

pub body_fails : (s : Scope) (old m0 : List Token) (v : Verdict) (more : Pending)
    → old ≡ token.Keyword word.Body ∷ m0 → ((more : Pending) → tell s (machine.block at_body ∷ more) m0 ≡ v)
    → tell s (from_body ∷ more) old ≡ v
body_fails s old m0 v more split e = ap (tell s (from_body ∷ more)) split ∙ e (machine.last_brace ∷ more)

pub ruleset body_steps = (unfit_body, within_limits, body_fails)

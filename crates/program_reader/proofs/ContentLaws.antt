-- The text between the braces of a code, stage by stage.
use Rattle.std.proofs.Common.{◌≡◌, ℕ, List, [], ◌∷◌, ◌++◌, map, Option, option_map, ap, sym, subst, ◌∙◌, append_assoc}
use Rattle.std.proofs.lemmas.List.{map-id, append-nil, append_cancel_left}
use Rattle.program_reader.specs.CodeParts.{written, all_written, IsNumbered, AllNumbered, MaybeNumbered, ReadsBlocks}
use Rattle.program_reader.specs.CodeParts.{ReadsHandler, ReadsBody, with_own, ReadsContent}
use Rattle.program_tree.specs.Faults.{Scope}
use Rattle.program_tree.specs.Grammar.{at_body, key, variable_marks, etimer_marks, ctimer_marks, thread_marks}
use Rattle.program_tree.specs.Grammar.{handler_marks, block_marks, Mark}
use Rattle.program_reader.specs.Head.{with_all, itself, ReadsNames, ReadsValues}
use Rattle.program_tree.specs.InScope.{NamesInScope}
use Rattle.program_reader.specs.Machine.{from_variables, from_etimers, from_ctimers, from_threads, from_on_poll}
use Rattle.program_reader.specs.Machine.{from_on_exit, from_body}
use Rattle.program_tree.specs.Numbers.{named_of}
use Rattle.program_tree.specs.Shapes.{Name}
use Rattle.program_reader.specs.Steps.{Extends}
use Rattle.program_tree.specs.Tokens.{Token}
use Rattle.program_tree.specs.Tree.{a_variable, a_timer, a_thread, Body}
use Rattle.program_tree.specs.declared.keyword.Keyword.TheVariants as word
use Rattle.program_reader.proofs.ExtendLaws.{extends_on, extends_all, all_numbered_on}

-- the names of a code, one class after another

all_variables : (n : NamesInScope) (vs ts hs xs : List Name) → with_all (with_own n vs ts hs) a_variable xs
    ≡ with_own n (vs ++ xs) ts hs
all_variables n vs ts hs [] = ap (λ z. with_own n z ts hs) (sym (append-nil vs))
all_variables n vs ts hs (x ∷ xs) = all_variables n (vs ++ x ∷ []) ts hs xs ∙ ap (λ z. with_own n z ts hs)
    (append_assoc vs (x ∷ []) xs)

all_timers : (n : NamesInScope) (vs ts hs xs : List Name) → with_all (with_own n vs ts hs) a_timer xs
    ≡ with_own n vs (ts ++ xs) hs
all_timers n vs ts hs [] = ap (λ z. with_own n vs z hs) (sym (append-nil ts))
all_timers n vs ts hs (x ∷ xs) = all_timers n vs (ts ++ x ∷ []) hs xs ∙ ap (λ z. with_own n vs z hs)
    (append_assoc ts (x ∷ []) xs)

all_threads : (n : NamesInScope) (vs ts hs xs : List Name) → with_all (with_own n vs ts hs) a_thread xs
    ≡ with_own n vs ts (hs ++ xs)
all_threads n vs ts hs [] = ap (λ z. with_own n vs ts z) (sym (append-nil hs))
all_threads n vs ts hs (x ∷ xs) = all_threads n vs ts (hs ++ x ∷ []) xs ∙ ap (λ z. with_own n vs ts z)
    (append_assoc hs (x ∷ []) xs)

-- a code begins without names of its own
pub bare : (n : NamesInScope) → n.variables ≡ [] → n.timers ≡ [] → n.threads ≡ [] → n ≡ with_own n [] [] []
bare n e f g = ap (λ z. with_own n z n.timers n.threads) e ∙ ap (λ z. with_own n [] z n.threads) f
    ∙ ap (λ z. with_own n [] [] z) g

maybe_numbered_on : (n m : NamesInScope) (b : Option (Body ℕ)) → n ≡ m → MaybeNumbered n b → MaybeNumbered m b
maybe_numbered_on n m b e h = subst (λ z. MaybeNumbered z b) e h

-- all names of a code
pub content_read : (es cs : List Name) (starts : List ℕ) (callbacks thread_bodies : List (Body ℕ))
    (on_poll on_exit : Option (Body ℕ)) (body : Body ℕ) (es2 : List Name) (s0 s1 s2 s3 s4 s5 s6 s7 : Scope)
    (t0 t1 t2 t3 t4 t5 t6 t7 : List Token)
    → s0.names.variables ≡ [] → s0.names.timers ≡ [] → s0.names.threads ≡ []
    → ReadsValues a_variable from_variables from_etimers variable_marks starts s0 s1 t0 t1
    → ReadsNames a_timer from_etimers from_ctimers etimer_marks s1 s2 t1 t2
    → ReadsBlocks a_timer from_ctimers from_threads ctimer_marks callbacks s2 s3 t2 t3
    → ReadsBlocks a_thread from_threads from_on_poll thread_marks thread_bodies s3 s4 t3 t4
    → ReadsHandler word.OnPoll from_on_poll from_on_exit on_poll s4 s5 t4 t5
    → ReadsHandler word.OnExit from_on_exit from_body on_exit s5 s6 t5 t6 → ReadsBody body s6 s7 t6 t7
    → s2.names.timers ≡ es2 → es ≡ es2 → s3.names.timers ≡ es ++ cs
    → ReadsContent es cs starts callbacks thread_bodies on_poll on_exit body s0 s7 t0 t7
content_read es cs starts callbacks thread_bodies on_poll on_exit body es2 s0 s1 s2 s3 s4 s5 s6 s7 t0 t1 t2 t3 t4 t5 t6
    t7 hv ht hh v e c h p q b two kept three =
    let n = s0.names in
    let n1 : s1.names ≡ with_own n (named_of v.0) [] [] =
    v.2.added ∙ ap (λ z. with_all z a_variable (named_of v.0)) (bare n hv ht hh)
    ∙ all_variables n [] [] [] (named_of v.0) in
    let n2 : s2.names ≡ with_own n (named_of v.0) e.0 [] =
    e.1.added ∙ ap (λ z. with_all z a_timer (map itself e.0)) n1 ∙ all_timers n (named_of v.0) [] [] (map itself e.0)
    ∙ ap (λ z. with_own n (named_of v.0) z []) (map-id e.0) in
    let n3 : s3.names ≡ with_own n (named_of v.0) (e.0 ++ named_of c.items) [] =
    c.added ∙ ap (λ z. with_all z a_timer (named_of c.items)) n2 ∙ all_timers n (named_of v.0) e.0 []
    (named_of c.items) in
    let n4 : s4.names ≡ with_own n (named_of v.0) (e.0 ++ named_of c.items) (named_of h.items) =
    h.added ∙ ap (λ z. with_all z a_thread (named_of h.items)) n3 ∙ all_threads n (named_of v.0)
    (e.0 ++ named_of c.items) [] (named_of h.items) in
    let n5 : s5.names ≡ s4.names = p.names in
    let n6 : s6.names ≡ s4.names = q.names ∙ n5 in
    let n7 : s7.names ≡ s4.names = b.names ∙ n6 in
    let grown : Extends s3.names s4.names = subst (λ z. Extends s3.names z) (sym h.added)
    (extends_all s3.names a_thread (named_of h.items)) in
    let first : es ≡ e.0 = kept ∙ sym two ∙ ap (λ z. z.timers) n2 in
    let both : e.0 ++ cs ≡ e.0 ++ named_of c.items = ap (λ z. z ++ cs) (sym first) ∙ sym three
    ∙ ap (λ z. z.timers) n3 in
    record {
      variables = v.0;
      etimers = e.0;
      ctimers = c.items;
      threads = h.items;
      started = v.1;
      first_timers = first;
      last_timers = append_cancel_left e.0 cs (named_of c.items) both;
      called = c.blocks;
      threaded = h.blocks;
      names = n7 ∙ n4;
      starting = b.starting ∙ q.starting ∙ p.starting ∙ h.starting ∙ c.starting ∙ e.1.starting ∙ v.2.starting;
      callbacks_numbered = subst (λ z. AllNumbered z callbacks) (sym n7)
          (all_numbered_on s3.names s4.names callbacks grown c.numbered);
      threads_numbered = subst (λ z. AllNumbered z thread_bodies) (sym n7) h.numbered;
      on_poll_numbered = maybe_numbered_on s4.names s7.names on_poll (sym n7) p.numbered;
      on_exit_numbered = maybe_numbered_on s5.names s7.names on_exit (n5 ∙ sym n7) q.numbered;
      body_numbered = subst (λ z. IsNumbered z body) (n6 ∙ sym n7) b.numbered;
      spelled = λ m x ms k.
          let x4 : Extends s4.names m = subst (λ z. Extends z m) n7 x in
          let m6 : List Mark = key word.Body ∷ block_marks at_body (written m body) ms in
          let m5 : List Mark = handler_marks word.OnExit (option_map (written m) on_exit) m6 in
          let m4 : List Mark = handler_marks word.OnPoll (option_map (written m) on_poll) m5 in
          let m3 : List Mark = thread_marks (all_written m h.items) m4 in
          let m2 : List Mark = ctimer_marks (all_written m c.items) m3 in
          let k6 = b.spelled m (subst (λ z. Extends z m) (sym n6) x4) ms k in
          let k5 = q.spelled m (subst (λ z. Extends z m) (sym n5) x4) m6 (sym k6) in
          let k4 = p.spelled m x4 m5 (sym k5) in
          let k3 = h.spelled m x4 m4 (sym k4) in
          let k2 = c.spelled m (extends_on s3.names s4.names m grown x4) m3 (sym k3) in
          v.2.spelled (etimer_marks e.0 m2) (sym (e.1.spelled m2 (sym k2)));
      goes_on = λ f. v.2.goes_on f ∙ e.1.goes_on f ∙ c.goes_on f ∙ h.goes_on f ∙ p.goes_on f ∙ q.goes_on f
          ∙ b.goes_on f;
    }

-- no thread is in scope before the threads are read
pub threads_bare : (starts : List ℕ) (callbacks : List (Body ℕ)) (s0 s1 s2 s3 : Scope) (t0 t1 t2 t3 : List Token)
    → s0.names.variables ≡ [] → s0.names.timers ≡ [] → s0.names.threads ≡ []
    → ReadsValues a_variable from_variables from_etimers variable_marks starts s0 s1 t0 t1
    → ReadsNames a_timer from_etimers from_ctimers etimer_marks s1 s2 t1 t2
    → ReadsBlocks a_timer from_ctimers from_threads ctimer_marks callbacks s2 s3 t2 t3 → s3.names.threads ≡ []
threads_bare starts callbacks s0 s1 s2 s3 t0 t1 t2 t3 hv ht hh v e c =
    let n = s0.names in
    let n1 : s1.names ≡ with_own n (named_of v.0) [] [] =
    v.2.added ∙ ap (λ z. with_all z a_variable (named_of v.0)) (bare n hv ht hh)
    ∙ all_variables n [] [] [] (named_of v.0) in
    let n2 : s2.names ≡ with_own n (named_of v.0) (map itself e.0) [] =
    e.1.added ∙ ap (λ z. with_all z a_timer (map itself e.0)) n1 ∙ all_timers n (named_of v.0) [] []
    (map itself e.0) in
    ap (λ z. z.threads) (c.added ∙ ap (λ z. with_all z a_timer (named_of c.items)) n2 ∙ all_timers n (named_of v.0)
    (map itself e.0) [] (named_of c.items))

pub ruleset content_steps = (bare)

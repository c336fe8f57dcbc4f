-- The codes of a program, one by one, and their timers.
use Rattle.program_reader.specs.Kept.{HasNoOwnNames}
use Rattle.program_reader.specs.Steps.{read_scope}
use Rattle.program_reader.specs.declared.scope.Scope.{Scope as ScopeRead}
use Rattle.std.proofs.Common.{◌≡◌, ℕ, suc, ◌+◌, ◌<◌, ◌≤◌, List, [], ◌∷◌, ◌++◌, drop, length, map, replicate}
use Rattle.std.proofs.Common.{slice_index_or, refl, sym, ap, subst, ◌∙◌, arith, append_assoc, true, false}
use Rattle.std.proofs.lemmas.List.{map-append, length-append, length-map, drop_all}
use Rattle.std.proofs.Math.Seq.{drop-cons}
use Rattle.program_tree.specs.Code.{Code}
use Rattle.program_reader.specs.CodeParts.{ReadsCode}
use Rattle.program_reader.specs.Codes.{names_behind, HasCodes, all_timers}
use Rattle.program_tree.specs.Faults.{Scope}
use Rattle.program_tree.specs.Grammar.{Mark, tokens, code_marks, codes_marks}
use Rattle.program_tree.specs.InScope.{NamesInScope, outside}
use Rattle.program_reader.specs.Machine.{Pending, Verdict, tell, codes, codes_form}
use Rattle.program_tree.specs.Program.{code_of}
use Rattle.program_tree.specs.Numbers.{named_of, values_of, inside, code_in, codes_in, timer_of, timers_from}
use Rattle.program_tree.specs.ShapeOf.{code_shape}
use Rattle.program_tree.specs.Shapes.{Name, CodeShape}
use Rattle.program_tree.specs.Tokens.{Token}
use Rattle.program_tree.specs.declared.process_text.ProcessText.{ProcessText}
use Rattle.program_tree.proofs.CountLaws.{length-codes_in}

behind-append : (n : NamesInScope) (cs : List CodeShape) (c : CodeShape)
    → names_behind n (cs ++ (c ∷ [])) ≡ outside (inside (names_behind n cs) c)
behind-append n [] c = refl
behind-append n (d ∷ cs) c = behind-append (outside (inside n d)) cs c

codes_in-append : (k : ℕ) (n : NamesInScope) (cs : List CodeShape) (c : CodeShape) → codes_in k n (cs ++ (c ∷ []))
    ≡ codes_in k n cs ++ (code_in (k + length cs) (inside (names_behind n cs) c) c ∷ [])
codes_in-append k n [] c = let e : k ≡ k + 0 = omega arith in ap (λ i. code_in i (inside n c) c ∷ []) e
codes_in-append k n (d ∷ cs) c =
    let e : k + 1 + length cs ≡ k + suc (length cs) = omega arith in
    ap (λ zs. code_in k (inside n d) d ∷ zs) (codes_in-append (k + 1) (outside (inside n d)) cs c
    ∙ ap (λ i. codes_in (k + 1) (outside (inside n d)) cs
    ++ (code_in i (inside (names_behind (outside (inside n d)) cs) c) c ∷ [])) e)

codes_marks-append : (ps : List (Name × CodeShape)) (p : Name × CodeShape) (ms : List Mark)
    → codes_marks (ps ++ (p ∷ [])) ms ≡ codes_marks ps (code_marks p ms)
codes_marks-append [] p ms = refl
codes_marks-append (q ∷ ps) p ms = ap (code_marks q) (codes_marks-append ps p ms)

-- the shape of a code is the same with the names in scope after other codes
behind_shape : (n : NamesInScope) (cs : List CodeShape) (code : Code) → code_shape (names_behind n cs) code ≡ code_shape n code
behind_shape n [] code = refl
behind_shape n (c ∷ cs) code = behind_shape (outside (inside n c)) cs code

pub one_read : (s m s' : Scope) (x : Name) (xs : List Name) (k : ℕ) (trees : List Code) (code : Code)
    (old mid rest : List Token) → HasCodes trees (x ∷ xs) s m old mid → ReadsCode x k code m s' mid rest
    → k ≡ length trees → HasCodes (trees ++ (code ∷ [])) xs s s' old rest
one_read s m s' x xs k trees code old mid rest h r e =
    let cs = values_of h.shapes in
    let push : values_of (h.shapes ++ ((x, r.shape) ∷ [])) ≡ cs ++ (r.shape ∷ []) =
    map-append (λ p. p.1) h.shapes ((x, r.shape) ∷ []) in
    let place : k ≡ 0 + length cs = omega (arith, e, ap length h.numbered, length-codes_in 0 s.names cs) in
    record {
      shapes = h.shapes ++ ((x, r.shape) ∷ []);
      named = h.named ∙ sym (ap (λ zs. zs ++ xs) (map-append (λ p. p.0) h.shapes ((x, r.shape) ∷ []))
          ∙ append_assoc (named_of h.shapes) (x ∷ []) xs);
      numbered =
          ap (λ zs. zs ++ (code ∷ [])) h.numbered
          ∙ ap (λ c. codes_in 0 s.names cs ++ (c ∷ []))
          (r.tree ∙ ap (λ i. code_in i (inside m.names r.shape) r.shape) place
          ∙ ap (λ n. code_in (0 + length cs) (inside n r.shape) r.shape) h.names)
          ∙ sym (codes_in-append 0 s.names cs r.shape) ∙ ap (codes_in 0 s.names) (sym push);
      put_back =
          push ∙ ap (λ zs. zs ++ (r.shape ∷ [])) h.put_back ∙ ap (λ z. map (code_shape s.names) trees ++ (z ∷ []))
          (r.put_back ∙ ap (λ n. code_shape n code) h.names ∙ behind_shape s.names cs code)
          ∙ sym (map-append (code_shape s.names) trees (code ∷ []));
      names = r.left ∙ ap (λ n. outside (inside n r.shape)) h.names ∙ sym (behind-append s.names cs r.shape)
          ∙ ap (names_behind s.names) (sym push);
      spelled = λ ms q. h.spelled (code_marks (x, r.shape) ms) (sym (r.spelled ms q))
          ∙ ap tokens (sym (codes_marks-append h.shapes (x, r.shape) ms));
      goes_on = λ f. h.goes_on f ∙ r.goes_on xs f;
    }

-- The parts that a code leaves unchanged.

pub behind_kept : (n : NamesInScope) (cs : List CodeShape) → ((names_behind n cs).events ≡ n.events)
    × ((names_behind n cs).semaphores ≡ n.semaphores) × ((names_behind n cs).processes ≡ n.processes)
behind_kept n [] = (refl, refl, refl)
behind_kept n (c ∷ cs) = behind_kept (outside (inside n c)) cs

-- none of the names of a code is in scope after it
pub behind_none : (n : NamesInScope) (cs : List CodeShape) → n.variables ≡ [] → n.timers ≡ [] → n.threads ≡ []
    → ((names_behind n cs).variables ≡ []) × ((names_behind n cs).timers ≡ []) × ((names_behind n cs).threads ≡ [])
behind_none n [] e f g = (e, f, g)
behind_none n (c ∷ cs) e f g = behind_none (outside (inside n c)) cs refl refl refl

-- The loop over the processes, at the process with this number.

pub first_empty : {A : Type 0} (xs ys : List A) → xs ++ ys ≡ [] → xs ≡ []
first_empty [] ys e = refl
first_empty (x ∷ xs) ys e = absurd cc

pub second_empty : {A : Type 0} (xs ys : List A) → xs ++ ys ≡ [] → ys ≡ []
second_empty [] ys e = e
second_empty (x ∷ xs) ys e = absurd cc

-- a code may begin, because no name of the codes before it is in scope
pub still_none : (a b : ScopeRead) (trees : List Code) (left : List Name) (old mid : List Token) → HasNoOwnNames a
    → HasCodes trees left (read_scope a) (read_scope b) old mid → HasNoOwnNames b
still_none a b trees left old mid h r =
    let timers : a.etimers ++ a.ctimers ≡ [] = ap (λ zs. zs ++ a.ctimers) h.etimers ∙ h.ctimers in
    let none = behind_none (read_scope a).names (values_of r.shapes) h.variables timers h.threads in
    let timerless : b.etimers ++ b.ctimers ≡ [] = ap (λ (n : NamesInScope). n.timers) r.names ∙ none.1 in
    record {
      variables = ap (λ (n : NamesInScope). n.variables) r.names ∙ none.0;
      etimers = first_empty _ _ timerless;
      ctimers = second_empty _ _ timerless;
      threads = ap (λ (n : NamesInScope). n.threads) r.names ∙ none.2;
    }

pub same_processes : (s m : Scope) (trees : List Code) (left : List Name) (old mid : List Token)
    → HasCodes trees left s m old mid → m.names.processes ≡ s.names.processes
same_processes s m trees left old mid r = ap (λ n. n.processes) r.names ∙ (behind_kept s.names (values_of r.shapes)).2

next_left : (ps qs : List Name) (k : ℕ) → qs ≡ ps → k < length qs → drop k ps ≡ slice_index_or qs k [] ∷ drop (k + 1) ps
next_left ps qs k e h =
    let low : k < length ps = omega (arith, ap length e, h) in
    let one : suc k ≡ k + 1 = omega arith in
    drop-cons ps k [] low ∙ ap (λ x. x ∷ drop (suc k) ps) (ap (λ zs. slice_index_or zs k []) (sym e))
    ∙ ap (λ i. slice_index_or qs k [] ∷ drop i ps) one

-- the code that is read is that of the next process
next_code : (s m : Scope) (texts : List ProcessText) (k : ℕ) (old mid : List Token) → k ≡ length texts
    → HasCodes (map code_of texts) (drop (length texts) s.names.processes) s m old mid → k < length m.names.processes
    → HasCodes (map code_of texts) (slice_index_or m.names.processes k [] ∷ drop (k + 1) s.names.processes) s m old mid
next_code s m texts k old mid is h low =
    let e : drop (length texts) s.names.processes ≡ slice_index_or m.names.processes k [] ∷ drop (k + 1)
    s.names.processes =
    ap (λ i. drop i s.names.processes) (sym is) ∙ next_left s.names.processes m.names.processes k
    (same_processes s m (map code_of texts) (drop (length texts) s.names.processes) old mid h) low in
    subst (λ z. HasCodes (map code_of texts) z s m old mid) e h

pub loop_goes : (s m s' : Scope) (texts texts' : List ProcessText) (text : ProcessText) (k : ℕ)
    (old mid rest : List Token) → k ≡ length texts → texts' ≡ texts ++ (text ∷ [])
    → HasCodes (map code_of texts) (drop (length texts) s.names.processes) s m old mid → k < length m.names.processes →
    ReadsCode (slice_index_or m.names.processes k []) k (code_of text) m s' mid rest
    → HasCodes (map code_of texts') (drop (length texts') s.names.processes) s s' old rest
loop_goes s m s' texts texts' text k old mid rest is push h low r =
    let n : length texts' ≡ k + 1 = omega (arith, ap length push, length-append texts (text ∷ []), is) in
    let t : map code_of texts' ≡ map code_of texts ++ (code_of text ∷ []) =
    ap (map code_of) push ∙ map-append code_of texts (text ∷ []) in
    rw (t, n) (one_read s m s' (slice_index_or m.names.processes k []) (drop (k + 1) s.names.processes) k
    (map code_of texts) (code_of text) old mid rest (next_code s m texts k old mid is h low) r
    (is ∙ sym (length-map texts code_of)))

pub loop_fails : (s m : Scope) (texts : List ProcessText) (k : ℕ) (old mid : List Token) (v : Verdict)
    → k ≡ length texts → HasCodes (map code_of texts) (drop (length texts) s.names.processes) s m old mid
    → k < length m.names.processes →
    ((xs : List Name) (more : Pending) → tell m (codes (slice_index_or m.names.processes k []) xs ∷ more) mid ≡ v)
    → (more : Pending) → tell s (codes_form s.names.processes more) old ≡ v
loop_fails s m texts k old mid v is h low r more =
    (next_code s m texts k old mid is h low).goes_on more ∙ r (drop (k + 1) s.names.processes) more

pub loop_ends : (s m : Scope) (trees : List Code) (k : ℕ) (old mid : List Token) → length s.names.processes ≤ k
    → HasCodes trees (drop k s.names.processes) s m old mid → HasCodes trees [] s m old mid
loop_ends s m trees k old mid h r = subst (λ z. HasCodes trees z s m old mid) (drop_all k s.names.processes h) r

-- Timers.

replicated : {A B : Type 0} (b : B) (xs : List A) → map (λ x. b) xs ≡ replicate (length xs) b
replicated b [] = refl
replicated b (x ∷ xs) = ap (λ zs. b ∷ zs) (replicated b xs)

pub timers_of_all : (k : ℕ) (n : NamesInScope) (cs : List CodeShape) → all_timers (codes_in k n cs) ≡ timers_from k cs
timers_of_all k n [] = refl
timers_of_all k n (c ∷ cs) =
    ap (λ zs. (replicate (length c.etimers) (timer_of k false) ++ replicate (length (named_of c.ctimers))
    (timer_of k true)) ++ zs) (timers_of_all (k + 1) (outside (inside n c)) cs)
    ∙ append_assoc (replicate (length c.etimers) (timer_of k false))
    (replicate (length (named_of c.ctimers)) (timer_of k true)) (timers_from (k + 1) cs)
    ∙ ap (λ zs. zs ++ (replicate (length (named_of c.ctimers)) (timer_of k true) ++ timers_from (k + 1) cs))
    (sym (replicated (timer_of k false) c.etimers))
    ∙ ap (λ i. map (λ x. timer_of k false) c.etimers ++ (replicate i (timer_of k true) ++ timers_from (k + 1) cs))
    (length-map c.ctimers (λ p. p.0))
    ∙ ap (λ zs. map (λ x. timer_of k false) c.etimers ++ (zs ++ timers_from (k + 1) cs))
    (sym (replicated (timer_of k true) c.ctimers))

pub behind_first_timer : (k : ℕ) (n : NamesInScope) (cs : List CodeShape) → (names_behind n cs).first_timer ≡ n.first_timer
    + length (timers_from k cs)
behind_first_timer k n [] = omega arith
behind_first_timer k n (c ∷ cs) =
    omega (
      arith,
      behind_first_timer (k + 1) (outside (inside n c)) cs,
      length-append (map (λ x. timer_of k false) c.etimers) (map (λ t. timer_of k true) c.ctimers
          ++ timers_from (k + 1) cs),
      length-append (map (λ t. timer_of k true) c.ctimers) (timers_from (k + 1) cs),
      length-map c.etimers (λ x. timer_of k false),
      length-map c.ctimers (λ t. timer_of k true),
      length-append c.etimers (named_of c.ctimers),
      length-map c.ctimers (λ p. p.0),
    )

-- Statements with blocks, and blocks of which the first statements are read.
use Rattle.std.proofs.Common.{◌≡◌, ℕ, suc, ◌+◌, ◌-◌, ◌<◌, ◌≤◌, List, [], ◌∷◌, ◌++◌, drop, length, map, refl, sym, ap}
use Rattle.std.proofs.Common.{subst, ◌∙◌, arith, Option, Some, true}
use Rattle.std.proofs.lemmas.Bool.{and_from, and_parts}
use Rattle.std.proofs.lemmas.List.{map-append}
use Rattle.program_tree.specs.Faults.{Scope}
use Rattle.program_tree.specs.Grammar.{Context, inner, Mark, key, sign, opening, tokens, statement_marks, items_marks}
use Rattle.program_tree.specs.Grammar.{else_marks, block_marks}
use Rattle.program_tree.specs.InScope.{NamesInScope, name_in, number_in}
use Rattle.program_reader.specs.Machine.{Pending, tell, fault, first, block, items, items_else}
use Rattle.program_tree.specs.Scope.{Within, statement_fits, block_fits}
use Rattle.program_tree.specs.Shapes.{Name}
use Rattle.program_reader.specs.Steps.{Extends, Covers, Reads, ReadsStatement, ReadsElse, Numbered, Fits}
use Rattle.program_tree.specs.Tokens.{Token}
use Rattle.program_tree.specs.Tree.{Class, Statement, Body, end, next, otherwise, listed}
use Rattle.program_tree.specs.Meaning.{body_of, statement_of}
use Rattle.program_tree.specs.Tree.{statement_map, body_map, height, inner_height, size, inner_size}
use Rattle.program_tree.specs.declared.error.ReadErrorKind.TheVariants.{TooDeep}
use Rattle.program_tree.specs.declared.tree.Stmt.{Stmt}
use Rattle.program_tree.specs.Tokens as token
use Rattle.program_tree.specs.declared.keyword.Keyword.TheVariants as word
use Rattle.program_reader.proofs.ExpressionSteps.{opens_sound, opens_deep}
use Rattle.program_reader.proofs.NameSteps.{taken, broken, front_of}
use Rattle.program_tree.proofs.TreeLaws.{body_of-listed}

-- `else`

pub else_start : (s : Scope) (c : Context) (f : Pending) (old : List Token)
    → first old ≡ Some (token.Keyword word.Else) → tell s (items_else c ∷ f) old ≡ tell s (block c ∷ items c ∷ f)
    (drop 1 old)
else_start s c f old is = taken s (items_else c ∷ f) (block c ∷ items c ∷ f) old (token.Keyword word.Else)
    (key word.Else) is refl refl

pub else_reads : (s s' : Scope) (c : Context) (b : NamesInScope → Body Name) (old m0 new : List Token)
    → first old ≡ Some (token.Keyword word.Else) → m0 ≡ drop 1 old
    → Reads s s' (block c) (λ n ms. block_marks c (b n) ms) m0 new
    → ReadsElse s s' c (λ n ms. else_marks c (otherwise (b n)) ms) old new
else_reads s s' c b old m0 new is from r = record {
  spelled = λ n h ms q. front_of old (token.Keyword word.Else) is ∙ ap (λ ts. token.Keyword word.Else ∷ ts)
      (sym from ∙ r.spelled n h ms q);
  goes_on = λ f. else_start s c f old is ∙ ap (λ ts. tell s (block c ∷ items c ∷ f) ts) (sym from)
      ∙ r.goes_on (items c ∷ f);
}

-- Blocks.

-- these statements, and then the rest of a block
abbrev pub with_front : List (Statement Name) → Body Name → Body Name
with_front [] b = b
with_front (s ∷ ss) b = next s (with_front ss b)

with_front-push : (ss : List (Statement Name)) (s : Statement Name) (b : Body Name) → with_front (ss ++ (s ∷ [])) b
    ≡ with_front ss (next s b)
with_front-push [] s b = refl
with_front-push (t ∷ ss) s b = ap (next t) (with_front-push ss s b)

front_all : (f : Class → ℕ → Name) (ss : List (Statement ℕ)) → with_front (map (statement_map f) ss) end
    ≡ body_map f (body_of ss)
front_all f [] = refl
front_all f (s ∷ ss) = ap (next (statement_map f s)) (front_all f ss)

-- the statements of a block that are read so far: the block has the tokens `old`, and `rest` is still to be read
pub record HasFront (s s' : Scope) (own : Option Name) (c : Context) (ss : List (Statement ℕ))
    (old rest : List Token) : Type 0 where
  pub spelled : (n : NamesInScope) → Extends s.names n → (tail : Body Name) (ms : List Mark)
      → tokens (items_marks (inner c) tail ms) ≡ rest
      → old ≡ tokens (block_marks c (with_front (map (statement_map (name_in n)) ss) tail) ms)
  pub goes_on : (f : Pending) → tell s (block c ∷ f) old ≡ tell s' (items (inner c) ∷ f) rest
  pub numbered : Numbered s.names (λ n. body_map (number_in n) (body_map (name_in n) (body_of ss))) (body_of ss)
  pub fits : Fits s.names own (λ w. block_fits w (body_of ss))
  pub shallow : c.level + height (body_of ss) ≤ 32
  pub counts : size (body_of ss) + s.statements ≤ s'.statements

pub brace_start : (s : Scope) (c : Context) (f : Pending) (old : List Token) → first old ≡ Some token.OpenBrace
    → c.level < 32 → tell s (block c ∷ f) old ≡ tell s (items (inner c) ∷ f) (drop 1 old)
brace_start s c f old is h = taken s (block c ∷ f) (items (inner c) ∷ f) old token.OpenBrace
    (opening token.OpenBrace (c.level + 1)) is refl (opens_sound s token.OpenBrace (c.level + 1) (omega arith))

pub brace_deep : (s : Scope) (c : Context) (f : Pending) (old : List Token) → first old ≡ Some token.OpenBrace
    → c.level ≡ 32 → tell s (block c ∷ f) old ≡ fault TooDeep (length old)
brace_deep s c f old is h = broken s (block c ∷ f) (items (inner c) ∷ f) old token.OpenBrace
    (opening token.OpenBrace (c.level + 1)) TooDeep is refl (opens_deep s token.OpenBrace (c.level + 1) (omega arith))

pub none_yet : (s : Scope) (own : Option Name) (c : Context) (old rest : List Token) → first old ≡ Some token.OpenBrace
    → c.level < 32 → rest ≡ drop 1 old → HasFront s s own c [] old rest
none_yet s own c old rest is h from = record {
  spelled = λ n u tail ms q. front_of old token.OpenBrace is ∙ ap (λ ts. token.OpenBrace ∷ ts) (sym from ∙ sym q);
  goes_on = λ f. brace_start s c f old is h ∙ ap (λ ts. tell s (items (inner c) ∷ f) ts) (sym from);
  numbered = λ n u. refl;
  fits = λ w u. refl;
  shallow = omega arith;
  counts = omega arith;
}

push_again : (f : Class → Name → ℕ) (g : Class → ℕ → Name) (ss : List (Statement ℕ)) (s : Statement ℕ)
    → body_map f (body_map g (body_of ss)) ≡ body_of ss → statement_map f (statement_map g s) ≡ s
    → body_map f (body_map g (body_of (ss ++ (s ∷ [])))) ≡ body_of (ss ++ (s ∷ []))
push_again f g [] s e h = ap (λ z. next z end) h
push_again f g (t ∷ ss) s e h =
    let a : statement_map f (statement_map g t) ≡ t = cc e in
    let b : body_map f (body_map g (body_of ss)) ≡ body_of ss = cc e in
    let ih : body_map f (body_map g (body_of (ss ++ (s ∷ [])))) ≡ body_of (ss ++ (s ∷ [])) = push_again f g ss s b h in
    cc (a, ih)

push_fits : (w : Within) (ss : List (Statement ℕ)) (s : Statement ℕ) → block_fits w (body_of ss) ≡ true
    → statement_fits w s ≡ true → block_fits w (body_of (ss ++ (s ∷ []))) ≡ true
push_fits w [] s e h = and_from _ _ h refl
push_fits w (t ∷ ss) s e h =
    let parts = and_parts (statement_fits w t) (block_fits w (body_of ss)) e in
    and_from _ _ parts.0 (push_fits w ss s parts.1 h)

height_push : (n : ℕ) (ss : List (Statement ℕ)) (s : Statement ℕ) → height (body_of ss) ≤ n → suc (inner_height s) ≤ n
    → height (body_of (ss ++ (s ∷ []))) ≤ n
height_push n [] s h k = omega arith
height_push n (t ∷ ss) s h k = let ih : height (body_of (ss ++ (s ∷ []))) ≤ n = height_push n ss s (omega arith) k in
    omega arith

size_push : (ss : List (Statement ℕ)) (s : Statement ℕ) → size (body_of (ss ++ (s ∷ []))) ≡ size (body_of ss)
    + suc (inner_size s)
size_push [] s = omega arith
size_push (t ∷ ss) s = let ih : size (body_of (ss ++ (s ∷ []))) ≡ size (body_of ss) + suc (inner_size s) =
    size_push ss s in omega (arith, ih)

at_most : (d m : ℕ) → d < 32 → m ≤ 32 - d → d + m ≤ 32
at_most d m h k = omega arith

-- one more statement
pub one_more : (s s1 s2 : Scope) (own : Option Name) (c : Context) (ss : List (Statement ℕ)) (t : Statement ℕ)
    (old mid rest : List Token) → HasFront s s1 own c ss old mid → s1.names ≡ s.names →
    ReadsStatement s1 s2 (inner c) (λ n ms. statement_marks (inner c) (statement_map (name_in n) t) ms) mid rest
    → Numbered s1.names (λ n. statement_map (number_in n) (statement_map (name_in n) t)) t
    → Fits s1.names own (λ w. statement_fits w t) →
    c.level + 1 + inner_height t ≤ 32 → inner_size t + s1.statements < s2.statements
    → HasFront s s2 own c (ss ++ (t ∷ [])) old rest
one_more s s1 s2 own c ss t old mid rest h e r k fit low more = record {
  spelled = λ n u tail ms q.
      h.spelled n u (next (statement_map (name_in n) t) tail) ms
      (sym (r.spelled n (subst (λ z. Extends z n) (sym e) u) (items_marks (inner c) tail ms) q))
      ∙ ap (λ b. tokens (block_marks c b ms)) (sym (with_front-push (map (statement_map (name_in n)) ss)
      (statement_map (name_in n) t) tail) ∙ ap (λ zs. with_front zs tail)
      (sym (map-append (statement_map (name_in n)) ss (t ∷ []))));
  goes_on = λ f. h.goes_on f ∙ r.goes_on f;
  numbered = λ n u. push_again (number_in n) (name_in n) ss t (h.numbered n u)
      (k n (subst (λ z. Extends z n) (sym e) u));
  fits = λ w u. push_fits w ss t (h.fits w u) (fit w (subst (λ z. Covers z own w) (sym e) u));
  shallow = at_most c.level _ (omega (arith, low))
      (height_push (32 - c.level) ss t (omega (arith, h.shallow)) (omega (arith, low)));
  counts = omega (arith, size_push ss t, h.counts, more);
}

-- a block read to its end
pub record HasBlock (s s' : Scope) (own : Option Name) (c : Context) (b : Body ℕ) (old new : List Token) : Type 0 where
  pub ok : Reads s s' (block c) (λ n ms. block_marks c (body_map (name_in n) b) ms) old new
  pub numbered : Numbered s.names (λ n. body_map (number_in n) (body_map (name_in n) b)) b
  pub fits : Fits s.names own (λ w. block_fits w b)
  pub shallow : c.level + height b ≤ 32
  pub counts : size b + s.statements ≤ s'.statements

pub all_read : (s s' : Scope) (own : Option Name) (c : Context) (ss : List (Statement ℕ)) (b : Body ℕ)
    (old mid new : List Token) → HasFront s s' own c ss old mid → first mid ≡ Some token.CloseBrace → new ≡ drop 1 mid
    → listed b ≡ ss → HasBlock s s' own c b old new
all_read s s' own c ss b old mid new h is from e =
    let same : body_of ss ≡ b = ap body_of (sym e) ∙ body_of-listed b in
    subst (λ z. HasBlock s s' own c z old new) same (record {
      ok = record {
        spelled = λ n u ms q. h.spelled n u end ms (sym
            (front_of mid token.CloseBrace is ∙ ap (λ ts. token.CloseBrace ∷ ts) (sym from ∙ sym q)))
            ∙ ap (λ z. tokens (block_marks c z ms)) (front_all (name_in n) ss);
        goes_on = λ f. h.goes_on f ∙ taken s' (items (inner c) ∷ f) f mid token.CloseBrace (sign token.CloseBrace) is
            refl refl ∙ ap (λ ts. tell s' f ts) (sym from);
      };
      numbered = h.numbered;
      fits = h.fits;
      shallow = h.shallow;
      counts = h.counts;
    })

-- the same for a statement in the form that the code has it
pub one_read : (s s1 s2 : Scope) (c d : Context) (ss ss' : List Stmt) (x : Stmt) (old mid rest : List Token)
    → d ≡ inner c → ss' ≡ ss ++ (x ∷ []) → HasFront s s1 c.thread c (map statement_of ss) old mid → s1.names ≡ s.names
    →
    ReadsStatement s1 s2 d (λ n ms. statement_marks d (statement_map (name_in n) (statement_of x)) ms) mid rest
    → Numbered s1.names (λ n. statement_map (number_in n) (statement_map (name_in n) (statement_of x)))
    (statement_of x) →
    Fits s1.names d.thread (λ w. statement_fits w (statement_of x)) → d.level + inner_height (statement_of x) ≤ 32
    → inner_size (statement_of x) + s1.statements < s2.statements
    → HasFront s s2 c.thread c (map statement_of ss') old rest
one_read s s1 s2 c d ss ss' x old mid rest h pushed front e r k fit low more =
    let same : map statement_of ss' ≡ map statement_of ss ++ (statement_of x ∷ []) =
    ap (λ zs. map statement_of zs) pushed ∙ map-append statement_of ss (x ∷ []) in
    subst (λ zs. HasFront s s2 c.thread c zs old rest) (sym same)
    (one_more s s1 s2 c.thread c (map statement_of ss) (statement_of x) old mid rest front e
    (subst (λ z. ReadsStatement s1 s2 z (λ n ms. statement_marks z (statement_map (name_in n) (statement_of x)) ms) mid
    rest) h r) k
    (subst (λ z. Fits s1.names z.thread (λ w. statement_fits w (statement_of x))) h fit)
    (subst (λ z. z.level + inner_height (statement_of x) ≤ 32) h low) more)

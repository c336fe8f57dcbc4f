-- The order in which the parts of a statement follow one another.
use Rattle.std.proofs.Common.{◌≡◌, ℕ, List, ◌∷◌, refl, sym, ap, subst, ◌∙◌, Bool, true, ◌&&◌, Option}
use Rattle.std.proofs.lemmas.Bool.{and_from}
use Rattle.program_tree.specs.Faults.{Scope}
use Rattle.program_tree.specs.Forms.{Beginning, beginning}
use Rattle.program_tree.specs.Grammar.{Context, Mark, begins_with, target, tokens, sign, action_marks, statement_marks}
use Rattle.program_tree.specs.InScope.{NamesInScope, name_in, number_in}
use Rattle.program_reader.specs.Machine.{Symbol, Pending, tell, items, items_else, equals, expression, semicolon}
use Rattle.program_reader.specs.Steps.{Extends, Reads, ReadsSign, ReadsStatement, ReadsElse, BeginsStatement, IsTarget}
use Rattle.program_reader.specs.Steps.{pending_of, fixed, read_scope, Numbered, Fits, Covers}
use Rattle.program_tree.specs.Scope.{Within, action_fits, statement_fits}
use Rattle.program_tree.specs.Shapes.{Name}
use Rattle.program_tree.specs.Tokens as token
use Rattle.program_tree.specs.Tokens.{Token}
use Rattle.program_tree.specs.declared.keyword.Keyword.{Keyword}
use Rattle.program_reader.specs.declared.scope.Scope.{Scope as ScopeRead}
use Rattle.program_tree.specs.Tree.{a_variable, Action, action_map, Statement, statement_map}
use Rattle.program_reader.proofs.ExtendLaws.{fixed_names}

pub same_names : (a b : ScopeRead) → a ≡ b → (read_scope a).names ≡ (read_scope b).names
same_names a b e = ap (λ z. (read_scope z).names) e

pub renumbered : {T : Type 0} (n n1 : NamesInScope) (again : NamesInScope → T) (t : T) → n1 ≡ n → Numbered n1 again t
    → Numbered n again t
renumbered n n1 again t e h = λ n' u. h n' (subst (λ z. Extends z n') (sym e) u)

pub refitted : (n n1 : NamesInScope) (own : Option Name) (fits : Within → Bool) → n1 ≡ n → Fits n1 own fits → Fits n own fits
refitted n n1 own fits e h = λ w u. h w (subst (λ z. Covers z own w) (sym e) u)

-- The beginning of a statement is read, with these pending symbols before and after it: the marks of its parts, the
-- numbers of their names, and whether these names are in scope.
pub record Begun (s s' : Scope) (own : Option Name) (front back : Pending → Pending)
    (marks : NamesInScope → List Mark → List Mark) (again : NamesInScope → Type 0) (fits : Within → Bool)
    (old new : List Token) : Type 0 where
  pub names : s'.names ≡ s.names
  pub spelled : (n : NamesInScope) → Extends s.names n → (ms : List Mark) → tokens ms ≡ new → old ≡ tokens (marks n ms)
  pub goes_on : (f : Pending) → tell s (front f) old ≡ tell s' (back f) new
  pub numbered : (n : NamesInScope) → Extends s.names n → again n
  pub fit : Fits s.names own fits

-- a keyword
pub begun : {own : Option Name} {c : Context} {k : Keyword} {g : Beginning} {old new : List Token} (a b : ScopeRead)
    → fixed b ≡ fixed a → BeginsStatement (read_scope a) (read_scope b) c k old new → beginning k ≡ g
    → Begun (read_scope a) (read_scope b) own (λ f. items c ∷ f) (pending_of c g) (λ n ms. begins_with c k ∷ ms)
    (λ n. Unit {0}) (λ w. true) old new
begun {c = c} {k = k} {new = new} a b e h is = record {
  names = fixed_names b a e;
  spelled = λ n u ms q. h.spelled ∙ ap (λ ts. token.Keyword k ∷ ts) (sym q);
  goes_on = λ f. h.goes_on f ∙ ap (λ z. tell (read_scope b) (pending_of c z f) new) is;
  numbered = λ n u. tt;
  fit = λ w u. refl;
}

-- the variable of an assignment
pub targeted : {own : Option Name} {c : Context} {i : ℕ} {old new : List Token} (a b : ScopeRead) → fixed b ≡ fixed a
    → IsTarget (read_scope a) (read_scope b) c i old new
    → Numbered (read_scope a).names (λ n. number_in n a_variable (name_in n a_variable i)) i
    → Fits (read_scope a).names own (λ w. w a_variable i)
    → Begun (read_scope a) (read_scope b) own (λ f. items c ∷ f) (λ f. equals ∷ expression c ∷ semicolon ∷ items c ∷ f)
    (λ n ms. target (name_in n a_variable i) ∷ ms) (λ n. number_in n a_variable (name_in n a_variable i) ≡ i)
    (λ w. w a_variable i) old new
targeted {i = i} a b e h numbered fits = record {
  names = fixed_names b a e;
  spelled = λ n u ms q. h.spelled n u ∙ ap (λ ts. token.Name (name_in n a_variable i) ∷ ts) (sym q);
  goes_on = h.goes_on;
  numbered = numbered;
  fit = fits;
}

-- a sign
pub with_sign : {s s' : Scope} {own : Option Name} {y : Symbol} {t : Token} {front back : Pending → Pending}
    {marks : NamesInScope → List Mark → List Mark} {again : NamesInScope → Type 0} {fits : Within → Bool}
    {old mid new : List Token} → Begun s s' own front (λ f. y ∷ back f) marks again fits old mid
    → ReadsSign y t mid new → Begun s s' own front back (λ n ms. marks n (sign t ∷ ms)) again fits old new
with_sign {s' = s'} {t = t} {back = back} r k = record {
  names = r.names;
  spelled = λ n u ms q. r.spelled n u (sign t ∷ ms) (sym (k.spelled ∙ ap (λ ts. t ∷ ts) (sym q)));
  goes_on = λ f. r.goes_on f ∙ k.goes_on s' (back f);
  numbered = r.numbered;
  fit = r.fit;
}

-- a part with names
pub followed : {T : Type 0} {s s1 s' : Scope} {own : Option Name} {front mid_front back : Pending → Pending}
    {marks marks' : NamesInScope → List Mark → List Mark} {again : NamesInScope → Type 0} {again' : NamesInScope → T} {t : T}
    {fits fits' : Within → Bool} {old mid new : List Token}
    → Begun s s1 own front mid_front marks again fits old mid → s'.names ≡ s1.names
    → ((n : NamesInScope) → Extends s1.names n → (ms : List Mark) → tokens ms ≡ new → mid ≡ tokens (marks' n ms))
    → ((f : Pending) → tell s1 (mid_front f) mid ≡ tell s' (back f) new)
    → Numbered s1.names again' t → Fits s1.names own fits'
    → Begun s s' own front back (λ n ms. marks n (marks' n ms)) (λ n. again n × (again' n ≡ t))
    (λ w. fits w && fits' w) old new
followed {s = s} {s1 = s1} {own = own} {marks' = marks'} r e spelled goes numbered fits = record {
  names = e ∙ r.names;
  spelled = λ n u ms q. r.spelled n u (marks' n ms) (sym (spelled n (subst (λ z. Extends z n) (sym r.names) u) ms q));
  goes_on = λ f. r.goes_on f ∙ goes f;
  numbered = λ n u. (r.numbered n u, numbered n (subst (λ z. Extends z n) (sym r.names) u));
  fit = λ w u. and_from _ _ (r.fit w u) (fits w (subst (λ z. Covers z own w) (sym r.names) u));
}

-- a part that changes nothing in scope
pub with_part : {T : Type 0} {s : Scope} {own : Option Name} {y : Symbol} {front back : Pending → Pending}
    {marks marks' : NamesInScope → List Mark → List Mark} {again : NamesInScope → Type 0} {again' : NamesInScope → T} {t : T}
    {fits fits' : Within → Bool} {old mid new : List Token} {a b : ScopeRead} → b ≡ a
    → Begun s (read_scope a) own front (λ f. y ∷ back f) marks again fits old mid
    → Reads (read_scope a) (read_scope a) y marks' mid new → Numbered (read_scope a).names again' t
    → Fits (read_scope a).names own fits'
    → Begun s (read_scope b) own front back (λ n ms. marks n (marks' n ms)) (λ n. again n × (again' n ≡ t))
    (λ w. fits w && fits' w) old new
with_part {back = back} {new = new} {a = a} {b = b} e r k = followed r (same_names b a e) k.spelled
    (λ f. k.goes_on (back f) ∙ ap (λ z. tell (read_scope z) (back f) new) (sym e))

-- a block
pub with_block : {T : Type 0} {s : Scope} {own : Option Name} {y : Symbol} {front back : Pending → Pending}
    {marks marks' : NamesInScope → List Mark → List Mark} {again : NamesInScope → Type 0} {again' : NamesInScope → T} {t : T}
    {fits fits' : Within → Bool} {old mid new : List Token} (a b : ScopeRead) → fixed b ≡ fixed a
    → Begun s (read_scope a) own front (λ f. y ∷ back f) marks again fits old mid
    → Reads (read_scope a) (read_scope b) y marks' mid new → Numbered (read_scope a).names again' t
    → Fits (read_scope a).names own fits'
    → Begun s (read_scope b) own front back (λ n ms. marks n (marks' n ms)) (λ n. again n × (again' n ≡ t))
    (λ w. fits w && fits' w) old new
with_block {back = back} a b e r k = followed r (fixed_names b a e) k.spelled (λ f. k.goes_on (back f))

-- the `else` part of an `if`
pub with_else : {T : Type 0} {s : Scope} {own : Option Name} {c : Context} {front : Pending → Pending}
    {marks marks' : NamesInScope → List Mark → List Mark} {again : NamesInScope → Type 0} {again' : NamesInScope → T} {t : T}
    {fits fits' : Within → Bool} {old mid new : List Token} (a b : ScopeRead) → fixed b ≡ fixed a
    → Begun s (read_scope a) own front (λ f. items_else c ∷ f) marks again fits old mid
    → ReadsElse (read_scope a) (read_scope b) c marks' mid new → Numbered (read_scope a).names again' t
    → Fits (read_scope a).names own fits'
    → Begun s (read_scope b) own front (λ f. items c ∷ f) (λ n ms. marks n (marks' n ms)) (λ n. again n × (again' n ≡ t))
    (λ w. fits w && fits' w) old new
with_else a b e r k = followed r (fixed_names b a e) k.spelled k.goes_on

-- The statement that consists of all its parts.

pub record IsRead {T : Type 0} (s s' : Scope) (own : Option Name) (c : Context) (t : T)
    (marks : NamesInScope → List Mark → List Mark) (again : NamesInScope → T) (fit : Within → Bool)
    (old new : List Token) : Type 0 where
  pub ok : ReadsStatement s s' c marks old new
  pub numbered : Numbered s.names again t
  pub fits : Fits s.names own fit

is_read : {T : Type 0} {s s' : Scope} {own : Option Name} {c : Context} {t : T}
    {marks marks' : NamesInScope → List Mark → List Mark} {again : NamesInScope → Type 0} {again' : NamesInScope → T}
    {fits fits' : Within → Bool} {old new : List Token}
    → Begun s s' own (λ f. items c ∷ f) (λ f. items c ∷ f) marks again fits old new
    → ((n : NamesInScope) (ms : List Mark) → marks n ms ≡ marks' n ms) → ((n : NamesInScope) → again n → again' n ≡ t)
    → ((w : Within) → fits w ≡ fits' w) → IsRead s s' own c t marks' again' fits' old new
is_read r same numbered fits = record {
  ok = record { spelled = λ n u ms q. r.spelled n u ms q ∙ ap tokens (same n ms); goes_on = r.goes_on };
  numbered = λ n u. numbered n (r.numbered n u);
  fits = λ w u. sym (fits w) ∙ r.fit w u;
}

-- the marks and the numbers of an action are those of its parts, and it fits if they fit
pub record IsMadeOf (c : Context) (a : Action ℕ) (marks : NamesInScope → List Mark → List Mark) (again : NamesInScope → Type 0)
    (fits : Within → Bool) : Type 0 where
  pub spelled : (n : NamesInScope) (ms : List Mark) → marks n ms ≡ action_marks c (action_map (name_in n) a) ms
  pub numbered : (n : NamesInScope) → again n → action_map (number_in n) (action_map (name_in n) a) ≡ a
  pub fit : (w : Within) → fits w ≡ action_fits w a

pub action_read : {s s' : Scope} {own : Option Name} {c : Context} {a : Action ℕ}
    {marks : NamesInScope → List Mark → List Mark} {again : NamesInScope → Type 0} {fits : Within → Bool} {old new : List Token}
    → Begun s s' own (λ f. items c ∷ f) (λ f. items c ∷ f) marks again fits old new → IsMadeOf c a marks again fits
    → IsRead s s' own c a (λ n ms. action_marks c (action_map (name_in n) a) ms)
    (λ n. action_map (number_in n) (action_map (name_in n) a)) (λ w. action_fits w a) old new
action_read r m = is_read r m.spelled m.numbered m.fit

pub statement_read : {s s' : Scope} {own : Option Name} {c : Context} {t t' : Statement ℕ}
    {marks : NamesInScope → List Mark → List Mark} {again : NamesInScope → Type 0} {fits : Within → Bool} {old new : List Token}
    → t' ≡ t → Begun s s' own (λ f. items c ∷ f) (λ f. items c ∷ f) marks again fits old new
    → ((n : NamesInScope) (ms : List Mark) → marks n ms ≡ statement_marks c (statement_map (name_in n) t) ms)
    → ((n : NamesInScope) → again n → statement_map (number_in n) (statement_map (name_in n) t) ≡ t)
    → ((w : Within) → fits w ≡ statement_fits w t)
    → IsRead s s' own c t' (λ n ms. statement_marks c (statement_map (name_in n) t') ms)
    (λ n. statement_map (number_in n) (statement_map (name_in n) t')) (λ w. statement_fits w t') old new
statement_read e r spelled numbered fits = rw e (is_read r spelled numbered fits)

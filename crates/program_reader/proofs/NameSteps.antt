-- The next steps of reading after a name is looked up.
use Rattle.std.proofs.Common.{◌≡◌, ℕ, List, [], ◌∷◌, drop, length, refl, sym, ap, ◌∙◌, Option, Some, None, Bool, true}
use Rattle.std.proofs.Common.{false, not, ◌&&◌, ◌||◌}
use Rattle.program_tree.specs.Faults.{Scope, scope_after, is_other, is_own_name}
use Rattle.program_tree.specs.Grammar.{Context, Mark, named, uses, spawns, used, operand_mark}
use Rattle.program_tree.specs.InScope.{NamesInScope, is_a, is_in_scope, number_in, name_in}
use Rattle.program_reader.specs.Machine.{Pending, step, take, tell, fault, first, first_broken, operand}
use Rattle.program_tree.specs.Shapes.{Name}
use Rattle.program_reader.specs.Steps.{look, Finds, IsNameInScope, IsFound, Numbered, Fits, Reads}
use Rattle.program_tree.specs.Tokens.{Token}
use Rattle.program_tree.specs.Tree.{Class, a_thread}
use Rattle.program_tree.specs.declared.error.ReadErrorKind.{ReadErrorKind}
use Rattle.program_tree.specs.declared.error.ReadErrorKind.TheVariants.{UnknownName, BadTarget}
use Rattle.program_tree.specs.Forms as form
use Rattle.program_tree.specs.Tokens as token
use Rattle.program_reader.specs.declared.scope.Found.TheVariants as found
use Rattle.program_reader.proofs.ScopeLaws.{found_is_a, a_in_scope, name_again, number_again}

-- a token that fits, and whose mark breaks no rule
pub taken : (s : Scope) (f f' : Pending) (old : List Token) (t : Token) (m : Mark) → first old ≡ Some t
    → step f t ≡ take m f' → first_broken s m ≡ None →
    tell s f old ≡ tell (scope_after s m) f' (drop 1 old)
taken s f f' [] t m is fits sound = absurd cc
taken s f f' (x ∷ xs) t m is fits sound = let e : x ≡ t = cc in rw (e, fits, sound) refl

-- a token that fits, and whose mark breaks this rule first
pub broken : (s : Scope) (f f' : Pending) (old : List Token) (t : Token) (m : Mark) (k : ReadErrorKind)
    → first old ≡ Some t → step f t ≡ take m f' → first_broken s m ≡ Some k →
    tell s f old ≡ fault k (length old)
broken s f f' [] t m k is fits h = absurd cc
broken s f f' (x ∷ xs) t m k is fits h = let e : x ≡ t = cc in rw (e, fits, h) refl

pub front_of : (old : List Token) (t : Token) → first old ≡ Some t → old ≡ t ∷ drop 1 old
front_of [] t e = absurd cc
front_of (x ∷ xs) t e = let is : x ≡ t = cc in ap (λ y. y ∷ xs) is

-- a token and the tokens after it
pub token_then : (t : Token) (old new : List Token) → first old ≡ Some t → new ≡ drop 1 old → old ≡ t ∷ new
token_then t old new is from = front_of old t is ∙ ap (λ ts. t ∷ ts) (sym from)

-- the marks of names

found_scope : (n : NamesInScope) (c : Class) (x : Name) (i : ℕ) → look n c x ≡ Some i → is_in_scope n x ≡ true
found_scope n c x i e = a_in_scope n c x (found_is_a n c x i e)

uses_none : (s : Scope) (k : Class) (x : Name) → is_in_scope s.names x ≡ true → is_a s.names k x ≡ true
    → first_broken s (named x (uses k x)) ≡ None
uses_none s k x e f = rw (e, f) refl

spawns_none : (s : Scope) (own : Option Name) (x : Name) → is_in_scope s.names x ≡ true
    → is_a s.names a_thread x ≡ true → is_own_name own x ≡ false → first_broken s (named x (spawns own x)) ≡ None
spawns_none s own x e f g = rw (e, f, g) refl

uses_unknown : (s : Scope) (k : Class) (x : Name) → is_in_scope s.names x ≡ false → first_broken s (named x (uses k x))
    ≡ Some UnknownName
uses_unknown s k x e = rw e refl

spawns_unknown : (s : Scope) (own : Option Name) (x : Name) → is_in_scope s.names x ≡ false
    → first_broken s (named x (spawns own x)) ≡ Some UnknownName
spawns_unknown s own x e = rw e refl

other_at : (b : Bool) → (b || false) ≡ true → b ≡ true
other_at true e = refl
other_at false e = absurd cc

uses_other : (s : Scope) (k : Class) (x : Name) → is_in_scope s.names x ≡ true → (is_other s.names k x || false) ≡ true
    → first_broken s (named x (uses k x)) ≡ Some BadTarget
uses_other s k x e f = let g : not (is_a s.names k x) ≡ true = ap (λ b. b && not (is_a s.names k x)) (sym e)
    ∙ other_at _ f in rw (e, g) refl

spawns_other : (s : Scope) (own : Option Name) (x : Name) → is_in_scope s.names x ≡ true
    → (is_other s.names a_thread x || is_own_name own x) ≡ true → first_broken s (named x (spawns own x)) ≡ Some BadTarget
spawns_other s own x e f = let g : (not (is_a s.names a_thread x) || is_own_name own x) ≡ true =
    ap (λ b. (b && not (is_a s.names a_thread x)) || is_own_name own x) (sym e) ∙ f in rw (e, g) refl

used_none : (s : Scope) (c : Context) (k : Class) (x : Name) (i : ℕ) → Finds s.names c.thread k x i
    → first_broken s (named x (used c k x)) ≡ None
used_none s c a_thread x i f = spawns_none s c.thread x (found_scope s.names a_thread x i f.found)
    (found_is_a s.names a_thread x i f.found) f.other
used_none s c k x i f = uses_none s k x (found_scope s.names k x i f.found) (found_is_a s.names k x i f.found)

used_unknown : (s : Scope) (c : Context) (k : Class) (x : Name) → is_in_scope s.names x ≡ false
    → first_broken s (named x (used c k x)) ≡ Some UnknownName
used_unknown s c a_thread x e = spawns_unknown s c.thread x e
used_unknown s c k x e = uses_unknown s k x e

used_other : (s : Scope) (c : Context) (k : Class) (x : Name) → IsFound s.names c.thread k x found.Other
    → first_broken s (named x (used c k x)) ≡ Some BadTarget
used_other s c a_thread x f = spawns_other s c.thread x f.0 f.1
used_other s c k x f = uses_other s k x f.0 f.1

used_after : (s : Scope) (c : Context) (k : Class) (x : Name) → scope_after s (named x (used c k x)) ≡ s
used_after s c a_thread x = refl
used_after s c k x = refl

-- Reading a name of a class.

name_reads : (s : Scope) (c : Context) (k : Class) (x : Name) (i : ℕ) (old new : List Token)
    → first old ≡ Some (token.Name x) → Finds s.names c.thread k x i → new ≡ drop 1 old →
    Reads s s (operand c (form.name k)) (λ n ms. operand_mark c (form.name k) (name_in n k i) ∷ ms) old new
name_reads s c k x i old new is f from = record {
  spelled = λ n h ms e. front_of old (token.Name x) is ∙ ap (λ y. token.Name y ∷ drop 1 old)
      (sym (name_again s.names n c.thread k x i f h)) ∙ ap (λ ts. token.Name (name_in n k i) ∷ ts) (sym from ∙ sym e);
  goes_on = λ more.
      taken s (operand c (form.name k) ∷ more) more old (token.Name x) (named x (used c k x)) is refl
      (used_none s c k x i f)
      ∙ ap (λ z. tell z more (drop 1 old)) (used_after s c k x) ∙ ap (λ ts. tell s more ts) (sym from);
}

pub is_named : (n : NamesInScope) (own : Option Name) (k : Class) (x : Name) (i : ℕ) (old : List Token)
    → first old ≡ Some (token.Name x) → Finds n own k x i → IsNameInScope n own k i old
is_named n own k x i old is f = record { name = x; here = is; finds = f }

pub named_reads : (s : Scope) (c : Context) (k : Class) (i : ℕ) (old new : List Token)
    → IsNameInScope s.names c.thread k i old → new ≡ drop 1 old
    → Reads s s (operand c (form.name k)) (λ n ms. operand_mark c (form.name k) (name_in n k i) ∷ ms) old new
named_reads s c k i old new h from = name_reads s c k h.name i old new h.here h.finds from

pub named_numbered : (n : NamesInScope) (own : Option Name) (k : Class) (i : ℕ) (old : List Token) → IsNameInScope n own k i old
    → Numbered n (λ n'. number_in n' k (name_in n' k i)) i
named_numbered n own k i old f = λ n' h. number_again n n' own k f.name i f.finds h

pub named_fits : (n : NamesInScope) (own : Option Name) (k : Class) (i : ℕ) (old : List Token) → IsNameInScope n own k i old
    → Fits n own (λ w. w k i)
named_fits n own k i old f = λ w h. h k f.name i f.finds

pub ruleset name_steps = (named_reads, named_numbered, named_fits)

pub name_unknown : (s : Scope) (c : Context) (k : Class) (x : Name) (old : List Token) (more : Pending)
    → first old ≡ Some (token.Name x) → is_in_scope s.names x ≡ false → tell s (operand c (form.name k) ∷ more) old
    ≡ fault UnknownName (length old)
name_unknown s c k x old more is f = broken s (operand c (form.name k) ∷ more) more old (token.Name x)
    (named x (used c k x)) UnknownName is refl (used_unknown s c k x f)

pub name_other : (s : Scope) (c : Context) (k : Class) (x : Name) (old : List Token) (more : Pending)
    → first old ≡ Some (token.Name x) → IsFound s.names c.thread k x found.Other
    → tell s (operand c (form.name k) ∷ more) old ≡ fault BadTarget (length old)
name_other s c k x old more is f = broken s (operand c (form.name k) ∷ more) more old (token.Name x)
    (named x (used c k x)) BadTarget is refl (used_other s c k x f)

pub ruleset number_steps = (is_named, name_unknown, name_other)

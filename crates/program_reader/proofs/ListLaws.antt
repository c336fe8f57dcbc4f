-- Lists of declarations, one by one.
use Rattle.std.proofs.Common.{◌≡◌, ◌<◌, ◌≤◌, ℕ, List, [], ◌∷◌, ◌++◌, length, map, refl, ap, sym, ◌∙◌, append_assoc}
use Rattle.std.proofs.Common.{arith, Err, Result}
use Rattle.std.proofs.lemmas.List.{map-append, append-nil}
use Rattle.std.proofs.lemmas.Result.{err_from_is_err_and}
use Rattle.program_tree.specs.Faults.{Scope}
use Rattle.program_tree.specs.Grammar.{Mark, tokens}
use Rattle.program_reader.specs.Head.{with_all, HasDeclared, Declares, itself, DeclaresNames, HasValues, IsListed, IsValued}
use Rattle.program_reader.specs.Head.{with_names}
use Rattle.program_tree.specs.InScope.{NamesInScope, with_new}
use Rattle.program_reader.specs.Machine.{Symbol, Pending, Verdict, tell, new_name}
use Rattle.program_tree.specs.Shapes.{Name, Valued}
use Rattle.program_tree.specs.Tokens.{Token}
use Rattle.program_tree.specs.Tree.{Class}
use Rattle.program_reader.specs.declared.fault.Fault.{Fault}
use Rattle.std.specs.Prelude.{IsErrAnd}
use Rattle.program_tree.specs.declared.keyword.Keyword.{Keyword}
use Rattle.program_reader.specs.declared.fault.ReadFailure.{ReadFailure}
use Rattle.program_reader.specs.Machine as machine
use Rattle.program_tree.specs.Tokens as token
use Rattle.program_reader.specs.declared.fault.ReadFailure.TheVariants as refusal

pub with_all-append : (names : NamesInScope) (c : Class) (xs : List Name) (x : Name) → with_all names c (xs ++ x ∷ [])
    ≡ with_new (with_all names c xs) c x
with_all-append names c [] x = refl
with_all-append names c (y ∷ ys) x = with_all-append (with_new names c y) c ys x

none_declared : {A : Type 0} (c : Class) (name_of : A → Name) (y : Symbol) (marks : List A → List Mark → List Mark)
    (s : Scope) (old : List Token) → HasDeclared c name_of y marks [] s s old old
none_declared c name_of y marks s old = record {
  added = refl;
  starting = refl;
  spelled = λ more ms e. sym e;
  goes_on = λ f. refl;
}

pub no_names_yet : (c : Class) (y : Symbol) (marks : List Name → List Mark → List Mark) (s : Scope) (old : List Token)
    → DeclaresNames c y marks s s old old
no_names_yet c y marks s old = ([], none_declared c itself y marks s old)

pub no_values_yet : (c : Class) (y : Symbol) (marks : List Valued → List Mark → List Mark) (s : Scope)
    (old : List Token) → HasValues c y marks [] s s old old
no_values_yet c y marks s old = ([], refl, none_declared c (λ v. v.0) y marks s old)

one_declared : {A : Type 0} {c : Class} {name_of : A → Name} {y : Symbol} {marks : List A → List Mark → List Mark}
    {items : List A} {s m s' : Scope} {old rest new : List Token} (x : A)
    → HasDeclared c name_of y marks items s m old rest → s' ≡ with_names m (with_new m.names c (name_of x))
    → ((more : List A) (ms : List Mark) → tokens (marks more ms) ≡ new → rest ≡ tokens (marks (x ∷ more) ms))
    → ((f : Pending) → tell m (y ∷ f) rest ≡ tell s' (y ∷ f) new)
    → HasDeclared c name_of y marks (items ++ x ∷ []) s s' old new
one_declared {c = c} {name_of = name_of} {marks = marks} {items = items} {s = s} x h added spelled goes = record {
  added =
      ap (λ z. z.names) added ∙ ap (λ z. with_new z c (name_of x)) h.added
      ∙ sym (with_all-append s.names c (map name_of items) (name_of x))
      ∙ ap (with_all s.names c) (sym (map-append name_of items (x ∷ [])));
  starting = ap (λ z. z.starting) added ∙ h.starting;
  spelled = λ more ms e. h.spelled (x ∷ more) ms (sym (spelled more ms e)) ∙ ap (λ z. tokens (marks z ms))
      (sym (append_assoc items (x ∷ []) more));
  goes_on = λ f. h.goes_on f ∙ goes f;
}

-- a further declaration: the tokens of its marks, and the step at its keyword

pub names_more : {c : Class} {y : Symbol} {k : Keyword} {marks : List Name → List Mark → List Mark} {s m s' : Scope}
    {old rest m0 new : List Token} → DeclaresNames c y marks s m old rest → rest ≡ token.Keyword k ∷ m0
    → IsListed c m s' m0 new
    → ((x : Name) (more : List Name) (ms : List Mark) → tokens (marks (x ∷ more) ms)
    ≡ token.Keyword k ∷ token.Name x ∷ token.Semicolon ∷ tokens (marks more ms))
    → ((f : Pending) → tell m (y ∷ f) (token.Keyword k ∷ m0) ≡ tell m (new_name c ∷ machine.semicolon ∷ y ∷ f) m0)
    → DeclaresNames c y marks s s' old new
names_more {y = y} {k = k} {m = m} h split p spells steps = (
  h.0 ++ p.name ∷ [],
  one_declared p.name h.1 p.added (λ more ms e. split ∙ ap (λ ts. token.Keyword k ∷ ts)
      (p.spelled ∙ ap (λ ts. token.Name p.name ∷ token.Semicolon ∷ ts) (sym e)) ∙ sym (spells p.name more ms))
      (λ f. ap (tell m (y ∷ f)) split ∙ steps f ∙ p.goes_on (y ∷ f)),
)

pub values_more : {c : Class} {y : Symbol} {k : Keyword} {marks : List Valued → List Mark → List Mark}
    {values values' : List ℕ} {s m s' : Scope} {old rest m0 new : List Token}
    → HasValues c y marks values s m old rest → rest ≡ token.Keyword k ∷ m0 → IsValued c m s' values values' m0 new
    → ((v : Valued) (more : List Valued) (ms : List Mark) → tokens (marks (v ∷ more) ms) ≡ token.Keyword k
    ∷ token.Name v.0 ∷ token.Equals ∷ token.Number v.1 ∷ token.Semicolon ∷ tokens (marks more ms))
    → ((f : Pending) → tell m (y ∷ f) (token.Keyword k ∷ m0)
    ≡ tell m (new_name c ∷ machine.equals ∷ machine.number ∷ machine.semicolon ∷ y ∷ f) m0)
    → HasValues c y marks values' s s' old new
values_more {y = y} {k = k} {m = m} h split p spells steps = (
  h.0 ++ (p.name, p.value) ∷ [],
  p.pushed ∙ ap (λ z. z ++ p.value ∷ []) h.1 ∙ sym (map-append (λ v. v.1) h.0 ((p.name, p.value) ∷ [])),
  one_declared (p.name, p.value) h.2 p.added (λ more ms e. split ∙ ap (λ ts. token.Keyword k ∷ ts)
      (p.spelled ∙ ap (λ ts. token.Name p.name ∷ token.Equals ∷ token.Number p.value ∷ token.Semicolon ∷ ts) (sym e))
      ∙ sym (spells (p.name, p.value) more ms))
      (λ f. ap (tell m (y ∷ f)) split ∙ steps f ∙ p.goes_on (y ∷ f)),
)

-- the last declaration is read
pub all_declared : {A : Type 0} {c : Class} {name_of : A → Name} {y z : Symbol} {marks : List A → List Mark → List Mark}
    {items : List A} {s s' : Scope} {old rest new : List Token} → HasDeclared c name_of y marks items s s' old rest
    → ((ms : List Mark) → marks [] ms ≡ ms) → ((f : Pending) → tell s' (y ∷ f) rest ≡ tell s' (z ∷ f) rest)
    → new ≡ rest → Declares c name_of y z marks items s s' old new
all_declared {z = z} {marks = marks} {items = items} {s' = s'} h none passed same = record {
  added = h.added;
  starting = h.starting;
  spelled = λ ms e. h.spelled [] ms (ap tokens (none ms) ∙ e ∙ same) ∙ ap (λ v. tokens (marks v ms)) (append-nil items);
  goes_on = λ f. h.goes_on f ∙ passed f ∙ ap (tell s' (z ∷ f)) (sym same);
}

-- an error in a further declaration
pub declared_fails : {A : Type 0} {c : Class} {name_of : A → Name} {y : Symbol} {marks : List A → List Mark → List Mark}
    {items : List A} {s m : Scope} {old rest m0 : List Token} {k : Keyword} {v : Verdict} (more : Pending)
    → HasDeclared c name_of y marks items s m old rest → rest ≡ token.Keyword k ∷ m0
    → tell m (y ∷ more) (token.Keyword k ∷ m0) ≡ v → tell s (y ∷ more) old ≡ v
declared_fails {y = y} {m = m} more h split e = h.goes_on more ∙ ap (tell m (y ∷ more)) split ∙ e

pub shorter_behind : (t : Token) (old m0 new : List Token) → old ≡ t ∷ m0 → length new ≤ length m0
    → length new < length old
shorter_behind t old m0 new split h = omega (arith, ap length split)

pub ruleset list_steps = (no_names_yet, no_values_yet, shorter_behind)

-- an error that `?` passes on
pub handed_on : {T U : Type 0} {r : Result U ReadFailure} {a : ReadFailure} {f : Fault} → IsErrAnd r (λ e. e ≡ a)
    → r ≡ Err (refusal.Fault f) → ◌≡◌ {A = Result T ReadFailure} (Err a) (Err (refusal.Fault f))
handed_on {r = r} h e = let p = err_from_is_err_and r h in cc (p.1, p.2, e)

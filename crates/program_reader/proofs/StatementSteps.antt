-- The next steps of reading after the first token of a statement.
use Rattle.std.proofs.Common.{◌≡◌, ℕ, ◌+◌, ◌<◌, ◌≤◌, List, ◌∷◌, drop, length, refl, sym, ap, ◌∙◌, arith, Option, Some}
use Rattle.std.proofs.Common.{None, Bool, true, false, not, ◌&&◌, ◌||◌, nat_le}
use Rattle.program_tree.specs.Faults.{Scope, scope_after, is_other}
use Rattle.program_tree.specs.Forms.{Beginning, no_statement, action, branches, loops, goes_on, beginning, waits}
use Rattle.program_tree.specs.Grammar.{Context, target, begins_with, into_marks, key, sign, operand_mark}
use Rattle.program_tree.specs.InScope.{NamesInScope, is_a, is_in_scope, name_in, number_in}
use Rattle.program_reader.specs.Machine.{Pending, step, take, tell, fault, first, first_broken, begin_step, items}
use Rattle.program_reader.specs.Machine.{expression, equals, semicolon, into_end, operand}
use Rattle.program_tree.specs.Shapes.{Name}
use Rattle.program_reader.specs.Steps.{Finds, IsFound, Numbered, Fits, pending_of, IsStatement, BeginsStatement, IsTarget}
use Rattle.program_reader.specs.Steps.{Reads, ReadsSign}
use Rattle.program_tree.specs.Tokens.{Token}
use Rattle.program_tree.specs.Tree.{a_variable}
use Rattle.program_tree.specs.declared.error.ReadErrorKind.TheVariants.{UnknownName, WaitInSimpleBlock, TooMany}
use Rattle.program_tree.specs.declared.error.ReadErrorKind.TheVariants.{BadTarget}
use Rattle.program_tree.specs.declared.keyword.Keyword.{Keyword}
use Rattle.std.proofs.lemmas.Bool.Decides.{nat_tests}
use Rattle.program_tree.specs.Forms as form
use Rattle.program_tree.specs.Tokens as token
use Rattle.program_tree.specs.declared.keyword.Keyword.TheVariants as word
use Rattle.program_reader.specs.declared.scope.Found.TheVariants as found
use Rattle.program_reader.proofs.NameSteps.{taken, broken, front_of}
use Rattle.program_reader.proofs.ScopeLaws.{found_is_a, a_in_scope, name_again, number_again}

-- the scope after one more statement
abbrev pub counted : Scope → Scope
counted s = record s { statements = s.statements + 1 }

step_of : (c : Context) (k : Keyword) (b : Beginning) (f : Pending) → IsStatement b
    → begin_step c k b f ≡ take (begins_with c k) (pending_of c b f)
step_of c k no_statement f h = absurd h
step_of c k (action g) f h = refl
step_of c k branches f h = refl
step_of c k loops f h = refl
step_of c k goes_on f h = absurd h

begins_none : (s : Scope) (c : Context) (k : Keyword) → (c.simple && waits k) ≡ false → s.statements < 4096
    → first_broken s (begins_with c k) ≡ None
begins_none s c k e h = let low : nat_le 4096 s.statements ≡ false = grind (arith, nat_tests) in rw (e, low) refl

begins_wait : (s : Scope) (c : Context) (k : Keyword) → (c.simple && waits k) ≡ true → first_broken s (begins_with c k)
    ≡ Some WaitInSimpleBlock
begins_wait s c k e = rw e refl

begins_many : (s : Scope) (c : Context) (k : Keyword) → (c.simple && waits k) ≡ false → 4096 ≤ s.statements
    → first_broken s (begins_with c k) ≡ Some TooMany
begins_many s c k e h = let full : nat_le 4096 s.statements ≡ true = grind (arith, nat_tests) in rw (e, full) refl

begins_after : (s : Scope) (c : Context) (k : Keyword) → (c.simple && waits k) ≡ false
    → scope_after s (begins_with c k) ≡ counted s
begins_after s c k e = rw e refl

items_at : (c : Context) (k : Keyword) (f : Pending) → IsStatement (beginning k) → step (items c ∷ f) (token.Keyword k)
    ≡ take (begins_with c k) (pending_of c (beginning k) f)
items_at c k f h = step_of c k (beginning k) f h

pub begin_ok : (s s' : Scope) (c : Context) (k : Keyword) (old new : List Token) → first old ≡ Some (token.Keyword k)
    → IsStatement (beginning k) → (c.simple && waits k) ≡ false → s.statements < 4096 → s' ≡ counted s
    → new ≡ drop 1 old → BeginsStatement s s' c k old new
begin_ok s s' c k old new is h e low one from = record {
  spelled = front_of old (token.Keyword k) is ∙ ap (λ ts. token.Keyword k ∷ ts) (sym from);
  goes_on = λ f.
      taken s (items c ∷ f) (pending_of c (beginning k) f) old (token.Keyword k) (begins_with c k) is
      (items_at c k f h) (begins_none s c k e low)
      ∙ ap (λ z. tell z (pending_of c (beginning k) f) (drop 1 old)) (begins_after s c k e ∙ sym one)
      ∙ ap (λ ts. tell s' (pending_of c (beginning k) f) ts) (sym from);
}

pub begin_wait : (s : Scope) (c : Context) (k : Keyword) (f : Pending) (old : List Token)
    → first old ≡ Some (token.Keyword k) → IsStatement (beginning k) → (c.simple && waits k) ≡ true
    → tell s (items c ∷ f) old ≡ fault WaitInSimpleBlock (length old)
begin_wait s c k f old is h e = broken s (items c ∷ f) (pending_of c (beginning k) f) old (token.Keyword k)
    (begins_with c k) WaitInSimpleBlock is (items_at c k f h) (begins_wait s c k e)

pub begin_many : (s : Scope) (c : Context) (k : Keyword) (f : Pending) (old : List Token)
    → first old ≡ Some (token.Keyword k) → IsStatement (beginning k) → (c.simple && waits k) ≡ false
    → 4096 ≤ s.statements → tell s (items c ∷ f) old ≡ fault TooMany (length old)
begin_many s c k f old is h e full = broken s (items c ∷ f) (pending_of c (beginning k) f) old (token.Keyword k)
    (begins_with c k) TooMany is (items_at c k f h) (begins_many s c k e full)

pub ruleset may_begin_steps = (begin_wait, begin_many)

-- Assignments.

target_none : (s : Scope) (x : Name) → is_in_scope s.names x ≡ true → is_a s.names a_variable x ≡ true
    → s.statements < 4096 → first_broken s (target x) ≡ None
target_none s x e f h = let low : nat_le 4096 s.statements ≡ false = grind (arith, nat_tests) in rw (e, f, low) refl

target_many : (s : Scope) (x : Name) → is_in_scope s.names x ≡ true → 4096 ≤ s.statements
    → first_broken s (target x) ≡ Some TooMany
target_many s x e h = let full : nat_le 4096 s.statements ≡ true = grind (arith, nat_tests) in rw (e, full) refl

or_false : (b : Bool) → (b || false) ≡ true → b ≡ true
or_false true e = refl
or_false false e = absurd cc

target_bad : (s : Scope) (x : Name) → is_in_scope s.names x ≡ true → (is_other s.names a_variable x || false) ≡ true
    → s.statements < 4096 → first_broken s (target x) ≡ Some BadTarget
target_bad s x e f h =
    let low : nat_le 4096 s.statements ≡ false = grind (arith, nat_tests) in
    let g : not (is_a s.names a_variable x) ≡ true = ap (λ b. b && not (is_a s.names a_variable x)) (sym e)
    ∙ or_false _ f in
    rw (e, low, g) refl

pub target_ok : (s s' : Scope) (c : Context) (x : Name) (i : ℕ) (old new : List Token)
    → first old ≡ Some (token.Name x) → Finds s.names c.thread a_variable x i → s.statements < 4096 → s' ≡ counted s
    → new ≡ drop 1 old → IsTarget s s' c i old new
target_ok s s' c x i old new is g low one from =
    let a : is_a s.names a_variable x ≡ true = found_is_a s.names a_variable x i g.found in
    record {
      spelled = λ n h. front_of old (token.Name x) is ∙ ap (λ y. token.Name y ∷ drop 1 old)
          (sym (name_again s.names n c.thread a_variable x i g h))
          ∙ ap (λ ts. token.Name (name_in n a_variable i) ∷ ts) (sym from);
      goes_on = λ f.
          taken s (items c ∷ f) (equals ∷ expression c ∷ semicolon ∷ items c ∷ f) old (token.Name x) (target x) is refl
          (target_none s x (a_in_scope s.names a_variable x a) a low)
          ∙ ap (λ z. tell z (equals ∷ expression c ∷ semicolon ∷ items c ∷ f) (drop 1 old)) (sym one)
          ∙ ap (λ ts. tell s' (equals ∷ expression c ∷ semicolon ∷ items c ∷ f) ts) (sym from);
    }

unknown_mark : (s : Scope) (x : Name) → is_in_scope s.names x ≡ false → first_broken s (target x) ≡ Some UnknownName
unknown_mark s x e = rw e refl

pub target_unknown : (s : Scope) (c : Context) (x : Name) (f : Pending) (old : List Token)
    → first old ≡ Some (token.Name x) → is_in_scope s.names x ≡ false
    → tell s (items c ∷ f) old ≡ fault UnknownName (length old)
target_unknown s c x f old is e = broken s (items c ∷ f) (equals ∷ expression c ∷ semicolon ∷ items c ∷ f) old
    (token.Name x) (target x) UnknownName is refl (unknown_mark s x e)

pub target_full_other : (s : Scope) (c : Context) (x : Name) (f : Pending) (old : List Token)
    → first old ≡ Some (token.Name x) → IsFound s.names c.thread a_variable x found.Other → 4096 ≤ s.statements
    → tell s (items c ∷ f) old ≡ fault TooMany (length old)
target_full_other s c x f old is g full = broken s (items c ∷ f) (equals ∷ expression c ∷ semicolon ∷ items c ∷ f) old
    (token.Name x) (target x) TooMany is refl (target_many s x g.0 full)

pub target_full : (s : Scope) (c : Context) (x : Name) (i : ℕ) (f : Pending) (old : List Token)
    → first old ≡ Some (token.Name x) → Finds s.names c.thread a_variable x i → 4096 ≤ s.statements
    → tell s (items c ∷ f) old ≡ fault TooMany (length old)
target_full s c x i f old is g full = broken s (items c ∷ f) (equals ∷ expression c ∷ semicolon ∷ items c ∷ f) old
    (token.Name x) (target x) TooMany is refl (target_many s x
    (a_in_scope s.names a_variable x (found_is_a s.names a_variable x i g.found)) full)

pub target_other : (s : Scope) (c : Context) (x : Name) (f : Pending) (old : List Token)
    → first old ≡ Some (token.Name x) → IsFound s.names c.thread a_variable x found.Other → s.statements < 4096
    → tell s (items c ∷ f) old ≡ fault BadTarget (length old)
target_other s c x f old is g low = broken s (items c ∷ f) (equals ∷ expression c ∷ semicolon ∷ items c ∷ f) old
    (token.Name x) (target x) BadTarget is refl (target_bad s x g.0 g.1 low)

pub target_numbered : (n : NamesInScope) (own : Option Name) (x : Name) (i : ℕ) → Finds n own a_variable x i
    → Numbered n (λ n'. number_in n' a_variable (name_in n' a_variable i)) i
target_numbered n own x i f = λ n' h. number_again n n' own a_variable x i f h

pub target_fits : (n : NamesInScope) (own : Option Name) (x : Name) (i : ℕ) → Finds n own a_variable x i
    → Fits n own (λ w. w a_variable i)
target_fits n own x i f = λ w h. h a_variable x i f

pub ruleset may_assign_steps = (target_unknown, target_full_other, target_full, target_other)

pub ruleset target_steps = (target_ok, target_numbered, target_fits)

-- `into`

pub into_start : (s : Scope) (c : Context) (f : Pending) (old : List Token)
    → first old ≡ Some (token.Keyword word.Into) → tell s (into_end c ∷ f) old
    ≡ tell s (operand c (form.name a_variable) ∷ semicolon ∷ f) (drop 1 old)
into_start s c f old is = taken s (into_end c ∷ f) (operand c (form.name a_variable) ∷ semicolon ∷ f) old
    (token.Keyword word.Into) (key word.Into) is refl refl

pub into_reads : (s : Scope) (c : Context) (i : ℕ) (old m0 m1 new : List Token)
    → first old ≡ Some (token.Keyword word.Into) → m0 ≡ drop 1 old
    → Reads s s (operand c (form.name a_variable))
    (λ n ms. operand_mark c (form.name a_variable) (name_in n a_variable i) ∷ ms) m0 m1
    → ReadsSign semicolon token.Semicolon m1 new →
    Reads s s (into_end c) (λ n ms. into_marks (Some (name_in n a_variable i)) ms) old new
into_reads s c i old m0 m1 new is from r1 r2 = record {
  spelled = λ n h ms q. front_of old (token.Keyword word.Into) is ∙ ap (λ ts. token.Keyword word.Into ∷ ts)
      (sym from ∙ r1.spelled n h (sign token.Semicolon ∷ ms)
      (sym (r2.spelled ∙ ap (λ ts. token.Semicolon ∷ ts) (sym q))));
  goes_on = λ f. into_start s c f old is ∙ ap (λ ts. tell s (operand c (form.name a_variable) ∷ semicolon ∷ f) ts)
      (sym from) ∙ r1.goes_on (semicolon ∷ f) ∙ r2.goes_on s f;
}

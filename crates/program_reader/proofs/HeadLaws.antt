-- The next steps of reading at a declaration.
use Rattle.std.proofs.Common.{◌≡◌, ◌<◌, ◌≤◌, nat_lt, arith, ℕ, suc, List, [], ◌∷◌, ◌++◌, length, drop, Bool, true}
use Rattle.std.proofs.Common.{false, Option, Some, None, is_some, option_map, ◌+◌, refl, ap, sym, ◌∙◌, append_assoc}
use Rattle.std.proofs.Common.{Result, Ok, Err, leb, length-append}
use Rattle.std.proofs.lemmas.Bool.{leb-false}
use Rattle.std.proofs.lemmas.Bool.Decides.{nat_tests}
use Rattle.std.proofs.lemmas.List.{append-nil}
use Rattle.std.specs.Prelude.{OnOk, OnErr}
use Rattle.program_tree.specs.Faults.{Scope, is_full}
use Rattle.program_reader.specs.Head.{class_of_kind, with_names, IsNew, IsListed, IsValued}
use Rattle.program_tree.specs.InScope.{NamesInScope, with_new, is_in_scope, is_a}
use Rattle.program_reader.specs.Machine.{Pending, tell, fault, fault_or, first, new_name}
use Rattle.program_tree.specs.InScope.{place_in_names}
use Rattle.program_tree.specs.Shapes.{Name}
use Rattle.program_reader.specs.Steps.{ReadsSign}
use Rattle.program_tree.specs.Tokens.{Token}
use Rattle.program_tree.specs.Tree.{Class, a_timer}
use Rattle.program_tree.specs.declared.error.ReadErrorKind.TheVariants.{NameTwice, NumberTooLarge, TooMany}
use Rattle.program_reader.specs.declared.declarations.Kind.{Kind}
use Rattle.program_reader.specs.Machine as machine
use Rattle.program_tree.specs.Tokens as token
use Rattle.program_reader.specs.declared.declarations.Kind.TheVariants as kind
use Rattle.program_reader.proofs.NameSteps.{front_of}
use Rattle.program_reader.proofs.PlaceLaws.{place_left, place_right}
use Rattle.program_reader.proofs.ScopeLaws.{a_in_scope}

pub is_new : (c : Class) (s s' : Scope) (x : Name) (old new : List Token) → first old ≡ Some (token.Name x)
    → new ≡ drop 1 old → is_in_scope s.names x ≡ false → is_full s.names c ≡ false
    → s' ≡ with_names s (with_new s.names c x)
    → IsNew c s s' x old new
is_new c s s' x old new is from fresh room added = record {
  added = added;
  spelled = front_of old (token.Name x) is ∙ ap (λ ts. token.Name x ∷ ts) (sym from);
  sound = rw (fresh, room) refl;
}

pub new_twice : (c : Class) (s : Scope) (x : Name) (old : List Token) (more : Pending)
    → first old ≡ Some (token.Name x) → is_in_scope s.names x ≡ true → tell s (new_name c ∷ more) old
    ≡ fault NameTwice (length old)
new_twice c s x [] more is twice = absurd cc
new_twice c s x (token.Name y ∷ ts) more is twice = let e : y ≡ x = cc in rw (e, twice) refl
new_twice c s x (t ∷ ts) more is twice = absurd cc

pub new_many : (c : Class) (s : Scope) (x : Name) (old : List Token) (more : Pending) → first old ≡ Some (token.Name x)
    → is_in_scope s.names x ≡ false → is_full s.names c ≡ true → tell s (new_name c ∷ more) old
    ≡ fault TooMany (length old)
new_many c s x [] more is fresh full = absurd cc
new_many c s x (token.Name y ∷ ts) more is fresh full = let e : y ≡ x = cc in rw (e, fresh, full) refl
new_many c s x (t ∷ ts) more is fresh full = absurd cc

-- a name that isn't in scope is of no class
pub of_no_class : (names : NamesInScope) (c : Class) (x : Name) → is_in_scope names x ≡ false → is_a names c x ≡ false
of_no_class names c x h = go (is_a names c x) refl
  where
    go : (b : Bool) → is_a names c x ≡ b → is_a names c x ≡ false
    go true e = absurd (cc (h, a_in_scope names c x e))
    go false e = e

pub ruleset new_steps = (is_new, new_twice, new_many, of_no_class)

pub number_reads : (n : ℕ) (old new : List Token) → first old ≡ Some (token.Number n) → n ≤ 65535 → new ≡ drop 1 old
    → ReadsSign machine.number (token.Number n) old new
number_reads n [] new is h from = absurd cc
number_reads n (token.Number m ∷ ts) new is h from =
    let e : m ≡ n = cc in
    let small : nat_lt 65535 m ≡ false = grind (arith, nat_tests) in
    record {
      spelled = ap (λ z. token.Number z ∷ ts) e ∙ ap (λ z. token.Number n ∷ z) (sym from);
      goes_on = λ s f. rw small (ap (tell s f) (sym from));
    }
number_reads n (t ∷ ts) new is h from = absurd cc

pub number_large : (n : ℕ) (old : List Token) (s : Scope) (more : Pending) → first old ≡ Some (token.Number n)
    → 65535 < n → tell s (machine.number ∷ more) old ≡ fault NumberTooLarge (length old)
number_large n [] s more is h = absurd cc
number_large n (token.Number m ∷ ts) s more is h =
    let e : m ≡ n = cc in
    let large : nat_lt 65535 m ≡ true = grind (arith, nat_tests) in
    rw large refl
number_large n (t ∷ ts) s more is h = absurd cc

pub ruleset number_steps = (number_reads, number_large)

-- after a new name
pub new_goes : (c : Class) (s s' : Scope) (x : Name) (old new : List Token) (f : Pending) → IsNew c s s' x old new
    → tell s (new_name c ∷ f) old ≡ tell s' f new
new_goes c s s' x old new f r =
    ap (tell s (new_name c ∷ f)) r.spelled ∙ ap (λ o. fault_or o (suc (length new))
    (tell (with_names s (with_new s.names c x)) f new)) r.sound ∙ ap (λ z. tell z f new) (sym r.added)

pub is_listed : (c : Class) (s s' : Scope) (x : Name) (old m new : List Token) → IsNew c s s' x old m
    → ReadsSign machine.semicolon token.Semicolon m new → IsListed c s s' old new
is_listed c s s' x old m new r k = record {
  name = x;
  added = r.added;
  spelled = r.spelled ∙ ap (λ z. token.Name x ∷ z) k.spelled;
  goes_on = λ f. new_goes c s s' x old m (machine.semicolon ∷ f) r ∙ k.goes_on s' f;
}

pub is_valued : (c : Class) (s s' : Scope) (values values' : List ℕ) (x : Name) (v : ℕ) (old m0 m1 m2 new : List Token)
    → IsNew c s s' x old m0 → ReadsSign machine.equals token.Equals m0 m1
    → ReadsSign machine.number (token.Number v) m1 m2 → ReadsSign machine.semicolon token.Semicolon m2 new
    → values' ≡ values ++ v ∷ [] → IsValued c s s' values values' old new
is_valued c s s' values values' x v old m0 m1 m2 new r k1 k2 k3 e = record {
  name = x;
  value = v;
  added = r.added;
  pushed = e;
  spelled = r.spelled ∙ ap (λ z. token.Name x ∷ z)
      (k1.spelled ∙ ap (λ z. token.Equals ∷ z) (k2.spelled ∙ ap (λ z. token.Number v ∷ z) k3.spelled));
  goes_on = λ f. new_goes c s s' x old m0 (machine.equals ∷ machine.number ∷ machine.semicolon ∷ f) r
      ∙ k1.goes_on s' (machine.number ∷ machine.semicolon ∷ f) ∙ k2.goes_on s' (machine.semicolon ∷ f)
      ∙ k3.goes_on s' f;
}

mapped_none : (n : ℕ) (o : Option ℕ) → is_some (option_map (λ i. n + i) o) ≡ false → o ≡ None
mapped_none n None h = refl
mapped_none n (Some i) h = absurd cc

-- a name that isn't on this list isn't on the last part of the list
pub not_in_second : (xs ys : List Name) (x : Name) → is_some (place_in_names (xs ++ ys) x) ≡ false → place_in_names ys x ≡ None
not_in_second xs ys x h = go (place_in_names xs x) refl
  where
    go : (o : Option ℕ) → place_in_names xs x ≡ o → place_in_names ys x ≡ None
    go None e = mapped_none (length xs) (place_in_names ys x) (ap is_some (sym (place_right xs ys x e)) ∙ h)
    go (Some i) e = let k : is_some (place_in_names (xs ++ ys) x) ≡ true = ap is_some (place_left xs ys x i e) in
        absurd (cc (k, h))

-- the names that a declaration adds

pub event_added : (s : Scope) (k : Kind) (x : Name) (xs : List Name) → k ≡ kind.Event → xs ≡ s.names.events ++ x ∷ []
    → record s { names = record s.names { events = xs } } ≡ with_names s (with_new s.names (class_of_kind k) x)
event_added s k x xs is e = rw (is, e) refl

pub semaphore_added : (s : Scope) (k : Kind) (x : Name) (xs : List Name) → k ≡ kind.Semaphore
    → xs ≡ s.names.semaphores ++ x ∷ [] → record s { names = record s.names { semaphores = xs } }
    ≡ with_names s (with_new s.names (class_of_kind k) x)
semaphore_added s k x xs is e = rw (is, e) refl

pub process_added : (s : Scope) (k : Kind) (x : Name) (xs : List Name) → k ≡ kind.Process
    → xs ≡ s.names.processes ++ x ∷ [] → record s { names = record s.names { processes = xs } }
    ≡ with_names s (with_new s.names (class_of_kind k) x)
process_added s k x xs is e = rw (is, e) refl

pub variable_added : (s : Scope) (k : Kind) (x : Name) (xs : List Name) → k ≡ kind.Variable
    → xs ≡ s.names.variables ++ x ∷ [] → record s { names = record s.names { variables = xs } }
    ≡ with_names s (with_new s.names (class_of_kind k) x)
variable_added s k x xs is e = rw (is, e) refl

pub thread_added : (s : Scope) (k : Kind) (x : Name) (xs : List Name) → k ≡ kind.Thread
    → xs ≡ s.names.threads ++ x ∷ [] → record s { names = record s.names { threads = xs } }
    ≡ with_names s (with_new s.names (class_of_kind k) x)
thread_added s k x xs is e = rw (is, e) refl

timer_added : (s : Scope) (k : Kind) (x : Name) (ts : List Name) → class_of_kind k ≡ a_timer
    → ts ≡ s.names.timers ++ x ∷ [] → record s { names = record s.names { timers = ts } }
    ≡ with_names s (with_new s.names (class_of_kind k) x)
timer_added s k x ts is e = rw (is, e) refl

pub etimer_added : (s : Scope) (k : Kind) (x : Name) (es cs xs : List Name) → k ≡ kind.Etimer
    → s.names.timers ≡ es ++ cs → cs ≡ [] → xs ≡ es ++ x ∷ []
    → record s { names = record s.names { timers = xs ++ cs } } ≡ with_names s (with_new s.names (class_of_kind k) x)
etimer_added s k x es cs xs is all none e =
    timer_added s k x (xs ++ cs) (ap class_of_kind is) (ap (λ z. xs ++ z) none ∙ append-nil xs ∙ e
    ∙ ap (λ z. z ++ x ∷ []) (sym (append-nil es) ∙ ap (λ z. es ++ z) (sym none) ∙ sym all))

pub ctimer_added : (s : Scope) (k : Kind) (x : Name) (es cs xs : List Name) → k ≡ kind.Ctimer
    → s.names.timers ≡ es ++ cs → xs ≡ cs ++ x ∷ [] → record s { names = record s.names { timers = es ++ xs } }
    ≡ with_names s (with_new s.names (class_of_kind k) x)
ctimer_added s k x es cs xs is all e =
    timer_added s k x (es ++ xs) (ap class_of_kind is) (ap (λ z. es ++ z) e ∙ sym (append_assoc es cs (x ∷ []))
    ∙ ap (λ z. z ++ x ∷ []) (sym all))

-- the number of names after a declaration, whether or not there was enough memory for one more

one_more : {T E : Type 0} (r : Result T E) (x : Name) (xs ys : List Name) → OnOk r (ys ≡ xs ++ x ∷ [])
    → OnErr r (ys ≡ xs) → length ys ≤ length xs + 1
one_more (Ok v) x xs ys ok err = omega (arith, ap length ok, length-append xs (x ∷ []))
one_more (Err v) x xs ys ok err = omega (arith, ap length err)

-- there is room for a name of this kind
pub room : (n : NamesInScope) (k k' : Kind) → k ≡ k' → is_full n (class_of_kind k) ≡ false
    → is_full n (class_of_kind k') ≡ false
room n k k' is h = rw (← is) h

-- so there are never more names than allowed

pub few_more : {T E : Type 0} (r : Result T E) (most : ℕ) (x : Name) (xs ys : List Name) → leb most (length xs) ≡ false
    → OnOk r (ys ≡ xs ++ x ∷ []) → OnErr r (ys ≡ xs) → length ys ≤ most
few_more r most x xs ys h ok err = omega (arith, leb-false most (length xs) h, one_more r x xs ys ok err)

pub few_etimers : {T E : Type 0} (r : Result T E) (first : ℕ) (x : Name) (xs ys cs : List Name)
    → leb 64 (first + length (xs ++ cs)) ≡ false → OnOk r (ys ≡ xs ++ x ∷ []) → OnErr r (ys ≡ xs)
    → first + length ys + length cs ≤ 64
few_etimers r first x xs ys cs h ok err =
    omega (arith, leb-false 64 (first + length (xs ++ cs)) h, length-append xs cs, one_more r x xs ys ok err)

pub few_ctimers : {T E : Type 0} (r : Result T E) (first : ℕ) (x : Name) (es xs ys : List Name)
    → leb 64 (first + length (es ++ xs)) ≡ false → OnOk r (ys ≡ xs ++ x ∷ []) → OnErr r (ys ≡ xs)
    → first + length es + length ys ≤ 64
few_ctimers r first x es xs ys h ok err =
    omega (arith, leb-false 64 (first + length (es ++ xs)) h, length-append es xs, one_more r x xs ys ok err)

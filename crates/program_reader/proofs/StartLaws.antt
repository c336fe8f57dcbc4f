-- The processes that start at boot, name by name, and the receiver.
use Rattle.std.proofs.Common.{◌≡◌, ◌<◌, nat_lt, ℕ, List, [], ◌∷◌, ◌++◌, length, drop, map, true, false, Option, Some}
use Rattle.std.proofs.Common.{None, refl, ap, sym, subst, ◌∙◌, append_assoc}
use Rattle.std.specs.List.{All}
use Rattle.std.proofs.lemmas.Bool.{ltb-true, lt-ltb}
use Rattle.std.proofs.lemmas.List.{append-nil, map-append}
use Rattle.std.proofs.lemmas.List.Elements.{All-nil, All-cons, All-append}
use Rattle.program_tree.specs.Faults.{Scope}
use Rattle.program_tree.specs.Grammar.{tokens, sign, named, starts, at_body, operand_mark, starting_marks}
use Rattle.program_reader.specs.Head.{with_starting, CanStart, IsStarting, HasStarting, ReadsAutostart, ReadsReceiver}
use Rattle.program_tree.specs.InScope.{NamesInScope, is_in_scope, or_zero, number_in, name_in}
use Rattle.program_reader.specs.Machine.{Pending, Verdict, tell, fault, first, first_broken, starting, more_starting}
use Rattle.program_reader.specs.Machine.{from_autostart, from_receiver, codes, semicolon, operand}
use Rattle.program_tree.specs.InScope.{place_in_names}
use Rattle.program_tree.specs.Scope.{Within}
use Rattle.program_tree.specs.Shapes.{Name}
use Rattle.program_reader.specs.Steps.{ReadsSign, Reads, Numbered, Fits, Finds}
use Rattle.program_tree.specs.Tokens.{Token}
use Rattle.program_tree.specs.Tree.{Class, a_process}
use Rattle.program_tree.specs.declared.error.ReadErrorKind.{ReadErrorKind}
use Rattle.program_tree.specs.declared.error.ReadErrorKind.TheVariants.{UnknownName, NameTwice, BadTarget}
use Rattle.program_tree.specs.Forms as form
use Rattle.program_tree.specs.Tokens as token
use Rattle.program_tree.specs.declared.keyword.Keyword.TheVariants as word
use Rattle.program_reader.proofs.ExtendLaws.{extends_itself}
use Rattle.program_tree.proofs.NameLaws.{name_at, place_below}
use Rattle.program_reader.proofs.NameSteps.{front_of, taken, broken}
use Rattle.program_reader.proofs.Stages.{no_autostart, no_receiver}

-- one name

pub start_unknown : (s : Scope) (x : Name) → is_in_scope s.names x ≡ false → first_broken s (named x (starts x))
    ≡ Some UnknownName
start_unknown s x h = rw h refl

pub start_twice : (s : Scope) (x : Name) (i : ℕ) → is_in_scope s.names x ≡ true → place_in_names s.starting x ≡ Some i
    → first_broken s (named x (starts x)) ≡ Some NameTwice
start_twice s x i h k = rw (h, k) refl

pub start_other : (s : Scope) (x : Name) → is_in_scope s.names x ≡ true → place_in_names s.starting x ≡ None
    → place_in_names s.names.processes x ≡ None → first_broken s (named x (starts x)) ≡ Some BadTarget
start_other s x h k l = rw (h, k, l) refl

pub can_start : (s : Scope) (x : Name) (i : ℕ) → is_in_scope s.names x ≡ true → place_in_names s.starting x ≡ None
    → place_in_names s.names.processes x ≡ Some i → CanStart s x i
can_start s x i h k l = record { declared = h; fresh = k; known = l }

pub ruleset startable_steps = (start_unknown, start_twice, start_other, can_start)

pub start_fails : (s : Scope) (x : Name) (k : ReadErrorKind) (old : List Token) (more : Pending)
    → first old ≡ Some (token.Name x) → first_broken s (named x (starts x)) ≡ Some k
    → tell s (starting ∷ more) old ≡ fault k (length old)
start_fails s x k old more is h = broken s (starting ∷ more) more old (token.Name x) (named x (starts x)) k is refl h

pub is_starting : (s s' : Scope) (numbers numbers' : List ℕ) (x : Name) (i : ℕ) (old new : List Token)
    → first old ≡ Some (token.Name x) → new ≡ drop 1 old → CanStart s x i
    → s' ≡ with_starting s (s.starting ++ x ∷ []) → numbers' ≡ numbers ++ i ∷ []
    → IsStarting s s' numbers numbers' old new
is_starting s s' numbers numbers' x i old new is from can added pushed = record {
  name = x;
  number = i;
  known = can.known;
  added = added;
  pushed = pushed;
  spelled = front_of old (token.Name x) is ∙ ap (λ ts. token.Name x ∷ ts) (sym from);
  goes_on = λ f.
      taken s (starting ∷ f) f old (token.Name x) (named x (starts x)) is refl
      (rw (can.declared, can.fresh, can.known) refl)
      ∙ ap (λ ts. tell (with_starting s (s.starting ++ x ∷ [])) f ts) (sym from) ∙ ap (λ z. tell z f new) (sym added);
}

pub ruleset starting_steps = (start_fails, is_starting)

-- all names

all_one : (n i : ℕ) → i < n → All (λ k. k < n) (i ∷ [])
all_one n i h = All-cons (λ k. k < n) i [] h (All-nil (λ k. k < n))

number_is : (n : NamesInScope) (x : Name) (i : ℕ) → place_in_names n.processes x ≡ Some i → number_in n a_process x ≡ i
number_is n x i e = ap or_zero e

pub has_first : (s s' : Scope) (n0 n1 : List ℕ) (old m0 rest : List Token) → n0 ≡ []
    → old ≡ token.Keyword word.Autostart ∷ m0 → IsStarting s s' n0 n1 m0 rest
    → HasStarting s s' n1 old rest
has_first s s' n0 n1 old m0 rest none split r =
    let pushed : n1 ≡ r.number ∷ [] = r.pushed ∙ ap (λ z. z ++ r.number ∷ []) none in
    record {
      first = r.name;
      others = [];
      added = r.added;
      numbered = pushed ∙ ap (λ i. i ∷ []) (sym (number_is s.names r.name r.number r.known));
      named = sym (ap (map (name_in s.names a_process)) pushed
          ∙ ap (λ x. x ∷ []) (name_at s.names.processes r.name r.number r.known));
      within = subst (λ z. All (λ i. i < length s.names.processes) z) (sym pushed)
          (all_one _ r.number (place_below s.names.processes r.name r.number r.known));
      spelled = λ more ms e. split ∙ ap (λ ts. token.Keyword word.Autostart ∷ ts)
          (r.spelled ∙ ap (λ ts. token.Name r.name ∷ ts) (sym e));
      goes_on = λ x xs f. ap (tell s (from_autostart x xs ∷ f)) split
          ∙ r.goes_on (more_starting ∷ from_receiver x xs ∷ f);
    }

pub has_more : (s m s' : Scope) (n1 n2 : List ℕ) (old rest m0 new : List Token) → HasStarting s m n1 old rest
    → rest ≡ token.Comma ∷ m0 → IsStarting m s' n1 n2 m0 new → HasStarting s s' n2 old new
has_more s m s' n1 n2 old rest m0 new h split r =
    let known : place_in_names s.names.processes r.name ≡ Some r.number =
    ap (λ z. place_in_names z.names.processes r.name) (sym h.added) ∙ r.known in
    record {
      first = h.first;
      others = h.others ++ r.name ∷ [];
      added = r.added ∙ ap (λ z. with_starting z (z.starting ++ r.name ∷ [])) h.added
          ∙ ap (with_starting s) (append_assoc s.starting (h.first ∷ h.others) (r.name ∷ []));
      numbered =
          r.pushed ∙ ap (λ z. z ++ r.number ∷ []) h.numbered
          ∙ ap (λ i. map (number_in s.names a_process) (h.first ∷ h.others) ++ i ∷ [])
          (sym (number_is s.names r.name r.number known))
          ∙ sym (map-append (number_in s.names a_process) (h.first ∷ h.others) (r.name ∷ []));
      named =
          sym (ap (map (name_in s.names a_process)) r.pushed ∙ map-append (name_in s.names a_process) n1
          (r.number ∷ []) ∙ ap (λ zs. zs ++ (name_in s.names a_process r.number ∷ [])) (sym h.named)
          ∙ ap (λ x. (h.first ∷ h.others) ++ x ∷ []) (name_at s.names.processes r.name r.number known));
      within =
          subst (λ z. All (λ i. i < length s.names.processes) z) (sym r.pushed)
          (All-append (λ i. i < length s.names.processes) n1 (r.number ∷ []) h.within
          (all_one _ r.number (place_below s.names.processes r.name r.number known)));
      spelled = λ more ms e.
          h.spelled (r.name ∷ more) ms (sym (split ∙ ap (λ ts. token.Comma ∷ ts)
          (r.spelled ∙ ap (λ ts. token.Name r.name ∷ ts) (sym e))))
          ∙ ap (λ z. token.Keyword word.Autostart ∷ token.Name h.first ∷ tokens (starting_marks z ms))
          (sym (append_assoc h.others (r.name ∷ []) more));
      goes_on = λ x xs f. h.goes_on x xs f ∙ ap (tell m (more_starting ∷ from_receiver x xs ∷ f)) split
          ∙ r.goes_on (more_starting ∷ from_receiver x xs ∷ f);
    }

no_comma : (s : Scope) (f : Pending) (ts : List Token) → (first ts ≡ Some token.Comma → ⊥)
    → tell s (more_starting ∷ f) ts ≡ tell s (semicolon ∷ f) ts
no_comma s f (token.Comma ∷ ts) h = absurd (h refl)
no_comma s f ts h = refl

pub has_all : (s m : Scope) (n : List ℕ) (old rest r new : List Token) → HasStarting s m n old rest
    → (first rest ≡ Some token.Comma → ⊥) → r ≡ rest → ReadsSign semicolon token.Semicolon r new
    → ReadsAutostart s m n old new
has_all s m n old rest r new h other same k =
    let split : rest ≡ token.Semicolon ∷ new = sym same ∙ k.spelled in
    record {
      names = h.first ∷ h.others;
      added = h.added;
      numbered = h.numbered;
      named = h.named;
      within = h.within;
      spelled = λ ms e.
          h.spelled [] ms (sym (split ∙ ap (λ ts. token.Semicolon ∷ ts) (sym e)))
          ∙ ap (λ z. token.Keyword word.Autostart ∷ token.Name h.first ∷ tokens (starting_marks z ms))
          (append-nil h.others);
      goes_on = λ x xs f. h.goes_on x xs f ∙ no_comma m (from_receiver x xs ∷ f) rest other
          ∙ ap (tell m (semicolon ∷ from_receiver x xs ∷ f)) (sym same) ∙ k.goes_on m (from_receiver x xs ∷ f);
    }

pub none_starts : (s s' : Scope) (n : List ℕ) (old new : List Token) → s' ≡ s → n ≡ []
    → (first old ≡ Some (token.Keyword word.Autostart) → ⊥) → new ≡ old → ReadsAutostart s s' n old new
none_starts s s' n old new scope none other same = record {
  names = [];
  added = scope ∙ ap (with_starting s) (sym (append-nil s.starting));
  numbered = none;
  named = sym (ap (map (name_in s.names a_process)) none);
  within = subst (λ z. All (λ i. i < length s.names.processes) z) (sym none)
      (All-nil (λ i. i < length s.names.processes));
  spelled = λ ms e. sym same ∙ sym e;
  goes_on = λ x xs f. no_autostart s x xs f old other ∙ ap (tell s (from_receiver x xs ∷ f)) (sym same)
      ∙ ap (λ z. tell z (from_receiver x xs ∷ f) new) (sym scope);
}

pub first_fails : (s : Scope) (old m0 : List Token) (v : Verdict) (x : Name) (xs : List Name) (more : Pending)
    → old ≡ token.Keyword word.Autostart ∷ m0
    → ((more : Pending) → tell s (starting ∷ more) m0 ≡ v) → tell s (from_autostart x xs ∷ more) old ≡ v
first_fails s old m0 v x xs more split e = ap (tell s (from_autostart x xs ∷ more))
    split ∙ e (more_starting ∷ from_receiver x xs ∷ more)

pub more_fails : (s m : Scope) (n : List ℕ) (old rest m0 : List Token) (v : Verdict) (x : Name) (xs : List Name)
    (more : Pending) → HasStarting s m n old rest → rest ≡ token.Comma ∷ m0
    → ((more : Pending) → tell m (starting ∷ more) m0 ≡ v)
    → tell s (from_autostart x xs ∷ more) old ≡ v
more_fails s m n old rest m0 v x xs more h split e =
    h.goes_on x xs more ∙ ap (tell m (more_starting ∷ from_receiver x xs ∷ more))
    split ∙ e (more_starting ∷ from_receiver x xs ∷ more)

pub end_fails : (s m : Scope) (n : List ℕ) (old rest r : List Token) (v : Verdict) (x : Name) (xs : List Name)
    (more : Pending) → HasStarting s m n old rest → (first rest ≡ Some token.Comma → ⊥) → r ≡ rest
    → ((t : Scope) (f : Pending) → tell t (semicolon ∷ f) r ≡ v)
    → tell s (from_autostart x xs ∷ more) old ≡ v
end_fails s m n old rest r v x xs more h other same e =
    h.goes_on x xs more ∙ no_comma m (from_receiver x xs ∷ more) rest other
    ∙ ap (tell m (semicolon ∷ from_receiver x xs ∷ more)) (sym same) ∙ e m (from_receiver x xs ∷ more)

-- the receiver

pub no_receiver_read : (s : Scope) (old new : List Token) → (first old ≡ Some (token.Keyword word.Receiver) → ⊥)
    → new ≡ old → ReadsReceiver s None old new
no_receiver_read s old new other same = record {
  name = None;
  numbered = refl;
  named = refl;
  within = tt;
  spelled = λ ms e. sym same ∙ sym e;
  goes_on = λ x xs f. no_receiver s x xs f old other
      ∙ ap (tell s (codes x xs ∷ f)) (sym same);
}

-- the numbers of processes have a meaning, and so has any number of another class
within_processes : NamesInScope → Within
within_processes n a_process i = nat_lt i (length n.processes)
within_processes n c i = true

covers_processes : (n : NamesInScope) (own : Option Name) (c : Class) (x : Name) (i : ℕ) → Finds n own c x i
    → within_processes n c i ≡ true
unfolding within_processes
covers_processes n own a_process x i f = lt-ltb i (length n.processes) (place_below n.processes x i f.found)
covers_processes n own c x i f = refl

pub process_within : (n : NamesInScope) (own : Option Name) (i : ℕ) → Fits n own (λ w. w a_process i) → i < length n.processes
unfolding within_processes
process_within n own i h = ltb-true i (length n.processes) (h (within_processes n) (covers_processes n own))

pub receiver_read : (s : Scope) (i : ℕ) (old m0 m1 new : List Token) → old ≡ token.Keyword word.Receiver ∷ m0 → Reads s
    s (operand at_body (form.name a_process))
    (λ n ms. operand_mark at_body (form.name a_process) (name_in n a_process i) ∷ ms) m0 m1
    → Numbered s.names (λ n. number_in n a_process (name_in n a_process i)) i → i < length s.names.processes
    → ReadsSign semicolon token.Semicolon m1 new → ReadsReceiver s (Some i) old new
receiver_read s i old m0 m1 new split r numbered within k = record {
  name = Some (name_in s.names a_process i);
  numbered = ap Some (sym (numbered s.names (extends_itself s.names)));
  named = refl;
  within = within;
  spelled = λ ms e. split ∙ ap (λ ts. token.Keyword word.Receiver ∷ ts)
      (r.spelled s.names (extends_itself s.names) (sign token.Semicolon ∷ ms)
      (sym (k.spelled ∙ ap (λ ts. token.Semicolon ∷ ts) (sym e))));
  goes_on = λ x xs f. ap (tell s (from_receiver x xs ∷ f)) split ∙ r.goes_on (semicolon ∷ codes x xs ∷ f)
      ∙ k.goes_on s (codes x xs ∷ f);
}

pub receiver_fails : (s : Scope) (old m0 : List Token) (v : Verdict) (x : Name) (xs : List Name) (more : Pending)
    → old ≡ token.Keyword word.Receiver ∷ m0
    → ((more : Pending) → tell s (operand at_body (form.name a_process) ∷ more) m0 ≡ v)
    → tell s (from_receiver x xs ∷ more) old ≡ v
receiver_fails s old m0 v x xs more split e =
    ap (tell s (from_receiver x xs ∷ more)) split
    ∙ e (semicolon ∷ codes x xs ∷ more)

pub ruleset autostart_steps = (none_starts, has_first, has_all, first_fails)

pub ruleset receiver_steps = (no_receiver_read, receiver_read, receiver_fails)

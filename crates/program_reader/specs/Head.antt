-- The result of reading a part of the head of a program.
use Rattle.std.specs.Prelude.{◌≡◌, ℕ, true, List, [], ◌∷◌, ◌++◌, length, map, ◌<◌, Option, Some, None, IfSome}
use Rattle.std.specs.Prelude.{option_map, Result, Err}
use Rattle.std.specs.List.{All}
use Rattle.program_tree.specs.Faults.{Scope}
use Rattle.program_tree.specs.Grammar as role
use Rattle.program_tree.specs.Grammar.{Mark, tokens, sign, named, starting_marks, autostart_marks, receiver_marks}
use Rattle.program_tree.specs.InScope.{NamesInScope, with_new, is_in_scope, number_in, name_in}
use Rattle.program_reader.specs.Machine as machine
use Rattle.program_reader.specs.Machine.{Symbol, Pending, tell, fault, first_broken, new_name}
use Rattle.program_tree.specs.InScope.{place_in_names}
use Rattle.program_tree.specs.Numbers.{values_of}
use Rattle.program_tree.specs.Shapes.{Name, Valued}
use Rattle.program_tree.specs.Tokens as token
use Rattle.program_tree.specs.Tokens.{Token}
use Rattle.program_tree.specs.Tree.{Class, an_event, a_semaphore, a_process, a_variable, a_timer, a_thread}
use Rattle.program_reader.specs.declared.declarations.Kind.{Kind}
use Rattle.program_reader.specs.declared.declarations.Kind.TheVariants as kind
use Rattle.program_reader.specs.declared.fault.Fault.{Fault}
use Rattle.program_reader.specs.declared.fault.ReadFailure.{ReadFailure}
use Rattle.program_reader.specs.declared.fault.ReadFailure.TheVariants as refusal
use Rattle.program_tree.specs.declared.keyword.Keyword.TheVariants as word

abbrev pub class_of_kind : Kind → Class
class_of_kind kind.Event = an_event
class_of_kind kind.Semaphore = a_semaphore
class_of_kind kind.Process = a_process
class_of_kind kind.Variable = a_variable
class_of_kind kind.Etimer = a_timer
class_of_kind kind.Ctimer = a_timer
class_of_kind kind.Thread = a_thread

-- the scope, with other names
abbrev pub with_names : Scope → NamesInScope → Scope
with_names s n = record s { names = n }

-- the scope, with other processes in `autostart`
abbrev pub with_starting : Scope → List Name → Scope
with_starting s xs = record s { starting = xs }

-- if the result is an error of the tokens, it is the first error, whatever symbols follow these
abbrev pub FailsIn : {T : Type 0} → Scope → Pending → List Token → Result T ReadFailure → Type 0
FailsIn s y old result = (f : Fault) → result ≡ Err (refusal.Fault f) → (more : Pending)
    → tell s (y ++ more) old ≡ fault f.kind f.left

-- a new name of a class is read
pub record IsNew (c : Class) (s s' : Scope) (x : Name) (old new : List Token) : Type 0 where
  pub added : s' ≡ with_names s (with_new s.names c x)
  pub spelled : old ≡ token.Name x ∷ new
  pub sound : first_broken s (named x (role.new c x)) ≡ None

-- a new name and the semicolon after it are read
pub record IsListed (c : Class) (s s' : Scope) (old new : List Token) : Type 0 where
  pub name : Name
  pub added : s' ≡ with_names s (with_new s.names c name)
  pub spelled : old ≡ token.Name name ∷ token.Semicolon ∷ new
  pub goes_on : (f : Pending) → tell s (new_name c ∷ machine.semicolon ∷ f) old ≡ tell s' f new

-- a new name, its first value and the semicolon after it are read
pub record IsValued (c : Class) (s s' : Scope) (values values' : List ℕ) (old new : List Token) : Type 0 where
  pub name : Name
  pub value : ℕ
  pub added : s' ≡ with_names s (with_new s.names c name)
  pub pushed : values' ≡ values ++ value ∷ []
  pub spelled : old ≡ token.Name name ∷ token.Equals ∷ token.Number value ∷ token.Semicolon ∷ new
  pub goes_on : (f : Pending) → tell s (new_name c ∷ machine.equals ∷ machine.number ∷ machine.semicolon ∷ f) old
      ≡ tell s' f new

-- the names in scope after these names are declared, one by one
abbrev pub with_all : NamesInScope → Class → List Name → NamesInScope
with_all names c [] = names
with_all names c (x ∷ xs) = with_all (with_new names c x) c xs

-- some declarations of a class are read, and there may be more
pub record HasDeclared {A : Type 0} (c : Class) (name_of : A → Name) (y : Symbol) (marks : List A → List Mark
    → List Mark)
    (items : List A) (s s' : Scope) (old rest : List Token) : Type 0 where
  pub added : s'.names ≡ with_all s.names c (map name_of items)
  pub starting : s'.starting ≡ s.starting
  pub spelled : (more : List A) (ms : List Mark) → tokens (marks more ms) ≡ rest
      → old ≡ tokens (marks (items ++ more) ms)
  pub goes_on : (f : Pending) → tell s (y ∷ f) old ≡ tell s' (y ∷ f) rest

-- all declarations of a class are read, and the symbol after them is next
pub record Declares {A : Type 0} (c : Class) (name_of : A → Name) (y z : Symbol) (marks : List A → List Mark
    → List Mark)
    (items : List A) (s s' : Scope) (old new : List Token) : Type 0 where
  pub added : s'.names ≡ with_all s.names c (map name_of items)
  pub starting : s'.starting ≡ s.starting
  pub spelled : (ms : List Mark) → tokens ms ≡ new → old ≡ tokens (marks items ms)
  pub goes_on : (f : Pending) → tell s (y ∷ f) old ≡ tell s' (z ∷ f) new

abbrev pub itself : Name → Name
itself x = x

-- some events or event timers are read
abbrev pub DeclaresNames : Class → Symbol → (List Name → List Mark → List Mark) → Scope → Scope → List Token
    → List Token
    → Type 0
DeclaresNames c y marks s s' old rest = (items : List Name) × HasDeclared c itself y marks items s s' old rest

-- all events or event timers are read
abbrev pub ReadsNames : Class → Symbol → Symbol → (List Name → List Mark → List Mark) → Scope → Scope → List Token
    → List Token → Type 0
ReadsNames c y z marks s s' old new = (items : List Name) × Declares c itself y z marks items s s' old new

-- some semaphores or variables are read, with their first values
abbrev pub HasValues : Class → Symbol → (List Valued → List Mark → List Mark) → List ℕ → Scope → Scope → List Token
    → List Token → Type 0
HasValues c y marks values s s' old rest =
    (items : List Valued) × (values ≡ values_of items) × HasDeclared c (λ v. v.0) y marks items s s' old rest

-- all semaphores or variables are read, with their first values
abbrev pub ReadsValues : Class → Symbol → Symbol → (List Valued → List Mark → List Mark) → List ℕ → Scope → Scope
    → List Token → List Token → Type 0
ReadsValues c y z marks values s s' old new =
    (items : List Valued) × (values ≡ values_of items) × Declares c (λ v. v.0) y z marks items s s' old new

-- The process line.

-- the names after the first, each after a comma, and the semicolon of the line
abbrev pub line_marks : List Name → (after : List Mark) → List Mark
line_marks [] after = sign token.Semicolon ∷ after
line_marks (x ∷ xs) after = sign token.Comma ∷ named x (role.new a_process x) ∷ line_marks xs after

-- the first names of the process line are read
pub record HasProcesses (s s' : Scope) (old rest : List Token) : Type 0 where
  pub first : Name
  pub others : List Name
  pub added : s' ≡ with_names s (with_all s.names a_process (first ∷ others))
  pub spelled : (more : List Name) (ms : List Mark) → tokens (line_marks more ms) ≡ rest →
      old ≡ token.Keyword word.Process ∷ token.Name first ∷ tokens (line_marks (others ++ more) ms)
  pub goes_on : (f : Pending) → tell s (machine.from_semaphores ∷ f) old
      ≡ tell s' (machine.from_comma first others ∷ f) rest

-- the whole process line is read
pub record ReadsProcesses (s s' : Scope) (old new : List Token) : Type 0 where
  pub first : Name
  pub others : List Name
  pub added : s' ≡ with_names s (with_all s.names a_process (first ∷ others))
  pub spelled : (ms : List Mark) → tokens ms ≡ new → old ≡ token.Keyword word.Process ∷ token.Name first
      ∷ tokens (line_marks others ms)
  pub goes_on : (f : Pending) → tell s (machine.from_semaphores ∷ f) old
      ≡ tell s' (machine.from_autostart first others ∷ f) new

-- The processes that start at boot.

-- `autostart` may list this name, which is the name of the process with this number
pub record CanStart (s : Scope) (x : Name) (number : ℕ) : Type 0 where
  pub declared : is_in_scope s.names x ≡ true
  pub fresh : place_in_names s.starting x ≡ None
  pub known : place_in_names s.names.processes x ≡ Some number

-- one process of `autostart` is read
pub record IsStarting (s s' : Scope) (numbers numbers' : List ℕ) (old new : List Token) : Type 0 where
  pub name : Name
  pub number : ℕ
  pub known : place_in_names s.names.processes name ≡ Some number
  pub added : s' ≡ with_starting s (s.starting ++ name ∷ [])
  pub pushed : numbers' ≡ numbers ++ number ∷ []
  pub spelled : old ≡ token.Name name ∷ new
  pub goes_on : (f : Pending) → tell s (machine.starting ∷ f) old ≡ tell s' f new

-- the first processes of `autostart` are read
pub record HasStarting (s s' : Scope) (numbers : List ℕ) (old rest : List Token) : Type 0 where
  pub first : Name
  pub others : List Name
  pub added : s' ≡ with_starting s (s.starting ++ first ∷ others)
  pub numbered : numbers ≡ map (number_in s.names a_process) (first ∷ others)
  pub named : first ∷ others ≡ map (name_in s.names a_process) numbers
  pub within : All (λ i. i < length s.names.processes) numbers
  pub spelled : (more : List Name) (ms : List Mark) → tokens (starting_marks more ms) ≡ rest →
      old ≡ token.Keyword word.Autostart ∷ token.Name first ∷ tokens (starting_marks (others ++ more) ms)
  pub goes_on : (x : Name) (xs : List Name) (f : Pending) →
      tell s (machine.from_autostart x xs ∷ f) old ≡ tell s' (machine.more_starting ∷ machine.from_receiver x xs ∷ f)
      rest

-- all processes of `autostart` are read
pub record ReadsAutostart (s s' : Scope) (numbers : List ℕ) (old new : List Token) : Type 0 where
  pub names : List Name
  pub added : s' ≡ with_starting s (s.starting ++ names)
  pub numbered : numbers ≡ map (number_in s.names a_process) names
  pub named : names ≡ map (name_in s.names a_process) numbers
  pub within : All (λ i. i < length s.names.processes) numbers
  pub spelled : (ms : List Mark) → tokens ms ≡ new → old ≡ tokens (autostart_marks names ms)
  pub goes_on : (x : Name) (xs : List Name) (f : Pending) →
      tell s (machine.from_autostart x xs ∷ f) old ≡ tell s' (machine.from_receiver x xs ∷ f) new

-- The process that gets packets.
pub record ReadsReceiver (s : Scope) (receiver : Option ℕ) (old new : List Token) : Type 0 where
  pub name : Option Name
  pub numbered : receiver ≡ option_map (number_in s.names a_process) name
  pub named : name ≡ option_map (name_in s.names a_process) receiver
  pub within : IfSome receiver (λ i. i < length s.names.processes)
  pub spelled : (ms : List Mark) → tokens ms ≡ new → old ≡ tokens (receiver_marks name ms)
  pub goes_on : (x : Name) (xs : List Name) (f : Pending) →
      tell s (machine.from_receiver x xs ∷ f) old ≡ tell s (machine.codes x xs ∷ f) new

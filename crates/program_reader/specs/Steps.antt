-- The result of reading one part of a program: the marks of the part spell the tokens that were read, and the machine
-- continues after the part, whatever follows.
use Rattle.std.specs.Prelude.{◌≡◌, ℕ, ◌+◌, List, ◌∷◌, ◌++◌, Bool, true, false, ◌||◌, Option, Some, option_map, Result}
use Rattle.std.specs.Prelude.{Err}
pub use Rattle.program_tree.specs.Classes.{class_of}
use Rattle.program_tree.specs.Faults.{Scope, is_other, is_own_name}
use Rattle.program_tree.specs.Forms.{Beginning, no_statement, action, branches, loops, goes_on, beginning}
use Rattle.program_tree.specs.Grammar.{Context, Mark, tokens}
use Rattle.program_tree.specs.InScope.{NamesInScope, names_of, name_in, is_in_scope}
use Rattle.program_reader.specs.Machine.{Symbol, Pending, fault, tell, first, semicolon, equals, open_sign, close}
use Rattle.program_reader.specs.Machine.{open_brace, expression, block, items, items_else, symbols_of}
use Rattle.program_tree.specs.InScope.{place_in_names}
use Rattle.program_tree.specs.Scope.{Within}
use Rattle.program_tree.specs.Shapes.{Name}
use Rattle.program_tree.specs.Tokens as token
use Rattle.program_tree.specs.Tokens.{Token}
use Rattle.program_tree.specs.Tree.{Class, an_event, a_semaphore, a_process, a_variable, a_timer, a_thread}
use Rattle.program_reader.specs.declared.cursor.Sign.{Sign}
use Rattle.program_reader.specs.declared.cursor.Sign.TheVariants as read_sign
use Rattle.program_reader.specs.declared.fault.Fault.{Fault}
use Rattle.program_reader.specs.declared.fault.ReadFailure.{ReadFailure}
use Rattle.program_reader.specs.declared.fault.ReadFailure.TheVariants as refusal
use Rattle.program_tree.specs.declared.keyword.Keyword.{Keyword}
use Rattle.program_reader.specs.declared.scope.Context.{Context as ContextRead}
use Rattle.program_reader.specs.declared.scope.Found.{Found}
use Rattle.program_reader.specs.declared.scope.Found.TheVariants as found
use Rattle.program_reader.specs.declared.scope.Scope.{Scope as ScopeRead}

-- The meaning of the types of `src/scope.rt` and `src/cursor.rt`.

abbrev pub read_scope : ScopeRead → Scope
read_scope s = record {
  names = record {
    events = s.events;
    semaphores = s.semaphores;
    processes = s.processes;
    variables = s.variables;
    first_timer = s.first_timer;
    timers = s.etimers ++ s.ctimers;
    threads = s.threads;
  };
  starting = s.starting;
  statements = s.statements;
}

abbrev pub context_of : ContextRead → Context
context_of c = record { level = c.level; simple = c.simple; thread = option_map (λ x. x.now) c.thread }

-- the numbers of events are below 117, and the numbers of all other classes are below 64
abbrev pub most_of : Class → ℕ
most_of an_event = 117
most_of c = 64

abbrev pub symbol_of : Sign → Symbol
symbol_of read_sign.Semicolon = semicolon
symbol_of read_sign.Equals = equals
symbol_of read_sign.Open = open_sign
symbol_of read_sign.Close = close
symbol_of read_sign.OpenBrace = open_brace

abbrev pub token_of_sign : Sign → Token
token_of_sign read_sign.Semicolon = token.Semicolon
token_of_sign read_sign.Equals = token.Equals
token_of_sign read_sign.Open = token.Open
token_of_sign read_sign.Close = token.Close
token_of_sign read_sign.OpenBrace = token.OpenBrace

-- The look-up of names.

-- the number of a name that belongs to this class
abbrev pub look : NamesInScope → Class → Name → Option ℕ
look n a_timer x = option_map (λ i. n.first_timer + i) (place_in_names n.timers x)
look n c x = place_in_names (names_of n c) x

-- a thread is expected, and the name is that of the thread that is being read
abbrev pub is_own_thread : Option Name → Class → Name → Bool
is_own_thread own a_thread x = is_own_name own x
is_own_thread own c x = false

-- the name has this number, and isn't the name of the thread that is being read
pub record Finds (n : NamesInScope) (own : Option Name) (c : Class) (x : Name) (i : ℕ) : Type 0 where
  pub found : look n c x ≡ Some i
  pub other : is_own_thread own c x ≡ false

-- the first token is a name with this number
pub record IsNameInScope (n : NamesInScope) (own : Option Name) (c : Class) (i : ℕ) (old : List Token) : Type 0 where
  pub name : Name
  pub here : first old ≡ Some (token.Name name)
  pub finds : Finds n own c name i

-- the thing that a name refers to, if the reader expects this class
abbrev pub IsFound : NamesInScope → Option Name → Class → Name → Found → Type 0
IsFound n own c x found.Unknown = is_in_scope n x ≡ false
IsFound n own c x found.Other = (is_in_scope n x ≡ true) × ((is_other n c x || is_own_thread own c x) ≡ true)
IsFound n own c x (found.Here i) = Finds n own c x i

-- the second list begins with the first: the names in scope stay in scope, and more may be declared
abbrev pub IsFront : List Name → List Name → Type 0
IsFront xs ys = (more : List Name) × (ys ≡ xs ++ more)

-- the names in scope stay in scope with their numbers, and more may be declared
pub record Extends (n n' : NamesInScope) : Type 0 where
  pub front : (c : Class) → IsFront (names_of n c) (names_of n' c)
  pub first_timer : n'.first_timer ≡ n.first_timer

-- each number that is found for a name is one of these numbers
abbrev pub Covers : NamesInScope → Option Name → Within → Type 0
Covers n own w = (c : Class) (x : Name) (i : ℕ) → Finds n own c x i → w c i ≡ true

-- if the numbers of the tree are replaced by names and the names are numbered again, the tree stays the same, whatever
-- else is declared
abbrev pub Numbered : {T : Type 0} → NamesInScope → (again : NamesInScope → T) → T → Type 0
Numbered n again t = (n' : NamesInScope) → Extends n n' → again n' ≡ t

-- the names of the tree are in scope
abbrev pub Fits : NamesInScope → Option Name → (fits : Within → Bool) → Type 0
Fits n own fits = (w : Within) → Covers n own w → fits w ≡ true

-- The parts that the reader reads.

-- a required sign is read
pub record ReadsSign (y : Symbol) (t : Token) (old new : List Token) : Type 0 where
  pub spelled : old ≡ t ∷ new
  pub goes_on : (s : Scope) (f : Pending) → tell s (y ∷ f) old ≡ tell s f new

-- if the result is an error of the tokens, it is the first error, in each scope and whatever follows the sign
abbrev pub FailsSign : {T : Type 0} → Symbol → List Token → Result T ReadFailure → Type 0
FailsSign y old result = (f : Fault) → result ≡ Err (refusal.Fault f) → (s : Scope) (more : Pending)
    → tell s (y ∷ more) old ≡ fault f.kind f.left

-- a part is read; with each number replaced by its name, the part has these marks
pub record Reads (s s' : Scope) (y : Symbol) (marks : NamesInScope → List Mark → List Mark) (old new : List Token)
    : Type 0 where
  pub spelled : (n : NamesInScope) → Extends s.names n → (ms : List Mark) → tokens ms ≡ new → old ≡ tokens (marks n ms)
  pub goes_on : (f : Pending) → tell s (y ∷ f) old ≡ tell s' f new

-- if the result is an error of the tokens, it is the first error, whatever follows the symbol
abbrev pub Fails : {T : Type 0} → Scope → Symbol → List Token → Result T ReadFailure → Type 0
Fails s y old result = (f : Fault) → result ≡ Err (refusal.Fault f) → (more : Pending)
    → tell s (y ∷ more) old ≡ fault f.kind f.left

-- a statement of a block is read, and the rest of the block is still to be read
pub record ReadsStatement (s s' : Scope) (c : Context) (marks : NamesInScope → List Mark → List Mark)
    (old new : List Token) : Type 0 where
  pub spelled : (n : NamesInScope) → Extends s.names n → (ms : List Mark) → tokens ms ≡ new → old ≡ tokens (marks n ms)
  pub goes_on : (f : Pending) → tell s (items c ∷ f) old ≡ tell s' (items c ∷ f) new

-- the part after the first block of an `if` is read
pub record ReadsElse (s s' : Scope) (c : Context) (marks : NamesInScope → List Mark → List Mark) (old new : List Token)
    : Type 0 where
  pub spelled : (n : NamesInScope) → Extends s.names n → (ms : List Mark) → tokens ms ≡ new → old ≡ tokens (marks n ms)
  pub goes_on : (f : Pending) → tell s (items_else c ∷ f) old ≡ tell s' (items c ∷ f) new

-- the symbols that a statement requires after its first token
abbrev pub pending_of : Context → Beginning → Pending → Pending
pending_of c no_statement f = f
pending_of c (action g) f = symbols_of c g (items c ∷ f)
pending_of c branches f = expression c ∷ block c ∷ items_else c ∷ f
pending_of c loops f = expression c ∷ block c ∷ items c ∷ f
pending_of c goes_on f = f

-- a keyword with this role begins a statement
abbrev pub IsStatement : Beginning → Type 0
IsStatement no_statement = ⊥
IsStatement goes_on = ⊥
IsStatement b = Unit {0}

-- a keyword with this role begins neither an `if` nor a `while`
abbrev pub IsPlain : Beginning → Type 0
IsPlain branches = ⊥
IsPlain loops = ⊥
IsPlain b = Unit {0}

-- the block doesn't end here
abbrev pub IsInside : Option Token → Type 0
IsInside (Some token.CloseBrace) = ⊥
IsInside t = Unit {0}

-- the keyword of a statement is read, and the statement is counted
pub record BeginsStatement (s s' : Scope) (c : Context) (k : Keyword) (old new : List Token) : Type 0 where
  pub spelled : old ≡ token.Keyword k ∷ new
  pub goes_on : (f : Pending) → tell s (items c ∷ f) old ≡ tell s' (pending_of c (beginning k) f) new

-- the variable to which a statement assigns is read, and the statement is counted
pub record IsTarget (s s' : Scope) (c : Context) (i : ℕ) (old new : List Token) : Type 0 where
  pub spelled : (n : NamesInScope) → Extends s.names n → old ≡ token.Name (name_in n a_variable i) ∷ new
  pub goes_on : (f : Pending) → tell s (items c ∷ f) old ≡ tell s' (equals ∷ expression c ∷ semicolon ∷ items c ∷ f)
      new

-- the part of the scope that statements don't change
pub record Fixed : Type 0 where
  pub events : List Name
  pub semaphores : List Name
  pub processes : List Name
  pub variables : List Name
  pub first_timer : ℕ
  pub etimers : List Name
  pub ctimers : List Name
  pub threads : List Name
  pub starting : List Name

abbrev pub fixed : ScopeRead → Fixed
fixed s = record {
  events = s.events;
  semaphores = s.semaphores;
  processes = s.processes;
  variables = s.variables;
  first_timer = s.first_timer;
  etimers = s.etimers;
  ctimers = s.ctimers;
  threads = s.threads;
  starting = s.starting;
}

-- The tokens of programs, and the first error of tokens that don't form a program.
use Rattle.std.specs.Prelude.{◌≡◌, ℕ, ◌+◌, ◌<◌, nat_lt, nat_le, List, [], ◌∷◌, ◌++◌, length, Bool, true, false, not}
use Rattle.std.specs.Prelude.{◌&&◌, ◌||◌, IsTrue, Option, Some, None, ◌⊎◌}
use Rattle.std.specs.Str.{bytes_eq}
use Rattle.program_tree.specs.InScope.{NamesInScope, no_names, with_new, outside, is_a, is_among, is_in_scope}
use Rattle.program_tree.specs.Grammar.{Role, new, uses, spawns, starts, value, opens, leaves, Begun, none_begins}
use Rattle.program_tree.specs.Grammar.{statement, wait, Mark, tokens, program_marks}
use Rattle.program_tree.specs.Kinds.{kind_number}
use Rattle.program_tree.specs.Shapes.{Name, ProgramShape}
use Rattle.program_tree.specs.Tokens as token
use Rattle.program_tree.specs.Tokens.{Token}
use Rattle.program_tree.specs.Tree.{Class, an_event, a_semaphore, a_process, a_variable, a_timer, a_thread}
use Rattle.program_tree.specs.declared.keyword.Keyword.TheVariants.{Process}
use Rattle.program_tree.specs.declared.error.ReadErrorKind.{ReadErrorKind}
use Rattle.program_tree.specs.declared.error.ReadErrorKind.TheVariants.{BadToken, Unexpected, UnknownName, NameTwice}
use Rattle.program_tree.specs.declared.error.ReadErrorKind.TheVariants.{NumberTooLarge, WaitInSimpleBlock, TooDeep}
use Rattle.program_tree.specs.declared.error.ReadErrorKind.TheVariants.{TooMany, NoProcess, BadTarget}

-- the names in scope after some marks, the names that `autostart` lists, and the number of statements that have begun
pub record Scope : Type 0 where
  pub names : NamesInScope
  pub starting : List Name
  pub statements : ℕ

-- the scope before the first mark of a text
abbrev pub nothing_yet : Scope
nothing_yet = record { names = no_names; starting = []; statements = 0 }

-- the scope after a token with this role
abbrev pub with_role : Scope → Role → Scope
with_role s (new c x) = record s { names = with_new s.names c x }
with_role s (starts x) = record s { starting = s.starting ++ x ∷ [] }
with_role s leaves = record s { names = outside s.names }
with_role s r = s

-- the scope after a token with which this part begins
abbrev pub with_begun : Scope → Begun → Scope
with_begun s none_begins = s
with_begun s b = record s { statements = s.statements + 1 }

-- the scope after one more mark
abbrev pub scope_after : Scope → Mark → Scope
scope_after s m = with_begun (with_role s m.role) m.begins

-- the scope after further marks
abbrev pub scope_from : Scope → List Mark → Scope
scope_from s [] = s
scope_from s (m ∷ ms) = scope_from (scope_after s m) ms

-- the scope after the first marks of a text
abbrev pub scope_of : List Mark → Scope
scope_of ms = scope_from nothing_yet ms

-- no more names of this class may be declared
abbrev pub is_full : NamesInScope → Class → Bool
is_full n an_event = nat_le 117 (length n.events)
is_full n a_semaphore = nat_le 64 (length n.semaphores)
is_full n a_process = nat_le 64 (length n.processes)
is_full n a_variable = nat_le 64 (length n.variables)
is_full n a_timer = nat_le 64 (n.first_timer + length n.timers)
is_full n a_thread = nat_le 7 (length n.threads)

-- a name that is in scope, but belongs to another class than the expected one
abbrev pub is_other : NamesInScope → Class → Name → Bool
is_other n c x = is_in_scope n x && not (is_a n c x)

-- the name is that of the thread whose block it is in
abbrev pub is_own_name : Option Name → Name → Bool
is_own_name None x = false
is_own_name (Some own) x = bytes_eq own x

-- the role of the token breaks this rule in this scope, the scope of the marks before the token
abbrev pub role_breaks : ReadErrorKind → Scope → Role → Bool
role_breaks UnknownName s (uses c x) = not (is_in_scope s.names x)
role_breaks UnknownName s (spawns own x) = not (is_in_scope s.names x)
role_breaks UnknownName s (starts x) = not (is_in_scope s.names x)
role_breaks NameTwice s (new c x) = is_in_scope s.names x
role_breaks NameTwice s (starts x) = is_among s.starting x
role_breaks NumberTooLarge s (value n) = nat_lt 65535 n
role_breaks TooDeep s (opens level) = nat_lt 32 level
role_breaks TooMany s (new c x) = is_full s.names c
role_breaks BadTarget s (uses c x) = is_other s.names c x
role_breaks BadTarget s (spawns own x) = is_other s.names a_thread x || is_own_name own x
role_breaks BadTarget s (starts x) = is_other s.names a_process x
role_breaks k s r = false

-- the statement that begins here breaks this rule
abbrev pub begun_breaks : ReadErrorKind → Scope → Begun → Bool
begun_breaks WaitInSimpleBlock s wait = true
begun_breaks TooMany s statement = nat_le 4096 s.statements
begun_breaks TooMany s wait = nat_le 4096 s.statements
begun_breaks k s b = false

-- the token of the mark, or the statement that begins at it, breaks this rule
abbrev pub breaks : ReadErrorKind → Scope → Mark → Bool
breaks k s m = role_breaks k s m.role || begun_breaks k s m.begins

-- some program begins with the tokens `before` and the first of `rest`; if `rest` is empty, some program ends there
abbrev pub CanFollow : (before rest : List Token) → Type 0
CanFollow before [] = (p : ProgramShape) × (tokens (program_marks p []) ≡ before)
CanFollow before (t ∷ rest) =
    (p : ProgramShape) × (more : List Token) × (tokens (program_marks p []) ≡ before ++ (t ∷ more))

-- the text ends at a place where `process` is allowed
abbrev pub LacksProcess : (before rest : List Token) → Type 0
LacksProcess before [] = CanFollow before (token.Keyword Process ∷ [])
LacksProcess before (t ∷ rest) = ⊥

-- in some program that begins with the tokens `before` and the first token of `rest`, this first token breaks the rule
pub record Breach (k : ReadErrorKind) (before rest : List Token) : Type 0 where
  pub shape : ProgramShape
  pub marks : List Mark
  pub mark : Mark
  pub later : List Mark
  pub after : List Token
  pub spelled : program_marks shape [] ≡ marks ++ (mark ∷ later)
  pub begins : tokens marks ≡ before
  pub at : rest ≡ mark.token ∷ after
  pub broken : IsTrue (breaks k (scope_of marks) mark)

-- an error at the first token of `rest`, or at the end of the text if `rest` is empty
abbrev pub IsFault : ReadErrorKind → (before rest : List Token) → Type 0
IsFault BadToken before rest = (after : List Token) × (rest ≡ token.Bad ∷ after)
IsFault Unexpected before rest = (CanFollow before rest ⊎ LacksProcess before rest) → ⊥
IsFault NoProcess before rest = LacksProcess before rest
IsFault k before rest = Breach k before rest

-- the error at the earliest token; if there are several at this token, the one with the least number
pub record IsFirstFault (k : ReadErrorKind) (before rest : List Token) : Type 0 where
  pub here : IsFault k before rest
  pub least : (j : ReadErrorKind) → kind_number j < kind_number k → IsFault j before rest → ⊥
  pub earliest : (b r : List Token) (j : ReadErrorKind) → before ++ rest ≡ b ++ r → length b < length before
      → IsFault j b r → ⊥

-- the tokens of a program, none of which breaks a rule
pub record IsProgram (p : ProgramShape) (text : List Token) : Type 0 where
  pub spelled : tokens (program_marks p []) ≡ text
  pub sound : (b r : List Token) (j : ReadErrorKind) → text ≡ b ++ r → IsFault j b r → ⊥

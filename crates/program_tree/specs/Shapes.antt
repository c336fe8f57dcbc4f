-- The shape of a program: its tree, with the names that are in the text.
use Rattle.std.specs.Prelude.{ℕ, List, Option}
use Rattle.program_tree.specs.Forms.{Operand, name, cast, sent, any, Form, ends, tells, takes, values, Beginning}
use Rattle.program_tree.specs.Forms.{action, Word, no_value, alone, tells_of}
use Rattle.program_tree.specs.EventNames.{BroadcastEvent, PostedEvent, TestedEvent}
use Rattle.program_tree.specs.Tree.{Expression, Body}

-- the bytes of a written name
abbrev pub Name : Type 0
Name = List ℕ

-- a variable or a semaphore with its first value
abbrev pub Valued : Type 0
Valued = Name × ℕ

-- a callback timer or a thread with its block
abbrev pub Named : Type 0
Named = Name × (Body Name)

-- the text between the braces of a code
pub record CodeShape : Type 0 where
  pub variables : List Valued
  pub etimers : List Name
  pub ctimers : List Named
  pub threads : List Named
  pub on_poll : Option (Body Name)
  pub on_exit : Option (Body Name)
  pub body : Body Name

-- Each process of the process line has its code. The list of processes that start at boot is empty if there is no
-- `autostart`.
pub record ProgramShape : Type 0 where
  pub events : List Name
  pub semaphores : List Valued
  pub first : Name × CodeShape
  pub others : List (Name × CodeShape)
  pub autostart : List Name
  pub receiver : Option Name

-- the parts at the places that the tables of the grammar mention
abbrev pub OperandShape : Operand → Type 0
OperandShape (name c) = Name
OperandShape cast = BroadcastEvent Name
OperandShape sent = PostedEvent Name
OperandShape any = TestedEvent Name

abbrev pub WordShape : Word → Type 0
WordShape no_value = ⊥
WordShape alone = Unit {0}
WordShape (tells_of o) = OperandShape o

abbrev pub FormShape : Form → Type 0
FormShape ends = Unit {0}
FormShape tells = Option Name
FormShape (takes o f) = OperandShape o × (FormShape f)
FormShape (values f) = Expression Name × (FormShape f)

abbrev pub ActionShape : Beginning → Type 0
ActionShape (action f) = FormShape f
ActionShape b = ⊥

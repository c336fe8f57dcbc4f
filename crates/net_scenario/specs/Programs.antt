-- The programs of a scenario, in byte order of their names, and how they are read.
use Rattle.std.specs.Prelude.{◌≡◌, ℕ, List, [], ◌∷◌, ◌++◌, unwrap_or}
use Rattle.toml.specs.Data.{Members, no_members, member, as_str}
use Rattle.program_tree.specs.Reading.{IsTreeOf, IsErrorOf}
use Rattle.program_tree.specs.declared.error.ReadError.{ReadError}
use Rattle.mote_net.specs.Programs.{NamedTree}

-- a program of the table: its name and its text
pub record ProgramText : Type 0 where
  pub name : List ℕ
  pub text : List ℕ

-- the programs of a table, whose members are in byte order of their names
abbrev pub program_texts : Members → List ProgramText
program_texts no_members = []
program_texts (member k d ms) = record { name = k; text = unwrap_or (as_str d) [] } ∷ program_texts ms

-- the text of each program is a text of the tree at the same place
abbrev pub AllRead : List ProgramText → List NamedTree → Type 0
AllRead [] [] = Unit {0}
AllRead (p ∷ ps) (t ∷ ts) = (t.name ≡ p.name) × IsTreeOf p.text t.tree × AllRead ps ts
AllRead _ _ = ⊥

-- the first program that can't be read: the programs before it can be read, and this is the error that is reported for
-- its text
pub record FirstRefused (programs : List ProgramText) (name : List ℕ) (error : ReadError) : Type 0 where
  pub before : List ProgramText
  pub text : List ℕ
  pub after : List ProgramText
  pub trees : List NamedTree
  pub split : programs ≡ before ++ record { name = name; text = text } ∷ after
  pub read : AllRead before trees
  pub matches : IsErrorOf text error.kind error.line

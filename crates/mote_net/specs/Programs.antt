-- The programs of a net.
use Rattle.std.specs.Prelude.{ℕ, List}
use Rattle.program_tree.specs.Code.{Tree}

-- a program: its name and its tree
pub record NamedTree : Type 0 where
  pub name : List ℕ
  pub tree : Tree
